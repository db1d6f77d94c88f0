use Rattle.std.proofs.Common.{Ok, sym, ap, ◌∙◌}
use Rattle.seg_cells.specs.Places.{place_of}
use Rattle.seg_map.proofs.MapCountLaws.{keys_counted}
use Rattle.seg_map.proofs.map.len.Goals as goal

pub returns-clause-keys : goal.returns-clause-keys
returns-clause-keys g c = λ U keys vs blocks is s.
    let stored = g.S.SegmentRead.stored c.args.source.now in
    let allocator = g.S.SegmentRead.allocator c.args.source.now in
    ap (λ n. Ok n) (c.count.ensures ∙ sym (keys_counted allocator stored.window.bytes stored.types (place_of c.args.map) U keys vs blocks s is))
