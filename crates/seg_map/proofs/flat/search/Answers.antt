use Rattle.std.proofs.Common.{rules}
use Rattle.seg_cells.specs.Places.{object_at}
use Rattle.seg_map.proofs.FlatMaps.{searched, ok_then, err_then, or_then}
use Rattle.seg_map.proofs.flat.search.Goals as goal

pub returns : goal.returns
returns g c = λ T U keys vs blocks f s e.
    let stored = g.S.SegmentRead.stored c.args.source.now in
    let allocator = g.S.SegmentRead.allocator c.args.source.now in
    searched allocator stored.window.bytes stored.types (object_at c.args.cell T) U keys vs blocks f s c.args.key c.start-entries.result c.args.entry.size c.count.result
    c.binary_search.result c.start-entries.ensures e.size_is c.count.ensures
    (ok_then c.binary_search.result c.binary_search.ensures.found (λ i h. (h.0, search rules)))
    (err_then c.binary_search.result c.binary_search.ensures.missing (λ i h. (h.0, (or_then h.1.0 (λ p. search rules), or_then h.1.1 (λ p. search rules)))))
