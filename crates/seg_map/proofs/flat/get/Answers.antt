use Rattle.std.proofs.Common.{sym, ◌∙◌, w64}
use Rattle.std.proofs.lemmas.Int.{to_z-of_z}
use Rattle.seg_cells.specs.Places.{object_at}
use Rattle.seg_map.proofs.FlatMaps.{got, got_none}
use Rattle.seg_map.proofs.flat.get.Goals as goal

pub returns : goal.returns
returns g c = λ T U keys vs blocks f s e.
    let stored = g.S.SegmentRead.stored c.args.source.now in
    let allocator = g.S.SegmentRead.allocator c.args.source.now in
    got allocator stored.window.bytes stored.types (object_at c.args.cell T) U keys vs blocks f s c.args.entry c.args.key _ c.in_ok-index.index c.start.result c.value_at.result
    c.search.result e (to_z-of_z w64 c.args.key c.ranges.key) (c.search.ensures T U keys vs blocks f s e) (sym c.ok.ensures.value ∙ c.in_ok-index.was) c.start.ensures c.value_at.ensures

pub returns-in_err-index : goal.returns-in_err-index
returns-in_err-index g c = λ T U keys vs blocks f s e.
    let stored = g.S.SegmentRead.stored c.args.source.now in
    let allocator = g.S.SegmentRead.allocator c.args.source.now in
    rw c.from_residual.ensures
    (got_none allocator stored.window.bytes stored.types (object_at c.args.cell T) U keys vs blocks f s c.args.key _ c.search.result (to_z-of_z w64 c.args.key c.ranges.key)
    (c.search.ensures T U keys vs blocks f s e) (sym c.ok.ensures.value ∙ c.in_err-index.was))
