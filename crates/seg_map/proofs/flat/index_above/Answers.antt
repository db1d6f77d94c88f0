use Rattle.std.proofs.Common.{w64}
use Rattle.std.proofs.lemmas.Int.{to_z-of_z}
use Rattle.seg_cells.specs.Places.{object_at}
use Rattle.seg_map.proofs.FlatMaps.{next_read, next_read_missing}
use Rattle.seg_map.proofs.flat.index_above.Goals as goal

pub returns-in-Ok : goal.returns-in-Ok
returns-in-Ok g c = λ T U keys vs blocks f s e.
    let stored = g.S.SegmentRead.stored c.args.source.now in
    next_read (g.S.SegmentRead.allocator c.args.source.now) stored.window.bytes stored.types (object_at c.args.cell T) U keys vs blocks f s c.args.after _ c.in-Ok.index c.saturating_add.result c.search.result
    (to_z-of_z w64 c.args.after c.ranges.after) (c.search.ensures T U keys vs blocks f s e) c.in-Ok.is c.saturating_add.ensures

pub returns-in-Err : goal.returns-in-Err
returns-in-Err g c = λ T U keys vs blocks f s e.
    let stored = g.S.SegmentRead.stored c.args.source.now in
    next_read_missing (g.S.SegmentRead.allocator c.args.source.now) stored.window.bytes stored.types (object_at c.args.cell T) U keys vs blocks f s c.args.after _ c.in-Err.index c.search.result
    (to_z-of_z w64 c.args.after c.ranges.after) (c.search.ensures T U keys vs blocks f s e) c.in-Err.is
