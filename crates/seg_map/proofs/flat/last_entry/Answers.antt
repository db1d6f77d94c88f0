use Rattle.seg_cells.specs.Places.{object_at}
use Rattle.seg_map.proofs.FlatMaps.{read_last}
use Rattle.seg_map.proofs.flat.last_entry.Goals as goal

pub returns : goal.returns
returns g c = λ T U keys vs blocks f s e.
    let stored = g.S.SegmentRead.stored c.args.source.now in
    let allocator = g.S.SegmentRead.allocator c.args.source.now in
    read_last allocator stored.window.bytes stored.types (object_at c.args.cell T) U keys vs blocks f s c.count.result c.entry_before.result c.count.ensures (c.entry_before.ensures T U keys vs blocks f s e)
