use Rattle.std.proofs.Common.{w64, refl}
use Rattle.std.proofs.lemmas.Int.{to_z-of_z}
use Rattle.seg_cells.specs.Places.{object_at}
use Rattle.seg_map.proofs.FlatMaps.{read_entry, read_none}
use Rattle.seg_map.proofs.flat.entry_at.Goals as goal

pub returns-then-index-count : goal.returns-then-index-count
returns-then-index-count g c = λ T U keys vs blocks f s e.
    let stored = g.S.SegmentRead.stored c.args.source.now in
    let allocator = g.S.SegmentRead.allocator c.args.source.now in
    read_entry allocator stored.window.bytes stored.types (object_at c.args.cell T) U keys vs blocks f s c.args.entry c.args.index c.count.result c.start-entries.result c.at.result _
    c.load.result _ e c.count.ensures c.if-index-count.true c.start-entries.ensures c.at.ensures c.load.ensures (to_z-of_z w64 c.load.result (record { sfits = c.load.type_inv })) refl c.value_at.ensures

pub returns-else-index-count : goal.returns-else-index-count
returns-else-index-count g c = λ T U keys vs blocks f s e.
    let stored = g.S.SegmentRead.stored c.args.source.now in
    let allocator = g.S.SegmentRead.allocator c.args.source.now in
    read_none allocator stored.window.bytes stored.types (object_at c.args.cell T) U keys vs blocks f s c.args.index c.count.result c.count.ensures c.if-index-count.false
