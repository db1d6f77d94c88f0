use Rattle.std.proofs.Common.{subst, arith}
use Rattle.seg_cells.specs.Places.{object_at}
use Rattle.seg_map.specs.Maps.{FindsEntry}
use Rattle.seg_map.proofs.FlatMaps.{read_before, none_before}
use Rattle.seg_map.proofs.flat.entry_before.Goals as goal

pub returns : goal.returns
returns g c = λ T U keys vs blocks f s e low.
    let stored = g.S.SegmentRead.stored c.args.source.now in
    let allocator = g.S.SegmentRead.allocator c.args.source.now in
    let less = c.in_ok-checked_sub.ensures in
    subst (λ k. FindsEntry stored.window.bytes stored.types (object_at c.args.cell T) U k c.entry_at.result)
    (read_before allocator stored.window.bytes stored.types (object_at c.args.cell T) U keys vs blocks f s c.args.index c.in_ok-checked_sub.field-0 less.1 less.0 low)
    (c.entry_at.ensures T U keys vs blocks f s e)

pub returns-in_err-checked_sub : goal.returns-in_err-checked_sub
returns-in_err-checked_sub g c = λ T U keys vs blocks f s e low.
    let stored = g.S.SegmentRead.stored c.args.source.now in
    let allocator = g.S.SegmentRead.allocator c.args.source.now in
    rw c.from_residual.ensures
    (none_before allocator stored.window.bytes stored.types (object_at c.args.cell T) U keys vs blocks f s c.args.index (let less = c.in_err-checked_sub.ensures in omega arith))
