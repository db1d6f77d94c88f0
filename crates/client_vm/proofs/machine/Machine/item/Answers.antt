use Rattle.client_vm.proofs.ObjectLaws.{named_same, item_absent, item_large, item_huge, item_there}
use Rattle.client_vm.proofs.machine.Machine.item.Goals as goal
use Rattle.std.proofs.Common.{◌∙◌, ap, arith}
use Rattle.seg_spec.specs.Types.{Table, size}

pub returns-in-Err : goal.returns-in-Err
returns-in-Err g c =
    let named = named_same c.args.self.now c.args.i.now c.name.result.items c.as_slice.result.now c.as_slice.ensures.value c.name.ensures.named in
    item_absent g.F.Fit.allocator c.args.self.now c.args.i.now c.args.segment.now c.args.type_id c.as_slice.result.now named c.find.result c.find.ensures c.in-Err.code c.in-Err.is

pub returns-in-Err-optional : goal.returns-in-Err-optional
returns-in-Err-optional g c =
    let named = named_same c.args.self.now c.args.i.now c.name.result.items c.as_slice.result.now c.as_slice.ensures.value c.name.ensures.named in
    item_huge g.F.Fit.allocator c.args.self.now c.args.i.now c.args.segment.now c.args.type_id c.as_slice.result.now named c.find.result c.find.ensures c.in-Ok.found c.in-Ok.is
    c.in-Err-optional.code c.in-Err-optional.ensures (omega (arith, c.from-count.type_inv, c.from-count.ensures))

pub returns-then-item-count : goal.returns-then-item-count
returns-then-item-count g c =
    let named = named_same c.args.self.now c.args.i.now c.name.result.items c.as_slice.result.now c.as_slice.ensures.value c.name.ensures.named in
    item_large g.F.Fit.allocator c.args.self.now c.args.i.now c.args.segment.now c.args.type_id c.as_slice.result.now named c.find.result c.find.ensures c.in-Ok.found c.in-Ok.is c.in-Ok-optional.item c.in-Ok-optional.ensures
    (omega (arith, c.if-item-count.true, c.from-count.ensures))

pub returns : goal.returns
returns g c =
    let named = named_same c.args.self.now c.args.i.now c.name.result.items c.as_slice.result.now c.as_slice.ensures.value c.name.ensures.named in
    item_there g.F.Fit.allocator c.args.self.now c.args.i.now c.args.segment.now c.args.type_id c.as_slice.result.now named c.find.result c.find.ensures c.in-Ok.found c.in-Ok.is c.in-Ok-optional.item c.saturating_add.result
    c.saturating_mul-from.result c.size.result c.in-Ok-optional.ensures (omega (arith, c.if-item-count.false, c.from-count.ensures)) (c.size.ensures.value ∙ ap (λ (t : Table). size t c.args.type_id) c.types.ensures)
    c.saturating_mul-from.ensures c.saturating_add.ensures
