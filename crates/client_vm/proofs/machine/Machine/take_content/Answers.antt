use Rattle.std.proofs.Common.{◌∙◌, ap}
use Rattle.seg_value.specs.Stored.{Stored}
use Rattle.client_vm.proofs.OwnMoveLaws.{take_does}
use Rattle.client_vm.proofs.machine.Machine.take_content.Goals as goal

pub returns-clause-does : goal.returns-clause-does
returns-clause-does g c =
    let allocator = g.F.Fit.allocator in
    let call = c.take_own.ensures in
    take_does allocator c.args.i.now c.args.self.now c.try_own.new.self c.args.segment.now c.take_own.new.heap (call.types ∙ ap (λ (s : Stored). s.types) c.heap_mut.ensures.value)
    c.heap_mut.result.now c.heap_mut.ensures.value c.place-own.result c.place-own.ensures.at c.place-own.ensures.type_id
    c.try_own.result c.take_own.result c.ok_or-at.result c.held_type.result
    (record { empty = λ U blocks. call.empty allocator U blocks; takes = λ U v blocks. call.taken allocator U v blocks })
    c.ok_or-at.ensures.value c.held_type.ensures c.try_own.ensures.owns
