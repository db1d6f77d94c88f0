use Rattle.std.proofs.Common.{◌∙◌, ap}
use Rattle.std.specs.Prelude.{slice_index_or}
use Rattle.seg_value.specs.Stored.{Stored}
use Rattle.client_vm.proofs.OwnMoveLaws.{put_does}
use Rattle.client_vm.specs.declared.machine.Machine.{Machine}
use Rattle.client_vm.proofs.machine.Machine.put.Goals as goal

pub returns-clause-does : goal.returns-clause-does
returns-clause-does g c =
    let i = c.args.i.now in
    let gives = c.take-object.ensures.taken in
    put_does g.F.Fit.allocator i c.args.self.now c.take-object.new.self c.args.segment.now c.set_own.new.heap (c.set_own.ensures.types ∙ ap (λ (s : Stored). s.types) c.heap_mut.ensures.value)
    c.heap_mut.result.now c.heap_mut.ensures.value c.place.result (c.place.ensures.at ∙ ap (λ (m : Machine). slice_index_or m.positions i.b 0) gives)
    (c.place.ensures.type_id ∙ ap (λ (m : Machine). slice_index_or m.type_ids i.b 0) gives) c.take-object.result.at c.take-object.ensures.at gives c.set_own.ensures.set
