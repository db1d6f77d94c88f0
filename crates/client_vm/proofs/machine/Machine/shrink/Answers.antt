use Rattle.std.proofs.Common.{◌∙◌, ap}
use Rattle.seg_value.specs.Stored.{Stored}
use Rattle.client_vm.proofs.TextLaws.{shrink_does}
use Rattle.client_vm.proofs.machine.Machine.shrink.Goals as goal

pub returns-clause-does : goal.returns-clause-does
returns-clause-does g c is =
    shrink_does g.F.Fit.allocator c.args.i.now c.args.self.now c.args.segment.now c.shrink_to_fit.new.self (c.shrink_to_fit.ensures.types ∙ ap (λ (s : Stored). s.types) c.heap_mut.ensures.value) c.heap_mut.result.now
    c.heap_mut.ensures.value c.place.result c.place.ensures.at c.place.ensures.type_id is c.shrink_to_fit.ensures.shrinks
