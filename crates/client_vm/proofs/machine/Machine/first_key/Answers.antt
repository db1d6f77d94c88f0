use Rattle.std.proofs.Common.{sym, subst}
use Rattle.seg_value.specs.Stored.{Stored}
use Rattle.client_spec.specs.declared.table.Operation.{Operation}
use Rattle.client_vm.specs.Worlds.{OpensPart}
use Rattle.client_vm.proofs.PartLaws.{first_does}
use Rattle.client_vm.proofs.machine.Machine.first_key.Goals as goal

pub returns-clause-does : goal.returns-clause-does
returns-clause-does g c =
    let key = c.first_key-key.ensures in
    subst (λ (s : Stored). OpensPart Operation.FirstKey g.F.Fit.allocator c.args.i.now c.try_give.result c.args.self.now c.try_give.new.self c.args.segment.now s) (sym key.stays)
    (first_does g.F.Fit.allocator c.args.i.now c.args.self.now c.try_give.new.self c.args.segment.now c.place.result c.place.ensures.at c.place.ensures.type_id c.try_give.result c.first_key-key.result
    key.first key.code c.try_give.ensures.gives)
