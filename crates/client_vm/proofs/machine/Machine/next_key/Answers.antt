use Rattle.std.proofs.Common.{rules, sym, subst}
use Rattle.seg_value.specs.Stored.{Stored}
use Rattle.client_spec.specs.declared.table.Operation.{Operation}
use Rattle.client_vm.specs.Worlds.{OpensPart}
use Rattle.client_vm.proofs.PartLaws.{next_does}
use Rattle.client_vm.proofs.machine.Machine.next_key.Goals as goal

pub returns-clause-does : goal.returns-clause-does
returns-clause-does g c =
    let key = c.next_key-key.ensures in
    subst (λ (s : Stored). OpensPart Operation.NextKey g.F.Fit.allocator c.args.i.now c.try_give.result c.args.self.now c.try_give.new.self c.args.segment.now s) (sym key.stays)
    (next_does g.F.Fit.allocator c.args.i.now c.args.self.now c.try_give.new.self c.args.segment.now c.place.result c.place.ensures.at c.place.ensures.type_id _
    (search (rules, c.number.ensures, c.number.type_inv)) c.try_give.result c.next_key-key.result key.next key.code c.try_give.ensures.gives)
