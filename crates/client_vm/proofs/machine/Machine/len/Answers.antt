use Rattle.std.proofs.Common.{rules}
use Rattle.client_vm.proofs.PartLaws.{len_does}
use Rattle.client_vm.proofs.machine.Machine.len.Goals as goal

pub returns-clause-does : goal.returns-clause-does
returns-clause-does g c =
    λ is. len_does _ c.args.i.now c.args.self.now c.give.new.self c.args.segment.now _ is c.give.ensures.rest (search (rules, c.give.ensures.number, c.length.ensures, c.place.ensures.at))
