use Rattle.client_vm.proofs.UnnamedLaws.{new_opens}
use Rattle.client_vm.proofs.machine.Machine.new_object.Goals as goal

pub returns-clause-does : goal.returns-clause-does
returns-clause-does g c =
    new_opens g.F.Fit.allocator c.args.i.now c.args.self.now c.try_own.new.self c.args.segment.now c.new_anonymous-at.new.self c.new_anonymous-at.ensures.types c.type_id-type_id.result c.try_own.result c.new_anonymous-at.result
    c.try_own.ensures.owns c.type_id-type_id.ensures.alone c.new_anonymous-at.ensures.code c.new_anonymous-at.ensures.makes
