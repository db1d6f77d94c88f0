use Rattle.client_vm.proofs.UnnamedLaws.{drop_acts_on}
use Rattle.client_vm.proofs.machine.Machine.drop_owned.Goals as goal

pub returns-clause-does : goal.returns-clause-does
returns-clause-does g c =
    drop_acts_on g.F.Fit.allocator c.args.i.now c.args.self.now c.take.new.self c.args.segment.now c.destroy_anonymous.new.self c.destroy_anonymous.ensures.types 0 c.take.result.at c.take.ensures.at c.take.ensures.taken
    c.destroy_anonymous.ensures.loses
