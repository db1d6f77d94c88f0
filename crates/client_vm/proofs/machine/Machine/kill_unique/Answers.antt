use Rattle.client_vm.proofs.UnnamedLaws.{kill_unique_acts_on}
use Rattle.client_vm.proofs.machine.Machine.kill_unique.Goals as goal

pub returns-clause-does : goal.returns-clause-does
returns-clause-does g c =
    kill_unique_acts_on g.F.Fit.allocator c.args.i.now c.args.self.now c.give_flag.new.self c.args.segment.now c.destroy_unique-is_destroyed.new.self c.destroy_unique-is_destroyed.ensures.types c.type_id.result
    c.destroy_unique-is_destroyed.result c.give_flag.ensures.rest c.type_id.ensures.alone c.destroy_unique-is_destroyed.ensures.loses c.destroy_unique-is_destroyed.ensures.none c.destroy_unique-is_destroyed.ensures.unchanged
