use Rattle.client_program.specs.declared.jump.Jump.{Jump}
use Rattle.client_vm.proofs.ObjectLaws.{named_same}
use Rattle.client_vm.proofs.NamedObjectLaws.{kill_acts_on}
use Rattle.client_vm.proofs.machine.Machine.kill.Goals as goal

pub returns-clause-does : goal.returns-clause-does
returns-clause-does g c =
    let destroyed = c.destroy-is_destroyed in
    let named = named_same c.args.self.now c.args.i.now c.name.result.items c.as_slice.result.now c.as_slice.ensures.value c.name.ensures.named in
    kill_acts_on g.F.Fit.allocator c.args.i.now Jump.Next c.args.self.now c.give_flag.new.self c.args.segment.now destroyed.new.self destroyed.ensures.types c.type_id.result c.as_slice.result.now named c.type_id.ensures.before
    destroyed.result (record { tells = destroyed.ensures.tells; loses = destroyed.ensures.loses; unchanged = destroyed.ensures.unchanged }) c.give_flag.ensures.rest
