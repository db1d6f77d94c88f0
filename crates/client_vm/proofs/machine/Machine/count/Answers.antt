use Rattle.std.proofs.Common.{rules}
use Rattle.client_vm.proofs.ObjectLaws.{named_same, count_found, count_code, count_does}
use Rattle.client_vm.proofs.machine.Machine.count.Goals.{in-Ok, in-Err}
use Rattle.client_vm.proofs.machine.Machine.count.Goals as goal

pub returns-clause-does : goal.returns-clause-does
returns-clause-does g c =
    count_does g.F.Fit.allocator c.args.i.now c.try_give.result c.args.self.now c.try_give.new.self c.args.segment.now c.type_id.result c.as_slice.result.now c.find.result c.match-find.count
    (elim c.match-find.branch [
      | in-Ok w ↦ count_found c.find.result c.match-find.count w.in-Ok.object _ w.from.result w.in-Ok.is w.count-is (search rules) w.from.ensures
      | in-Err w ↦ count_code c.find.result c.match-find.count w.in-Err.code w.in-Err.is w.count-is
    ])
    c.try_give.ensures.gives c.type_id.ensures.before (named_same c.args.self.now c.args.i.now c.name.result.items c.as_slice.result.now c.as_slice.ensures.value c.name.ensures.named) c.find.ensures
