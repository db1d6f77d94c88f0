use Rattle.client_vm.proofs.UnnamedLaws.{make_unique_opens}
use Rattle.client_vm.proofs.machine.Machine.make_unique.Goals as goal

pub returns-clause-does : goal.returns-clause-does
returns-clause-does g c =
    make_unique_opens g.F.Fit.allocator c.args.i.now c.args.self.now c.try_refer.new.self c.args.segment.now c.construct_unique-at.new.self c.construct_unique-at.ensures.types c.type_id-type_id.result c.try_refer.result
    c.construct_unique-at.result c.try_refer.ensures.refers c.type_id-type_id.ensures.alone c.construct_unique-at.ensures.makes
