use Rattle.client_vm.proofs.UnnamedLaws.{find_or_make_unique_opens}
use Rattle.client_vm.proofs.machine.Machine.find_or_make_unique.Goals as goal

pub returns-clause-does : goal.returns-clause-does
returns-clause-does g c =
    find_or_make_unique_opens g.F.Fit.allocator c.args.i.now c.args.self.now c.try_refer.new.self c.args.segment.now c.find_or_construct_unique-at.new.self c.find_or_construct_unique-at.ensures.types c.type_id-type_id.result
    c.try_refer.result c.find_or_construct_unique-at.result c.try_refer.ensures.refers c.type_id-type_id.ensures.alone c.find_or_construct_unique-at.ensures.makes
