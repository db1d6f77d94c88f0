use Rattle.client_vm.proofs.ObjectLaws.{named_same}
use Rattle.client_vm.proofs.NamedObjectLaws.{find_or_make_opens}
use Rattle.client_vm.proofs.machine.Machine.find_or_make.Goals as goal

pub returns-clause-does : goal.returns-clause-does
returns-clause-does g c =
    let made = c.find_or_construct-at in
    let named = named_same c.args.self.now c.args.i.now c.name.result.items c.as_slice.result.now c.as_slice.ensures.value c.name.ensures.named in
    find_or_make_opens g.F.Fit.allocator c.args.i.now c.try_refer.result c.args.self.now c.try_refer.new.self c.args.segment.now made.new.self made.ensures.types c.type_id-type_id.result c.as_slice.result.now named
    c.type_id-type_id.ensures.before made.result c.name.ensures.fits (record { tells = made.ensures.tells; makes = made.ensures.makes; no_room = made.ensures.no_room }) c.try_refer.ensures.refers
