use Rattle.client_vm.proofs.PartLaws.{content_does}
use Rattle.client_vm.proofs.machine.Machine.content.Goals as goal

pub returns-clause-does : goal.returns-clause-does
returns-clause-does g c =
    content_does g.F.Fit.allocator c.args.i.now c.args.self.now c.try_refer.new.self c.args.segment.now c.place-holder.result c.place-holder.ensures.at c.place-holder.ensures.type_id
    c.try_refer.result c.held_object.result c.ok_or-at.result c.held_type.result c.held_object.ensures c.ok_or-at.ensures.value c.held_type.ensures c.try_refer.ensures.refers
