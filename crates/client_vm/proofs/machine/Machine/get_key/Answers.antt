use Rattle.std.proofs.Common.{rules}
use Rattle.client_vm.proofs.PartLaws.{get_does}
use Rattle.client_vm.proofs.machine.Machine.get_key.Goals as goal

pub returns-clause-does : goal.returns-clause-does
returns-clause-does g c =
    let key = c.get-at.ensures in
    get_does g.F.Fit.allocator c.args.i.now c.args.self.now c.try_refer.new.self c.args.segment.now c.place-map.result c.place-map.ensures.at c.place-map.ensures.type_id _
    (search (rules, c.number.ensures, c.number.type_inv)) c.try_refer.result c.get-at.result c.held_type.result
    (rw c.heap.ensures at key.finds) (rw c.heap.ensures at key.code) c.held_type.ensures c.try_refer.ensures.refers
