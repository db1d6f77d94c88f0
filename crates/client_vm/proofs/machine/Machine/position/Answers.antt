use Rattle.std.proofs.Common.{rules}
use Rattle.client_vm.proofs.PositionLaws.{position_text, position_vector, position_list, none_text, none_vector, none_list}
use Rattle.client_vm.proofs.machine.Machine.position.Goals as goal

pub returns-in-Ok-clause-text : goal.returns-in-Ok-clause-text
returns-in-Ok-clause-text g c = position_text g.F.Fit.allocator c.args.self.now c.args.i.now.b c.args.segment.now c.heap.result.now c.heap.ensures c.place.result c.place.ensures.at c.place.ensures.type_id c.in-Ok.index _ _
    (search (rules, c.number.ensures, c.number.type_inv)) c.at.result c.in-Ok.ensures c.at.ensures.text

pub returns-in-Err-clause-text : goal.returns-in-Err-clause-text
returns-in-Err-clause-text g c = none_text g.F.Fit.allocator c.args.segment.now _ _ _ (search (rules, c.number.ensures, c.number.type_inv)) c.in-Err.ensures

pub returns-in-Ok-clause-vector : goal.returns-in-Ok-clause-vector
returns-in-Ok-clause-vector g c = position_vector g.F.Fit.allocator c.args.self.now c.args.i.now.b c.args.segment.now c.heap.result.now c.heap.ensures c.place.result c.place.ensures.at c.place.ensures.type_id c.in-Ok.index _ _
    (search (rules, c.number.ensures, c.number.type_inv)) c.at.result c.in-Ok.ensures c.at.ensures.vector c.at.ensures.counted

pub returns-in-Err-clause-vector : goal.returns-in-Err-clause-vector
returns-in-Err-clause-vector g c = none_vector g.F.Fit.allocator c.args.segment.now _ _ _ (search (rules, c.number.ensures, c.number.type_inv)) c.in-Err.ensures

pub returns-in-Ok-clause-list : goal.returns-in-Ok-clause-list
returns-in-Ok-clause-list g c = position_list g.F.Fit.allocator c.args.self.now c.args.i.now.b c.args.segment.now c.heap.result.now c.heap.ensures c.place.result c.place.ensures.at c.place.ensures.type_id c.in-Ok.index _ _
    (search (rules, c.number.ensures, c.number.type_inv)) c.at.result c.in-Ok.ensures c.at.ensures.list c.at.ensures.counted

pub returns-in-Err-clause-list : goal.returns-in-Err-clause-list
returns-in-Err-clause-list g c = none_list g.F.Fit.allocator c.args.segment.now _ _ _ (search (rules, c.number.ensures, c.number.type_inv)) c.in-Err.ensures
