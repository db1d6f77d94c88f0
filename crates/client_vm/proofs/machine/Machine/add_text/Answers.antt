use Rattle.std.proofs.Common.{◌∙◌, ap}
use Rattle.seg_value.specs.Stored.{Stored}
use Rattle.client_vm.proofs.TextLaws.{add_text_opens}
use Rattle.client_vm.proofs.machine.Machine.add_text.Goals as goal

pub returns-clause-does : goal.returns-clause-does
returns-clause-does g c is =
    add_text_opens g.F.Fit.allocator c.args.i.now c.args.self.now c.try_length.new.self c.args.segment.now c.append-appended.new.heap
    (c.append-appended.ensures.types ∙ ap (λ (h : Stored). h.types) c.heap_mut.ensures.value) c.heap_mut.result.now c.heap_mut.ensures.value
    c.place.result c.place.ensures.at c.place.ensures.type_id c.text-bytes.result.now c.text-bytes.ensures c.try_length.result c.append-appended.result is c.append-appended.ensures.text c.try_length.ensures.gives
