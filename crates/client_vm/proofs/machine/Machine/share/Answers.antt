use Rattle.std.proofs.Common.{◌∙◌, ap}
use Rattle.seg_value.specs.Stored.{Stored}
use Rattle.client_vm.proofs.SharedObjectLaws.{place_read, share_does}
use Rattle.client_vm.proofs.machine.Machine.share.Goals as goal

pub returns-clause-does : goal.returns-clause-does
returns-clause-does g c =
    let i = c.args.i.now in
    let machine = c.args.self.now in
    share_does g.F.Fit.allocator i machine c.args.segment.now c.share.new.heap (c.share.ensures.types ∙ ap (λ (s : Stored). s.types) c.heap_mut.ensures.value) c.heap_mut.result.now c.heap_mut.ensures.value
    c.place.result (place_read machine i.b c.place.result c.place.ensures.at c.place.ensures.type_id) c.place-2.result (place_read machine i.c c.place-2.result c.place-2.ensures.at c.place-2.ensures.type_id)
    c.share.ensures.shared
