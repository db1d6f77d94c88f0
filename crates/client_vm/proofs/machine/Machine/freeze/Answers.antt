use Rattle.std.proofs.Common.{◌∙◌, ap, subst, sym}
use Rattle.seg_value.specs.Stored.{Stored}
use Rattle.client_program.specs.declared.jump.Jump.{Jump}
use Rattle.client_vm.specs.Worlds.{OpensOn}
use Rattle.client_vm.proofs.SharedObjectLaws.{place_read, frozen_opens, refused_opens}
use Rattle.client_vm.proofs.machine.Machine.freeze.Goals as goal

pub returns-in-Ok-clause-does : goal.returns-in-Ok-clause-does
returns-in-Ok-clause-does g c =
    let i = c.args.i.now in
    let machine = c.args.self.now in
    let call = c.in-Ok.ensures in
    let types = call.types ∙ ap (λ (s : Stored). s.types) c.heap_mut.ensures.value in
    let cell = place_read machine i.b c.place-cell.result c.place-cell.ensures.at c.place-cell.ensures.type_id in
    frozen_opens g.F.Fit.allocator i machine c.args.segment.now c.freeze.new.heap types c.heap_mut.result.now c.heap_mut.ensures.value c.place-cell.result cell
    c.place.result.at c.place.ensures.at (record { next = call.next; used_up = call.used_up; code = call.code; frozen = call.frozen })
    c.take.new.self c.give.new.self c.take.ensures.taken c.give.ensures.rest

pub returns-in-Err-clause-does : goal.returns-in-Err-clause-does
returns-in-Err-clause-does g c is =
    let i = c.args.i.now in
    let machine = c.args.self.now in
    let call = c.in-Err.ensures in
    let types = call.types ∙ ap (λ (s : Stored). s.types) c.heap_mut.ensures.value in
    let cell = place_read machine i.b c.place-cell.result c.place-cell.ensures.at c.place-cell.ensures.type_id in
    subst (λ (jump : Jump). OpensOn g.F.Fit.allocator i jump machine c.fail.new.self c.args.segment.now c.freeze.new.heap) (sym c.fail.ensures.refused)
    (refused_opens g.F.Fit.allocator i machine c.args.segment.now c.freeze.new.heap types c.heap_mut.result.now c.heap_mut.ensures.value c.place-cell.result cell
    c.in-Err.code c.place.result.at c.place.ensures.at (record { next = call.next; used_up = call.used_up; code = call.code; frozen = call.frozen }) c.fail.new.self c.fail.ensures.code is)
