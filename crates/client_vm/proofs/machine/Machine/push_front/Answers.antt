use Rattle.std.proofs.Common.{ℕ, ◌∙◌, ap, subst}
use Rattle.seg_spec.specs.Types.{form_at}
use Rattle.seg_spec.specs.Reads.{Place}
use Rattle.seg_cells.specs.Places.{place_of}
use Rattle.seg_value.specs.Stored.{Stored}
use Rattle.client_vm.specs.Worlds.{held_in}
use Rattle.client_vm.proofs.ItemLaws.{TellsPushFront, place_at, push_front_opens}
use Rattle.client_vm.proofs.machine.Machine.push_front.Goals as goal

pub returns-clause-does : goal.returns-clause-does
returns-clause-does g c =
    let i = c.args.i.now in
    let old = c.args.self.now in
    let pushed = c.push_front-at in
    let after = pushed.new.heap in
    let told : TellsPushFront g.F.Fit.allocator c.heap_mut.result.now after (place_of c.place-list.result) pushed.result = record { code = pushed.ensures.code; pushed = pushed.ensures.pushed } in
    let here = ap (λ (at : ℕ). record { at = at; type = c.place-list.result.type_id }) c.place-list.ensures.at ∙ ap (λ (type : ℕ). record { at = (place_at old i.b).at; type = type }) c.place-list.ensures.type_id in
    let same = c.heap_mut.ensures.value in
    push_front_opens g.F.Fit.allocator i c.try_refer.result old c.try_refer.new.self c.args.segment.now after (pushed.ensures.types ∙ ap (λ (h : Stored). h.types) same) c.held_type-held.result
    (λ U e. c.held_type-held.ensures U (ap (λ (type : ℕ). held_in (form_at c.args.segment.now.types type)) c.place-list.ensures.type_id ∙ e)) pushed.result
    (subst (λ (h : Stored). TellsPushFront g.F.Fit.allocator h after (place_at old i.b) pushed.result) same
    (subst (λ (p : Place). TellsPushFront g.F.Fit.allocator c.heap_mut.result.now after p pushed.result) here told)) c.try_refer.ensures.refers
