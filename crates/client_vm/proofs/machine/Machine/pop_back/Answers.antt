use Rattle.std.proofs.Common.{ℕ, ◌∙◌, ap, subst}
use Rattle.seg_spec.specs.Reads.{Place}
use Rattle.seg_cells.specs.Places.{place_of}
use Rattle.seg_value.specs.Stored.{Stored}
use Rattle.client_vm.proofs.ItemLaws.{TellsPop, place_at, pop_back_opens}
use Rattle.client_vm.proofs.machine.Machine.pop_back.Goals as goal

pub returns-clause-does : goal.returns-clause-does
returns-clause-does g c =
    let i = c.args.i.now in
    let old = c.args.self.now in
    let popped = c.pop_back-popped in
    let after = popped.new.heap in
    let told : TellsPop g.F.Fit.allocator c.heap_mut.result.now after (place_of c.place.result) popped.result =
    record { text = popped.ensures.text; vector = popped.ensures.vector; list = popped.ensures.list; counted = popped.ensures.counted } in
    let here = ap (λ (at : ℕ). record { at = at; type = c.place.result.type_id }) c.place.ensures.at ∙ ap (λ (type : ℕ). record { at = (place_at old i.b).at; type = type }) c.place.ensures.type_id in
    let same = c.heap_mut.ensures.value in
    pop_back_opens g.F.Fit.allocator i c.try_length.result old c.try_length.new.self c.args.segment.now after (popped.ensures.types ∙ ap (λ (h : Stored). h.types) same) popped.result
    (subst (λ (h : Stored). TellsPop g.F.Fit.allocator h after (place_at old i.b) popped.result) same (subst (λ (p : Place). TellsPop g.F.Fit.allocator c.heap_mut.result.now after p popped.result) here told)) c.try_length.ensures.gives
