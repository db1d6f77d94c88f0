use Rattle.std.proofs.Common.{◌≡◌, ℕ, List, Some, Ok, refl, sym, ◌∙◌, ap, subst}
use Rattle.seg_spec.specs.Types.{Form, Table, form_at}
use Rattle.seg_spec.specs.Reads.{Place}
use Rattle.seg_spec.specs.Value.{Values}
use Rattle.seg_cells.specs.Places.{place_of}
use Rattle.seg_value.specs.Stored.{Stored}
use Rattle.seg_value.proofs.Stores.{same_stored}
use Rattle.seg_seq.specs.Sequences.{HasItems, PushesBack}
use Rattle.client_spec.specs.declared.table.Operation.{Operation}
use Rattle.client_program.specs.declared.jump.Jump.TheVariants.{Next}
use Rattle.client_vm.specs.Worlds.{OpensPart, held_in}
use Rattle.client_vm.proofs.ItemLaws.{TellsPush, place_at, push_back_opens}
use Rattle.client_vm.proofs.machine.Machine.push_back.Goals as goal

-- a push that needs no larger buffer keeps the contract of a push
in_place : (allocator : ℕ) (before after : Stored) (place : Place) (p U : ℕ) → form_at before.types place.type ≡ Some (Form.vec U)
    → ((V : ℕ) (vs : Values) (blocks : List ℕ) → HasItems allocator before place V vs blocks → PushesBack allocator before after place V vs blocks p) → TellsPush allocator before after place (Ok p)
in_place allocator before after place p U vector pushed = record {
  vector = pushed;
  list = λ V vs blocks h. let no : Some (Form.vec U) ≡ Some (Form.list V) = sym vector ∙ h.form_is in absurd (cc);
}

typed : (T U V : ℕ) (types : Table) → form_at types T ≡ Some (Form.vec U) → held_in (form_at types T) ≡ Some V → U ≡ V
typed T U V types f e = let same : held_in (Some (Form.vec U)) ≡ Some V = sym (ap held_in f) ∙ e in cc

pub returns-in_default-clause-does : goal.returns-in_default-clause-does
returns-in_default-clause-does g c =
    let stays = same_stored c.push_in_place.new.heap c.heap_mut.result.now (c.in_default.ensures.none refl) c.in_default.ensures.types ∙ c.heap_mut.ensures.value in
    subst (λ (s : Stored). OpensPart Operation.PushBack g.F.Fit.allocator c.args.i.now c.push_asking.result c.args.self.now c.push_asking.new.self s c.push_asking.new.segment) stays c.push_asking.ensures.does

pub returns-clause-does : goal.returns-clause-does
returns-clause-does g c =
    let i = c.args.i.now in
    let old = c.args.self.now in
    let types = c.args.segment.now.types in
    let sequence = c.place-sequence.result in
    let item = c.in-Some.item in
    let pushed = c.in-Some.ensures in
    let before = c.heap_mut.result.now in
    let after = c.push_in_place.new.heap in
    let told : TellsPush g.F.Fit.allocator before after (place_of sequence) (Ok item.at) = in_place g.F.Fit.allocator before after (place_of sequence) item.at item.type_id pushed.some pushed.vector in
    let here = ap (λ (at : ℕ). record { at = at; type = sequence.type_id }) c.place-sequence.ensures.at ∙ ap (λ (type : ℕ). record { at = (place_at old i.b).at; type = type }) c.place-sequence.ensures.type_id in
    let same = c.heap_mut.ensures.value in
    let form : form_at types (place_at old i.b).type ≡ Some (Form.vec item.type_id) =
    subst (λ (h : Stored). form_at h.types (place_at old i.b).type ≡ Some (Form.vec item.type_id)) same (subst (λ T. form_at before.types T ≡ Some (Form.vec item.type_id)) c.place-sequence.ensures.type_id pushed.some) in
    push_back_opens g.F.Fit.allocator i Next old c.refer.new.self c.args.segment.now after (pushed.types ∙ ap (λ (h : Stored). h.types) same) item.type_id
    (λ V e. typed (place_at old i.b).type item.type_id V types form e) (Ok item.at)
    (subst (λ (h : Stored). TellsPush g.F.Fit.allocator h after (place_at old i.b) (Ok item.at)) same (subst (λ (p : Place). TellsPush g.F.Fit.allocator before after p (Ok item.at)) here told)) (refl, c.refer.ensures.rest)
