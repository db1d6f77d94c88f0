-- Numbers appended to a vector: one more, and all of them together.
use Rattle.std.proofs.Common.{◌≡◌, ℕ, ℤ, List, [], ◌∷◌, ◌++◌, take, Some, Ok, refl, sym, ap, ◌∙◌, subst}
use Rattle.seg_spec.specs.Heap.{Span, live}
use Rattle.seg_spec.specs.Owning.{Stands}
use Rattle.seg_spec.specs.Reads.{Place}
use Rattle.seg_spec.specs.Roots.{ChangesPlace}
use Rattle.seg_spec.specs.Types.{Table, Form, form_at, size}
use Rattle.seg_spec.specs.Value.{Value, Values, nil, cons, Int, Seq, append}
use Rattle.seg_spec.proofs.Values.CallPlaceLaws.{stands_after}
use Rattle.seg_spec.proofs.Values.CellChangeLaws.{ChangesOnly-none}
use Rattle.seg_spec.proofs.Values.PlaceWriteLaws.{changes_place}
use Rattle.seg_raw.specs.declared.code.Code.TheVariants.{BadAlloc}
use Rattle.seg_value.specs.Stored.{Stored}
use Rattle.seg_value.proofs.Inside.{changes_twice}
use Rattle.seg_seq.specs.Sequences.{HasItems, PushesNumber}
use Rattle.seg_image.specs.declared.error.StoppedAt.{StoppedAt}
use Rattle.seg_image.specs.NumberPushes.{number_values, PushesNumbers, StopsPushing}

-- a number is appended after the others
pub one_more : (allocator : ℕ) (old between new : Stored) (place : Place) (numbers : List ℤ) (number : ℤ) (at : ℕ) → PushesNumbers allocator old between place numbers → new.types ≡ between.types
    → PushesNumber allocator between new place number (Ok at) → PushesNumbers allocator old new place (numbers ++ number ∷ [])
one_more allocator old between new place [] number at chain types pushes =
    let from = subst (λ s. (new.types ≡ s.types) × PushesNumber allocator s new place number (Ok at)) chain (types, pushes) in
    (new, at, from.0, from.1, refl)
one_more allocator old between new place (n ∷ ns) number at chain types pushes = (chain.0, chain.1, chain.2, chain.3, one_more allocator chain.0 between new place ns number at chain.4 types pushes)

-- ---- all numbers together

-- The vector has the values, and other blocks.
pub record Appends (old new : Stored) (place : Place) (vs : Values) (blocks : List ℕ) : Type 0 where
  pub others : List ℕ
  pub spans : List Span
  pub changes : ChangesPlace old.window.bytes new.window.bytes old.types place (Seq vs) others spans blocks others
  pub types_kept : new.types ≡ old.types

append_nil : (vs : Values) → append vs nil ≡ vs
append_nil nil = refl
append_nil (cons v vs) = ap (cons v) (append_nil vs)

append_more : (us : Values) (v : Value) (vs : Values) → append (append us (cons v nil)) vs ≡ append us (cons v vs)
append_more nil v vs = refl
append_more (cons u us) v vs = ap (cons u) (append_more us v vs)

-- The vector has the items, its type is one of numbers, and these are appended.
pub appended : (allocator : ℕ) (old new : Stored) (place : Place) (numbers : List ℤ) → PushesNumbers allocator old new place numbers
    → (U : ℕ) (vs : Values) (blocks : List ℕ) → HasItems allocator old place U vs blocks → form_at old.types U ≡ Some Form.i64 → Appends old new place (append vs (number_values numbers)) blocks
appended allocator old new place [] chain U vs blocks it number =
    let bytes = old.window.bytes in
    let kept = changes_place allocator bytes old.types place (Seq vs) blocks it.stands bytes (ChangesOnly-none bytes place.at (size old.types place.type)) (Seq vs) blocks blocks it.stands.holds_it in
    subst (λ (s : Stored). Appends old s place (append vs nil) blocks) (sym chain)
    (subst (λ (us : Values). Appends old old place us blocks) (sym (append_nil vs)) (record { others = blocks; spans = live bytes; changes = kept; types_kept = refl }))
appended allocator old new place (n ∷ ns) chain U vs blocks it number =
    let between = chain.0 in
    let table = old.types in
    let one = (chain.3 U vs blocks it number).holds_it in
    let us = append vs (cons (Int n) nil) in
    let stands = stands_after allocator old.window.bytes between.window.bytes table place (Seq vs) (Seq us) blocks one.others one.succeeds.left it.stands one.succeeds.changes in
    let then : HasItems allocator between place U us one.others = record {
      form_is = ap (λ (t : Table). form_at t place.type) chain.2 ∙ it.form_is;
      stands = subst (λ (t : Table). Stands allocator between.window.bytes t place (Seq us) one.others) (sym chain.2) stands;
    } in
    let rest = appended allocator between new place ns chain.4 U us one.others then (ap (λ (t : Table). form_at t U) chain.2 ∙ number) in
    let ws = append us (number_values ns) in
    let changes = changes_twice allocator old.window.bytes between.window.bytes new.window.bytes table place (Seq us) (Seq ws) one.others rest.others blocks one.succeeds.left rest.spans
    (stands.allocator_is ∙ sym it.stands.allocator_is) stands.heap one.succeeds.changes
    (subst (λ (t : Table). ChangesPlace between.window.bytes new.window.bytes t place (Seq ws) rest.others rest.spans one.others rest.others) chain.2 rest.changes) in
    subst (λ (us : Values). Appends old new place us blocks) (append_more vs (Int n) (number_values ns))
    (record { others = rest.others; spans = rest.spans; changes = changes; types_kept = rest.types_kept ∙ chain.2 })

-- the vector afterwards
pub items_then : (allocator : ℕ) (old new : Stored) (place : Place) (U : ℕ) (vs ws : Values) (blocks : List ℕ) → HasItems allocator old place U vs blocks → (a : Appends old new place ws blocks)
    → HasItems allocator new place U ws a.others
items_then allocator old new place U vs ws blocks it a = record {
  form_is = ap (λ (t : Table). form_at t place.type) a.types_kept ∙ it.form_is;
  stands = subst (λ (t : Table). Stands allocator new.window.bytes t place (Seq ws) a.others) (sym a.types_kept)
      (stands_after allocator old.window.bytes new.window.bytes old.types place (Seq vs) (Seq ws) blocks a.others a.spans it.stands a.changes);
}

-- There was no room for one of the numbers. Those before it are appended, and nothing else changed.
pub record AppendsFirst (old new : Stored) (place : Place) (vs : Values) (blocks : List ℕ) (numbers : List ℤ) (stopped : StoppedAt) : Type 0 where
  pub code_is : stopped.code ≡ BadAlloc
  pub before : Stored
  pub appends : Appends old before place (append vs (number_values (take stopped.done numbers))) blocks
  pub same : new.window.bytes ≡ before.window.bytes

pub appended_first : (allocator : ℕ) (old new : Stored) (place : Place) (numbers : List ℤ) (stopped : StoppedAt) → StopsPushing allocator old new place numbers stopped
    → (U : ℕ) (vs : Values) (blocks : List ℕ) → HasItems allocator old place U vs blocks → form_at old.types U ≡ Some Form.i64 → AppendsFirst old new place vs blocks numbers stopped
appended_first allocator old new place numbers stopped stops U vs blocks it number =
    let first = take stopped.done numbers in
    let us = append vs (number_values first) in
    let a = appended allocator old stops.before place first stops.pushes U vs blocks it number in
    let lacks = stops.refused U us a.others (items_then allocator old stops.before place U vs us blocks it a) (ap (λ (t : Table). form_at t U) a.types_kept ∙ number) in
    record { code_is = lacks.code_is; before = stops.before; appends = a; same = lacks.refuses.same }
