-- An image is sound after its unique objects were changed, and has the same bytes after refusals.
use Rattle.std.proofs.Common.{◌≡◌, ◌<◌, ℕ, [], length, true, false, Ok, Err, inl, inr, refl, ap, arith}
use Rattle.std.specs.Prelude.{Result, Bool}
use Rattle.std.proofs.lemmas.Bool.{cases_lt}
use Rattle.seg_spec.specs.Sound.{Picture}
use Rattle.seg_raw.specs.declared.code.Code.{Code}
use Rattle.seg_raw.specs.declared.code.Code.TheVariants as code
use Rattle.lezgauri.specs.Place.{Place}
use Rattle.seg_value.specs.Stored.{Stored}
use Rattle.seg_manager.specs.Segments.{RefusesUnique}
use Rattle.lezgauri.specs.Image.{Image}
use Rattle.lezgauri.specs.Images.{segment_of, allocator_of, bytes_in, types_of, IsOpen}
use Rattle.lezgauri_c.specs.declared.place.Place as told
use Rattle.lezgauri_c.specs.Changes.{TellsPlace, TellsFound, IsStillSound}
use Rattle.lezgauri_c.specs.ImageChanges.{ConstructsUnique, FindsOrConstructsUnique, DestroysUnique}
use Rattle.lezgauri_c.proofs.ChangeLaws.{sound_then}
use Rattle.lezgauri_c.proofs.NamedChangeLaws.{sound_still}

refused_unique : (allocator : ℕ) (old new : Stored) (picture : Picture) (T : ℕ) (e : Code) → RefusesUnique allocator old new picture T e → new.window.bytes ≡ old.window.bytes
refused_unique allocator old new picture T code.AlreadyExists r = ap (λ (s : Stored). s.window.bytes) r.1
refused_unique allocator old new picture T code.BadAlloc r = r.1.same
refused_unique allocator old new picture T code.Absent r = absurd r
refused_unique allocator old new picture T code.OtherType r = absurd r
refused_unique allocator old new picture T code.OutOfRange r = absurd r
refused_unique allocator old new picture T code.Null r = absurd r
refused_unique allocator old new picture T code.NumbersUsedUp r = absurd r

module _ {A : Type 0} (opened left : Image A) (picture : Picture) (held : IsOpen opened picture) (T : ℕ) where
  same_image : left ≡ opened → bytes_in left ≡ bytes_in opened
  same_image same = ap (λ (i : Image A). bytes_in i) same

  -- a type that the image doesn't have is refused
  no_place : (place : Place) → Ok place ≡ Err code.OtherType → ⊥
  no_place place is = cc

  construct_same : (e : Code) → ConstructsUnique T opened left (Err e) → bytes_in left ≡ bytes_in opened
  construct_same e it = elim (cases_lt T (length (types_of opened))) [
    | inl known ↦ refused_unique (allocator_of opened) (segment_of opened) (segment_of left) picture T e (it.makes picture held known)
    | inr past ↦ same_image (it.unknown past).1
  ]

  pub construct_unique_sound : (r : Result Place Code) → ConstructsUnique T opened left r → picture.loose ≡ [] → IsStillSound (bytes_in opened) (bytes_in left)
  construct_unique_sound (Ok place) it none = elim (cases_lt T (length (types_of opened))) [
    | inl known ↦ sound_then (it.makes picture held known).becomes none
    | inr past ↦ absurd (no_place place (it.unknown past).0)
  ]
  construct_unique_sound (Err e) it none = sound_still opened left picture held none (construct_same e it)

  pub construct_unique_kept : (status : ℕ) (before after : told.Place) (r : Result Place Code) → TellsPlace status before after r → 0 < status
      → ConstructsUnique T opened left r → bytes_in left ≡ bytes_in opened
  construct_unique_kept status before after (Ok place) told some it = let done = told.0 in absurd (omega arith)
  construct_unique_kept status before after (Err e) told some it = construct_same e it

  find_same : (e : Code) → FindsOrConstructsUnique T opened left (Err e) → bytes_in left ≡ bytes_in opened
  find_same e it = elim (cases_lt T (length (types_of opened))) [
    | inl known ↦ refused_unique (allocator_of opened) (segment_of opened) (segment_of left) picture T e (it.makes picture held known).1
    | inr past ↦ same_image (it.unknown past).1
  ]

  pub find_unique_sound : (r : Result Place Code) → FindsOrConstructsUnique T opened left r → picture.loose ≡ [] → IsStillSound (bytes_in opened) (bytes_in left)
  find_unique_sound (Ok place) it none = elim (cases_lt T (length (types_of opened))) [
    | inl known ↦ elim (it.makes picture held known) [
      | inl found ↦ sound_still opened left picture held none (ap (λ (s : Stored). s.window.bytes) found.1)
      | inr made ↦ sound_then made.becomes none
    ]
    | inr past ↦ absurd (no_place place (it.unknown past).0)
  ]
  find_unique_sound (Err e) it none = sound_still opened left picture held none (find_same e it)

  pub find_unique_kept : (status : ℕ) (before after : told.Place) (r : Result Place Code) → TellsPlace status before after r → 0 < status
      → FindsOrConstructsUnique T opened left r → bytes_in left ≡ bytes_in opened
  find_unique_kept status before after (Ok place) told some it = let done = told.0 in absurd (omega arith)
  find_unique_kept status before after (Err e) told some it = find_same e it

  pub destroy_unique_sound : (found : Bool) → DestroysUnique T opened left found → picture.loose ≡ [] → IsStillSound (bytes_in opened) (bytes_in left)
  destroy_unique_sound true it none = sound_then (it.loses picture held refl).loses.becomes none
  destroy_unique_sound false it none = sound_still opened left picture held none (same_image (it.unchanged refl))

pub destroy_unique_kept : {A : Type 0} (opened left : Image A) (T status : ℕ) (found : Bool) → TellsFound status found → 0 < status → DestroysUnique T opened left found → bytes_in left ≡ bytes_in opened
destroy_unique_kept opened left T status true told some it = absurd (omega (arith, told, some))
destroy_unique_kept {A = A} opened left T status false told some it = ap (λ (i : Image A). bytes_in i) (it.unchanged refl)
