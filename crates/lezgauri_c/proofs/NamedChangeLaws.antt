-- An image is sound after its named objects were changed, and has the same bytes after most refusals.
use Rattle.std.proofs.Common.{◌≡◌, ◌≢◌, ◌<◌, ℕ, List, [], length, true, false, Some, None, Ok, Err, inl, inr, refl, ap, sym, ◌∙◌, subst, arith}
use Rattle.std.specs.Prelude.{Result, Bool, Option}
use Rattle.std.proofs.lemmas.Bool.{cases_lt}
use Rattle.seg_spec.specs.Sound.{Picture}
use Rattle.seg_spec.specs.Index.{Root, root_named}
use Rattle.seg_spec.specs.Images.{IsSound}
use Rattle.seg_raw.specs.declared.code.Code.{Code}
use Rattle.seg_raw.specs.declared.code.Code.TheVariants as code
use Rattle.lezgauri.specs.Place.{Place}
use Rattle.seg_value.specs.Stored.{Stored}
use Rattle.seg_manager.specs.NamedObjects.{RefusesName, RefusesToFind}
use Rattle.lezgauri.specs.Image.{Image}
use Rattle.lezgauri.specs.Images.{segment_of, bytes_in, types_of, IsOpen}
use Rattle.lezgauri_c.specs.declared.place.Place as told
use Rattle.lezgauri_c.specs.Changes.{code_status, TellsPlace, TellsFound, IsStillSound}
use Rattle.lezgauri_c.specs.ImageChanges.{Constructs, FindsOrConstructs, DestroysNamed}
use Rattle.lezgauri_c.proofs.ChangeLaws.{sound_then}

-- ---- refusals

refused_name : (old new : Stored) (names : List Root) (name : List ℕ) (n : ℕ) (e : Code) → e ≢ code.BadAlloc → RefusesName old new names name n e → new ≡ old
refused_name old new names name n code.OutOfRange other r = r.1
refused_name old new names name n code.AlreadyExists other r = r.3
refused_name old new names name n code.BadAlloc other r = absurd (other refl)
refused_name old new names name n code.Absent other r = absurd r
refused_name old new names name n code.OtherType other r = absurd r
refused_name old new names name n code.Null other r = absurd r
refused_name old new names name n code.NumbersUsedUp other r = absurd r

refused_to_find : (old new : Stored) (names : List Root) (name : List ℕ) (T : ℕ) (e : Code) → e ≢ code.BadAlloc → RefusesToFind old new names name T e → new ≡ old
refused_to_find old new names name T code.OutOfRange other r = r.2
refused_to_find old new names name T code.OtherType other r = r.1
refused_to_find old new names name T code.BadAlloc other r = absurd (other refl)
refused_to_find old new names name T code.AlreadyExists other r = absurd r
refused_to_find old new names name T code.Absent other r = absurd r
refused_to_find old new names name T code.Null other r = absurd r
refused_to_find old new names name T code.NumbersUsedUp other r = absurd r

-- a status that isn't the one for too little memory is the status of another code
other_code : (status : ℕ) (e : Code) → status ≢ 112 → status ≡ code_status e → e ≢ code.BadAlloc
other_code status e other is same = other (is ∙ ap code_status same)

module _ {A : Type 0} (opened left : Image A) where
  bytes_same : segment_of left ≡ segment_of opened → bytes_in left ≡ bytes_in opened
  bytes_same same = ap (λ (s : Stored). s.window.bytes) same

  image_same : left ≡ opened → bytes_in left ≡ bytes_in opened
  image_same same = ap (λ (i : Image A). bytes_in i) same

  -- nothing was destroyed
  pub destroy_kept : (name : List ℕ) (T status : ℕ) (found : Bool) → TellsFound status found → 0 < status → DestroysNamed name T opened left found → bytes_in left ≡ bytes_in opened
  destroy_kept name T status true told some it = absurd (omega (arith, told, some))
  destroy_kept name T status false told some it = image_same (it.unchanged refl)

  module _ (picture : Picture) (held : IsOpen opened picture) where
    -- bytes that are the ones of a segment without loose objects
    pub sound_still : picture.loose ≡ [] → bytes_in left ≡ bytes_in opened → IsStillSound (bytes_in opened) (bytes_in left)
    sound_still none same = record {
      sound = subst (λ (b : List ℕ). IsSound b) (sym same) (record { picture = picture; held = held.held; counted = held.counted; none_loose = none });
      length_kept = ap length same;
    }

    module _ (name : List ℕ) (T n : ℕ) where
      construct_same : (e : Code) → e ≢ code.BadAlloc → Constructs name T n opened left (Err e) → bytes_in left ≡ bytes_in opened
      construct_same e other it = elim (cases_lt T (length (types_of opened))) [
        | inl known ↦ bytes_same (refused_name (segment_of opened) (segment_of left) picture.names name n e other (it.tells picture held known))
        | inr past ↦ image_same (it.unknown past).1
      ]

      pub construct_sound : (r : Result Place Code) → Constructs name T n opened left r → picture.loose ≡ [] → IsStillSound (bytes_in opened) (bytes_in left)
      construct_sound (Ok place) it none = sound_then (it.makes picture held).becomes none
      construct_sound (Err code.BadAlloc) it none = sound_then (it.no_room picture held refl).becomes none
      construct_sound (Err code.AlreadyExists) it none = sound_still none (construct_same code.AlreadyExists (λ e. cc) it)
      construct_sound (Err code.Absent) it none = sound_still none (construct_same code.Absent (λ e. cc) it)
      construct_sound (Err code.OtherType) it none = sound_still none (construct_same code.OtherType (λ e. cc) it)
      construct_sound (Err code.OutOfRange) it none = sound_still none (construct_same code.OutOfRange (λ e. cc) it)
      construct_sound (Err code.Null) it none = sound_still none (construct_same code.Null (λ e. cc) it)
      construct_sound (Err code.NumbersUsedUp) it none = sound_still none (construct_same code.NumbersUsedUp (λ e. cc) it)

      pub construct_kept : (status : ℕ) (before after : told.Place) (r : Result Place Code) → TellsPlace status before after r → 0 < status → status ≢ 112
          → Constructs name T n opened left r → bytes_in left ≡ bytes_in opened
      construct_kept status before after (Ok place) told some other it = let done = told.0 in absurd (omega arith)
      construct_kept status before after (Err e) told some other it = construct_same e (other_code status e other told.0) it

    module _ (name : List ℕ) (T : ℕ) where
      find_same : (e : Code) → e ≢ code.BadAlloc → FindsOrConstructs name T opened left (Err e) → bytes_in left ≡ bytes_in opened
      find_same e other it = elim (cases_lt T (length (types_of opened))) [
        | inl known ↦ bytes_same (refused_to_find (segment_of opened) (segment_of left) picture.names name T e other (it.tells picture held known))
        | inr past ↦ image_same (it.unknown past).1
      ]

      -- the object was found, or it didn't exist and was made
      found_sound : (o : Option Root) → root_named picture.names name ≡ o → (place : Place) → FindsOrConstructs name T opened left (Ok place) → picture.loose ≡ [] → IsStillSound (bytes_in opened) (bytes_in left)
      found_sound None is place it none = sound_then (it.makes picture held is).becomes none
      found_sound (Some root) is place it none = elim (cases_lt T (length (types_of opened))) [
        | inl known ↦ elim (it.tells picture held known) [
          | inl found ↦ sound_still none (bytes_same found.4)
          | inr missing ↦ let no = missing.1 in cc
        ]
        | inr past ↦ sound_still none (image_same (it.unknown past).1)
      ]

      pub find_sound : (r : Result Place Code) → FindsOrConstructs name T opened left r → picture.loose ≡ [] → IsStillSound (bytes_in opened) (bytes_in left)
      find_sound (Ok place) it none = found_sound (root_named picture.names name) refl place it none
      find_sound (Err code.BadAlloc) it none = sound_then (it.no_room picture held refl).becomes none
      find_sound (Err code.AlreadyExists) it none = sound_still none (find_same code.AlreadyExists (λ e. cc) it)
      find_sound (Err code.Absent) it none = sound_still none (find_same code.Absent (λ e. cc) it)
      find_sound (Err code.OtherType) it none = sound_still none (find_same code.OtherType (λ e. cc) it)
      find_sound (Err code.OutOfRange) it none = sound_still none (find_same code.OutOfRange (λ e. cc) it)
      find_sound (Err code.Null) it none = sound_still none (find_same code.Null (λ e. cc) it)
      find_sound (Err code.NumbersUsedUp) it none = sound_still none (find_same code.NumbersUsedUp (λ e. cc) it)

      pub find_kept : (status : ℕ) (before after : told.Place) (r : Result Place Code) → TellsPlace status before after r → 0 < status → status ≢ 112
          → FindsOrConstructs name T opened left r → bytes_in left ≡ bytes_in opened
      find_kept status before after (Ok place) told some other it = let done = told.0 in absurd (omega arith)
      find_kept status before after (Err e) told some other it = find_same e (other_code status e other told.0) it

      pub destroy_sound : (found : Bool) → DestroysNamed name T opened left found → picture.loose ≡ [] → IsStillSound (bytes_in opened) (bytes_in left)
      destroy_sound true it none = sound_then (it.loses picture held refl).becomes none
      destroy_sound false it none = sound_still none (image_same (it.unchanged refl))
