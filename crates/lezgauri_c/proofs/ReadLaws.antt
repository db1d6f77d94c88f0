-- What a reader of an image finds, with the types that C keeps, and how calls report it.
use Rattle.std.proofs.Common.{◌≡◌, ℕ, ℤ, true, List, Option, Some, None, Result, Ok, Err, inl, inr, refl, sym, ap, ◌∙◌, subst}
use Rattle.std.specs.Prelude.{IsOkUnless, MatchResult}
use Rattle.std.specs.Option.{ok_or}
use Rattle.std.specs.Result.{result_ok}
use Rattle.seg_spec.specs.Types.{Form, Table}
use Rattle.seg_spec.specs.Sound.{Picture}
use Rattle.seg_spec.specs.Images.{IsSound}
use Rattle.seg_raw.specs.declared.code.Code.{Code}
use Rattle.lezgauri.specs.Place.{Place}
use Rattle.lezgauri.specs.EitherMap.{has_keys, IsMapOf}
use Rattle.seg_manager.specs.Segments.{IsSegment}
use Rattle.lezgauri.specs.KeyValue.{KeyValue}
use Rattle.lezgauri.specs.Places.{found_position, found_entry}
use Rattle.lezgauri_c.specs.declared.place.Place as told
use Rattle.lezgauri_c.specs.declared.kept_types.KeptTypes.{KeptTypes}
use Rattle.lezgauri_c.specs.Places.{code_status, TellsPlace, TellsEntry}
use Rattle.lezgauri_c.specs.Values.{table_in, at_in, entry_in, stored_in, allocator_in, Tells, TellsOption, OnSound}

-- ---- the image and the types that are read

pub segment_in : (image : List ℕ) (sound : IsSound image) → IsSegment (allocator_in image) (stored_in image sound.picture.table) sound.picture
segment_in image sound = record { held = sound.held; counted = sound.counted; table_is = refl; allocator_is = refl }

module _ (image bytes : List ℕ) (types : KeptTypes) (table : Table) (bytes_is : bytes ≡ image) (table_is : table_in types ≡ Some table) where
  kept_is : (kept : Table) → table_in types ≡ Some kept → table ≡ kept
  kept_is kept is = let both : Some table ≡ Some kept = sym table_is ∙ is in cc

  -- what is true of the bytes and types that are read is true of the image
  pub on_image : (Q : List ℕ → Table → Picture → Type 0) → ((picture : Picture) → Q bytes table picture) → OnSound image types (λ picture. Q image picture.table picture)
  on_image Q reads sound same =
      subst (λ (b : List ℕ). Q b sound.picture.table sound.picture) bytes_is
      (subst (λ (t : Table). Q bytes t sound.picture) (kept_is sound.picture.table same) (reads sound.picture))

  -- the same, if it needs a segment
  pub on_sound : (Q : List ℕ → Table → Picture → Type 0) → ((picture : Picture) → IsSegment (allocator_in bytes) (stored_in bytes table) picture → Q bytes table picture) → OnSound image types (λ picture. Q image picture.table picture)
  on_sound Q reads sound same =
      on_image (λ b t p. IsSegment (allocator_in b) (stored_in b t) p → Q b t p) reads sound same (segment_in image sound)

-- ---- results

pub tells_ok : {A : Type 0} (status : ℕ) (value found : A) (returned : Result A Code) → Tells status value returned → returned ≡ Ok found → (status ≡ 0) × (value ≡ found)
tells_ok status value found (Ok other) tells is = (tells.0, tells.1 ∙ (let same : other ≡ found = cc in same))
tells_ok status value found (Err error) tells is = absurd (let both : Err error ≡ Ok found = is in cc)

-- a result that is a value or one code is told as an option
pub tells_option : {A : Type 0} (code : Code) (status : ℕ) (value : A) (returned : Result A Code) (P : Option A → Type 0) → Tells status value returned → IsOkUnless returned code → P (result_ok returned)
    → TellsOption status (code_status code) value P
tells_option code status value (Ok found) P tells only is = inl (tells.0, subst (λ v. P (Some v)) (sym tells.1) is)
tells_option code status value (Err error) P tells only is = inr (tells ∙ ap code_status only, is)

pub tells_found : {A : Type 0} (code : Code) (status : ℕ) (value : A) (found : Option A) (P : Option A → Type 0) → Tells status value (ok_or found code) → P found → TellsOption status (code_status code) value P
tells_found code status value None P tells is = inr (tells, is)
tells_found code status value (Some v) P tells is = inl (tells.0, subst (λ x. P (Some x)) (sym tells.1) is)

-- the same for the position of a place
pub tells_place : (code : Code) (status : ℕ) (old place : told.Place) (returned : Result Place Code) (P : Option ℕ → Type 0) → TellsPlace status old place returned → IsOkUnless (found_position returned) code
    → P (result_ok (found_position returned)) → TellsOption status (code_status code) place (λ found. P (at_in found))
tells_place code status old place (Ok found) P tells only is = inl (tells.0, subst (λ (p : told.Place). P (Some p.at)) (sym tells.1) is)
tells_place code status old place (Err error) P tells only is = inr (tells.0 ∙ ap code_status only, is)

-- the same for a key and the place of its value
pub tells_entry : (code : Code) (status : ℕ) (key : ℤ) (place : told.Place) (returned : Result (ℤ × Place) Code) (P : Option KeyValue → Type 0) → TellsEntry status key place returned → IsOkUnless (found_entry returned) code
    → P (result_ok (found_entry returned)) → TellsOption status (code_status code) (entry_in key place) P
tells_entry code status key place (Ok found) P tells only is = inl (tells.0, rw (tells.1, tells.2) is)
tells_entry code status key place (Err error) P tells only is = inr (tells ∙ ap code_status only, is)

pub tells_at : (code : Code) (status : ℕ) (old place : told.Place) (returned : Result Place Code) (at : Option ℕ) → TellsPlace status old place returned
    → MatchResult (found_position returned) (λ p. at ≡ Some p) (λ error. (error ≡ code) × (at ≡ None)) → TellsOption status (code_status code) place (λ found. at_in found ≡ at)
tells_at code status old place (Ok found) at tells is = tells_place code status old place (Ok found) (λ o. o ≡ at) tells tt (sym is)
tells_at code status old place (Err error) at tells is = tells_place code status old place (Err error) (λ o. o ≡ at) tells is.0 (sym is.1)

-- ---- maps

pub map_keys : (form : Option Form) (U : ℕ) → IsMapOf form U → has_keys form ≡ true
map_keys None U is = absurd is
map_keys (Some Form.i64) U is = absurd is
map_keys (Some Form.str) U is = absurd is
map_keys (Some (Form.vec T)) U is = absurd is
map_keys (Some (Form.list T)) U is = absurd is
map_keys (Some (Form.flat_map T)) U is = refl
map_keys (Some (Form.map T)) U is = refl
map_keys (Some (Form.own T)) U is = absurd is
map_keys (Some (Form.struct fields)) U is = absurd is
map_keys (Some (Form.shared T)) U is = absurd is
