-- What an export that changes an image promises, from what is known of the call of `Image`.
use Rattle.std.proofs.Common.{◌≡◌, ◌<◌, ℕ, List, [], Some, sym, ap, ◌∙◌, subst, arith}
use Rattle.seg_spec.specs.Sound.{Picture}
use Rattle.seg_spec.specs.Window.{Placement, Home}
use Rattle.seg_value.specs.Stored.{Stored}
use Rattle.seg_manager.specs.Segments.{Becomes}
use Rattle.std_alloc.specs.declared.vec.lodged.Lodged.{Lodged}
use Rattle.lezgauri.specs.Image.{Image}
use Rattle.lezgauri.specs.Images.{segment_of, bytes_in, types_of, IsOpen, ChangesBytes}
use Rattle.lezgauri_c.specs.declared.kept_types.KeptTypes.{KeptTypes}
use Rattle.lezgauri_c.specs.declared.kept_image.KeptImage.{KeptImage}
use Rattle.lezgauri_c.specs.declared.lent.Lent.{Lent}
use Rattle.lezgauri_c.specs.Changes.{Calls, IsOpenedOn, IsStillSound}
use Rattle.lezgauri_c.specs.Values.{table_in, OnSound}

module _ {old new : List ℕ} (types : KeptTypes) (opened left : Image Lodged) (opened_is : bytes_in opened ≡ old) (left_is : bytes_in left ≡ new)
    (is_open : OnSound old types (λ picture. IsOpen opened picture)) where
  pub calls : {R : Type 0} {status : ℕ} {tells : R → Type 0} {claim : Image Lodged → Image Lodged → R → Type 0} (returned : R)
      → (0 < status → 110 < status) → tells returned → claim opened left returned → Calls old new types status tells claim
  calls {status = status} returned above told called = record {
    on_image = λ sound same. record {
      opened = opened;
      left = left;
      is_open = is_open sound same;
      opened_is = opened_is;
      left_is = left_is;
      called = (returned, told, called);
    };
    unsound = λ some few sound same. let more : 110 < status = above some in omega arith;
    kept = λ some few. let more : 110 < status = above some in absurd (omega arith);
  }

  -- the image is sound again if that is true of the open image
  pub still_sound : ((picture : Picture) → IsOpen opened picture → picture.loose ≡ [] → IsStillSound (bytes_in opened) (bytes_in left)) → OnSound old types (λ _. IsStillSound old new)
  still_sound then sound same =
      subst (λ (b : List ℕ). IsStillSound b new) opened_is
      (subst (λ (b : List ℕ). IsStillSound (bytes_in opened) b) left_is (then sound.picture (is_open sound same) sound.none_loose))

  -- the bytes are the same if that is true of the open image
  pub still_same : ((picture : Picture) → IsOpen opened picture → bytes_in left ≡ bytes_in opened) → OnSound old types (λ _. new ≡ old)
  still_same then sound same = sym left_is ∙ then sound.picture (is_open sound same) ∙ opened_is

-- bytes that were refused
pub refused : {R : Type 0} {old new : List ℕ} {types : KeptTypes} {status : ℕ} {tells : R → Type 0} {claim : Image Lodged → Image Lodged → R → Type 0}
    → OnSound old types (λ _. ⊥) → new ≡ old → Calls old new types status tells claim
refused unsound same = record {
  on_image = λ sound kept. absurd (unsound sound kept);
  unsound = λ some few. unsound;
  kept = λ some few. same;
}

-- a segment without loose objects is a sound image
pub sound_then : {allocator : ℕ} {old new : Stored} {other : Picture} {gone : List ℕ} → Becomes allocator old new other gone → other.loose ≡ [] → IsStillSound old.window.bytes new.window.bytes
sound_then {other = other} becomes none = record {
  sound = record { picture = other; held = becomes.segment.held; counted = becomes.segment.counted; none_loose = none };
  length_kept = becomes.length_kept;
}

-- the image in a box is open, as its value was
pub opened_now : {lent : Lent} {types : KeptTypes} {kept now : KeptImage} → now ≡ kept → IsOpenedOn lent types kept → IsOpenedOn lent types now
opened_now {lent = lent} {types = types} same = subst (λ (k : KeptImage). IsOpenedOn lent types k) (sym same)

-- a change of the open image leaves its memory, and its types
pub same_memory : {old new : Home} (opened left : Image Lodged) → (segment_of opened).window.home ≡ old → ChangesBytes opened left → new ≡ (segment_of left).window.home → new ≡ old
same_memory opened left taken changes given = given ∙ ap (λ (p : Placement). p.home) changes.host ∙ taken

pub same_types : (old new : KeptTypes) (opened left : Image Lodged) → table_in old ≡ Some (types_of opened) → ChangesBytes opened left → table_in new ≡ Some (types_of left) → table_in new ≡ table_in old
same_types old new opened left taken changes given = given ∙ ap Some changes.types ∙ sym taken
