-- How an image's picture represents a state, without the bytes of the image. So an object can move
-- in several steps, of which only the last is an image.
use Rattle.std.proofs.Common.{◌≡◌, ℕ, List, ◌++◌, Option, refl}
use Rattle.std.specs.Prelude.{option_map}
use Rattle.seg_spec.specs.Bytes.{word}
use Rattle.seg_spec.specs.Header.{next_word}
use Rattle.seg_spec.specs.Index.{Root, root_named, root_of_type}
use Rattle.seg_spec.specs.Reads.{Place}
use Rattle.seg_spec.specs.Frozen.{Frozen}
use Rattle.seg_spec.specs.Shared.{left}
use Rattle.seg_spec.specs.Sound.{Picture, IsHeld}
use Rattle.seg_spec.specs.Counting.{AreCounted}
use Rattle.client_spec.specs.Machine.{Origin, State}
use Rattle.client_spec.specs.Pictures.{root_of_register, AreOwned, names_in, uniques_in, Pictures, root_at}

-- the picture has the state's types, names and unique objects, and the objects of registers after
-- the other loose ones
pub record Looks (others : List Root) (s : State) : Type 0 where
  pub picture : Picture
  pub types : picture.table ≡ s.types
  pub names : (name : List ℕ) → s.names name ≡ names_in picture name
  pub uniques : (T : ℕ) → s.uniques T ≡ uniques_in picture T
  pub owned : List Root
  pub are_owned : AreOwned s.registers owned
  pub loose : picture.loose ≡ others ++ owned

-- the root where a path begins, and the number of its item
abbrev pub root_in : {others : List Root} {s : State} → Looks others s → Origin → Option (Root × ℕ)
root_in looks (Origin.Name name i) = option_map (λ root. (root, i)) (root_named looks.picture.names name)
root_in looks (Origin.Unique T) = option_map (λ root. (root, 0)) (root_of_type looks.picture.uniques T)
root_in {s = s} looks (Origin.Owned r) = option_map (λ root. (root, 0)) (root_of_register s.registers looks.owned r)

abbrev pub looks_of : {others : List Root} {s : State} {bytes : List ℕ} → Pictures others s bytes → Looks others s
looks_of pictured = record {
  picture = pictured.picture;
  types = pictured.types;
  names = pictured.names;
  uniques = pictured.uniques;
  owned = pictured.owned;
  are_owned = pictured.are_owned;
  loose = pictured.loose;
}

-- the same look with other frozen objects
abbrev pub looks_with : {others : List Root} {s : State} → List Frozen → Looks others s → Looks others s
looks_with frozen looks = record {
  picture = record looks.picture { frozen = frozen };
  types = looks.types;
  names = looks.names;
  uniques = looks.uniques;
  owned = looks.owned;
  are_owned = looks.are_owned;
  loose = looks.loose;
}

-- the same look with the frozen objects that remain after these cells were destroyed
abbrev pub looks_left : {others : List Root} {s : State} → List Place → Looks others s → Looks others s
looks_left gone looks = looks_with (left gone looks.picture.frozen) looks

-- bytes with this picture, whose frozen objects are counted
abbrev pub held_by : {others : List Root} {s : State} {bytes : List ℕ} → (looks : Looks others s) → IsHeld bytes looks.picture → AreCounted (word bytes next_word) looks.picture → Pictures others s bytes
held_by looks held counted = record {
  picture = looks.picture;
  held = held;
  counted = counted;
  types = looks.types;
  names = looks.names;
  uniques = looks.uniques;
  owned = looks.owned;
  are_owned = looks.are_owned;
  loose = looks.loose;
}

pub begins_in : {others : List Root} {s : State} {bytes : List ℕ} (pictured : Pictures others s bytes) (o : Origin) → root_at pictured o ≡ root_in (looks_of pictured) o
begins_in pictured (Origin.Name name i) = refl
begins_in pictured (Origin.Unique T) = refl
begins_in pictured (Origin.Owned r) = refl

pub begins_at : {others : List Root} {s : State} {bytes : List ℕ} (looks : Looks others s) (held : IsHeld bytes looks.picture) (counted : AreCounted (word bytes next_word) looks.picture) (o : Origin)
    → root_in looks o ≡ root_at (held_by looks held counted) o
begins_at looks held counted (Origin.Name name i) = refl
begins_at looks held counted (Origin.Unique T) = refl
begins_at looks held counted (Origin.Owned r) = refl

pub begins_with : {others : List Root} {s : State} (frozen : List Frozen) (looks : Looks others s) (o : Origin) → root_in looks o ≡ root_in (looks_with frozen looks) o
begins_with frozen looks (Origin.Name name i) = refl
begins_with frozen looks (Origin.Unique T) = refl
begins_with frozen looks (Origin.Owned r) = refl

pub begins_left : {others : List Root} {s : State} (gone : List Place) (looks : Looks others s) (o : Origin) → root_in looks o ≡ root_in (looks_left gone looks) o
begins_left gone looks o = begins_with (left gone looks.picture.frozen) looks o
