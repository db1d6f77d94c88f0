-- Calls from C that change the image in lent memory, by one call of `Image`.
--     TellsDone, TellsFound   the status reports the result of a call
--     TellsCount status count n returned
--                             the status and the caller's count report how many of n numbers or
--                             entries a call did, and why not all
--     IsOpenedOn lent types kept
--                             the kept image is the lent memory, and is open if that is a sound
--                             image whose types C keeps
--     OnImage old new picture claim
--                             the sound image was open, and then had other bytes; the claim is
--                             true of both
--     Calls old new types status tells claim
--                             a sound image was opened with its types, which C keeps, for a call,
--                             whose result is reported; other bytes may be refused
--     GivesPlace, GivesCount, IsDone, IsFound, IsAnswered
--                             the same, for a call that returns a place or a code, how many numbers
--                             or entries it did, nothing or a code, whether something was there, and
--                             nothing
--     IsStillSound old new    a sound image of the same size is left
--     StaysSound old new types place
--                             the same, if C keeps the image's types, and the place is in one of the
--                             sound image's objects
--     StaysSoundFrom old new types from to
--                             the same, if both places are
--     HasMoreTypes old new entries before     a longer table took the place of the image's
--     RefusesTypes, RefusesTypesAs            why it didn't, and as that is reported
use Rattle.std.specs.Prelude.{◌≡◌, ◌<◌, ◌≤◌, ℕ, List, length, Bool, true, false, Some, None, Result, Ok, Err}
use Rattle.seg_spec.specs.Bytes.{ChangesOnly}
use Rattle.seg_spec.specs.Header.{types_start, types_size, sharing_version}
use Rattle.seg_spec.specs.Heap.{live}
use Rattle.seg_spec.specs.Sound.{Picture}
use Rattle.seg_spec.specs.Roots.{IsReached}
use Rattle.seg_spec.specs.Types.{Table, Agree, Spells, IsFirstWrong, IsFirstDifference, longer}
use Rattle.seg_spec.specs.Images.{IsSound, upgraded}
use Rattle.seg_spec.specs.Window.{region_of}
use Rattle.seg_raw.specs.declared.fault.Fault as seg_raw_fault
use Rattle.seg_raw.specs.declared.fault.Fault.TheVariants as fault
use Rattle.seg_raw.specs.declared.code.Code.{Code}
use Rattle.lezgauri.specs.Place.{Place}
use Rattle.lezgauri.specs.CellPlaces.{place_of}
use Rattle.std_alloc.specs.declared.vec.lodged.Lodged.{Lodged}
use Rattle.lezgauri.specs.StoppedAt.{StoppedAt}
use Rattle.lezgauri.specs.Image.{Image}
use Rattle.lezgauri.specs.Images.{segment_of, bytes_in, IsOpen}
use Rattle.lezgauri_c.specs.declared.fault.Fault.{Fault}
use Rattle.lezgauri_c.specs.declared.place.Place as told
use Rattle.lezgauri_c.specs.declared.lent.Lent.{Lent}
use Rattle.lezgauri_c.specs.declared.kept_image.KeptImage.{KeptImage}
use Rattle.lezgauri_c.specs.declared.kept_types.KeptTypes.{KeptTypes}
use Rattle.lezgauri_c.specs.KeptImages.{table_kept}
use Rattle.lezgauri_c.specs.Memory.{memory_of}
use Rattle.lezgauri_c.specs.Told.{told_fault}
use Rattle.lezgauri_c.specs.Values.{table_in, OnSound}
pub use Rattle.lezgauri_c.specs.Places.{type_number, place_at, code_status, TellsPlace}

-- ---- results

abbrev pub TellsDone : ℕ → Result (Unit {0}) Code → Type 0
TellsDone status (Ok _) = status ≡ 0
TellsDone status (Err code) = status ≡ code_status code

abbrev pub TellsCount : ℕ → ℕ → ℕ → Result (Unit {0}) StoppedAt → Type 0
TellsCount status count n (Ok _) = (status ≡ 0) × (count ≡ n)
TellsCount status count n (Err stopped) =
    (status ≡ code_status stopped.code) × (count ≡ stopped.done)

abbrev pub TellsFound : ℕ → Bool → Type 0
TellsFound status true = status ≡ 0
TellsFound status false = status ≡ 113

-- ---- calls

pub record IsOpenedOn (lent : Lent) (types : KeptTypes) (kept : KeptImage) : Type 0 where
  pub bytes : bytes_in kept.image ≡ lent.bytes
  pub region : region_of (segment_of kept.image).window ≡ lent.bytes
  pub base : length (segment_of kept.image).window.before ≡ 0
  pub home : (segment_of kept.image).window.home ≡ memory_of lent
  pub types_are : table_in types ≡ Some (table_kept kept)
  pub opened : OnSound lent.bytes types (λ picture. IsOpen kept.image picture)

-- The image with this picture was open, and had the old bytes. Then it had the new ones.
pub record OnImage (old new : List ℕ) (picture : Picture)
    (claim : Image Lodged → Image Lodged → Type 0) : Type 0 where
  pub opened : Image Lodged
  pub left : Image Lodged
  pub is_open : IsOpen opened picture
  pub opened_is : bytes_in opened ≡ old
  pub left_is : bytes_in left ≡ new
  pub called : claim opened left

-- On a sound image whose types C keeps the call was done, and the status is 0 or a code's. Bytes
-- that are refused for a fault are unchanged.
pub record Calls {R : Type 0} (old new : List ℕ) (types : KeptTypes) (status : ℕ)
    (tells : R → Type 0) (claim : Image Lodged → Image Lodged → R → Type 0) : Type 0 where
  pub on_image : OnSound old types (λ picture. OnImage old new picture
      (λ opened left. (returned : R) × tells returned × claim opened left returned))
  pub unsound : 0 < status → status ≤ 100 → OnSound old types (λ _. ⊥)
  pub kept : 0 < status → status ≤ 100 → new ≡ old

abbrev pub GivesPlace : List ℕ → List ℕ → KeptTypes → ℕ → told.Place → told.Place →
    (Image Lodged → Image Lodged → Result Place Code → Type 0) → Type 0
GivesPlace old new types status before after claim =
    Calls old new types status (TellsPlace status before after) claim

abbrev pub GivesCount : List ℕ → List ℕ → KeptTypes → ℕ → ℕ → ℕ →
    (Image Lodged → Image Lodged → Result (Unit {0}) StoppedAt → Type 0) → Type 0
GivesCount old new types status count n claim =
    Calls old new types status (TellsCount status count n) claim

abbrev pub IsDone : List ℕ → List ℕ → KeptTypes → ℕ →
    (Image Lodged → Image Lodged → Result (Unit {0}) Code → Type 0) → Type 0
IsDone old new types status claim = Calls old new types status (TellsDone status) claim

abbrev pub IsFound : List ℕ → List ℕ → KeptTypes → ℕ →
    (Image Lodged → Image Lodged → Bool → Type 0) → Type 0
IsFound old new types status claim = Calls old new types status (TellsFound status) claim

abbrev pub IsAnswered : List ℕ → List ℕ → KeptTypes → ℕ →
    (Image Lodged → Image Lodged → Type 0) → Type 0
IsAnswered old new types status claim = Calls {R = Unit {0}} old new types status
    (λ _. status ≡ 0) (λ opened left _. claim opened left)

-- the bytes are those of a sound image again, and are as many
pub record IsStillSound (old new : List ℕ) : Type 0 where
  pub sound : IsSound new
  pub length_kept : length new ≡ length old

-- If a path from an item of one of the sound image's objects reaches the place, a sound image is
-- left.
abbrev pub StaysSound : List ℕ → List ℕ → KeptTypes → Place → Type 0
StaysSound old new types place = OnSound old types
    (λ picture. IsReached old picture (place_of place) → IsStillSound old new)

abbrev pub StaysSoundFrom : List ℕ → List ℕ → KeptTypes → Place → Place → Type 0
StaysSoundFrom old new types from to = OnSound old types
    (λ picture. IsReached old picture (place_of from) → IsReached old picture (place_of to) →
    IsStillSound old new)

-- ---- types

-- The image is one of version 2, and has the longer of its table and the one whose entries these
-- are. The blocks and the other bytes are the same.
pub record HasMoreTypes (old new entries : List ℕ) (before : IsSound old) : Type 0 where
  pub more : Table
  pub spelled : Spells entries more
  pub agree : Agree before.picture.table more
  pub sound : IsSound new
  pub picture_is : sound.picture
      ≡ record before.picture { table = longer before.picture.table more }
  pub changes : ChangesOnly (upgraded old) new types_start types_size
  pub live_is : live new ≡ live (upgraded old)

-- an entry is wrong, or differs from the same entry of the image's table
abbrev pub RefusesTypes : Table → List ℕ → seg_raw_fault.Fault → Type 0
RefusesTypes table entries (fault.BadType k) = IsFirstWrong sharing_version entries k
RefusesTypes table entries (fault.TypeMismatch k) =
    (more : Table) × Spells entries more × IsFirstDifference table more k
RefusesTypes table entries _ = ⊥

abbrev pub RefusesTypesAs : Table → List ℕ → Fault → Type 0
RefusesTypesAs table entries report = (reason : seg_raw_fault.Fault) ×
    (report ≡ told_fault (record { client = None; fault = reason })) ×
    RefusesTypes table entries reason
