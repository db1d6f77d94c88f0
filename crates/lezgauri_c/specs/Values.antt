-- Calls from C on the values of an image, with the types that C keeps.
--     table_in types            the types that C keeps, if there are any
--     at_in place               the position of a place that was found, if any
--     entry_in key place        a key that was found, with the position of its value's place
--     Tells status value returned     the status and the caller's value report the result of a call
--     ReturnsPlace status old new P   the call returned a place or a code, and P is true of that result
--     TellsOption status none value P
--                               the caller has a value, or the status is `none`; P is true of that option
--     IsReadStatus status       what a call that reads may return
--     IsUnopened image types status
--                               why an image isn't opened for a call, and the call's status
--     stored_in, allocator_in   the segment that is the whole of an image, and its allocator
--     OnSound image types P     if the image is sound and C keeps its types, P is true of its picture
--     KeepsTypes image types    the image is sound, and C keeps its types
--     ShowsNext segment list U n i result, ShowsPrevious segment list U i result
--                               the position of the item after or before item i of n, or `Null` if there is
--                               none
--     WhereText, WhereVector, WhereList, WhereMap image table place claim
--                               the claim is true of the string, the vector, the list or the map at a place
use Rattle.std.specs.Prelude.{◌≡◌, ◌⊎◌, ◌+◌, ◌-◌, ◌<◌, ◌≤◌, ℕ, ℤ, List, length, Option, Some, None, Result, Ok, Err, MatchResult, option_map}
use Rattle.seg_spec.specs.Bytes.{word}
use Rattle.seg_spec.specs.Header.{allocator_word, max_length}
use Rattle.seg_spec.specs.Types.{Table}
use Rattle.seg_spec.specs.Value.{Values}
use Rattle.seg_spec.specs.Sound.{Picture}
use Rattle.seg_spec.specs.Images.{IsSound}
use Rattle.seg_spec.specs.Reads as reads
use Rattle.seg_raw.specs.declared.code.Code.{Code}
use Rattle.seg_raw.specs.declared.code.Code.TheVariants as code
use Rattle.lezgauri.specs.Place.{Place}
use Rattle.lezgauri.specs.CellPlaces.{place_of}
use Rattle.seg_value.specs.Stored.{Stored, whole_of}
use Rattle.seg_seq.specs.Sequences.{HasText, HasItems, ShowsItem}
use Rattle.seg_seq.specs.Lists.{HasList}
use Rattle.lezgauri.specs.EitherMap.{WhereMaps}
use Rattle.lezgauri.specs.KeyValue.{KeyValue}
use Rattle.lezgauri_c.specs.declared.place.Place as told
use Rattle.lezgauri_c.specs.declared.kept_types.KeptTypes.{KeptTypes}
use Rattle.lezgauri_c.specs.KeptImages.{table_of}
use Rattle.lezgauri_c.specs.Places.{code_status, TellsPlace}

-- ---- what C keeps and gets

abbrev pub table_in : KeptTypes → Option Table
table_in types = table_of types.kept.image

abbrev pub at_in : Option told.Place → Option ℕ
at_in place = option_map (λ p. p.at) place

abbrev pub entry_in : ℤ → told.Place → KeyValue
entry_in key place = record { key = key; value = place.at }

-- ---- results

abbrev pub Tells : {A : Type 0} → ℕ → A → Result A Code → Type 0
Tells status value (Ok found) = (status ≡ 0) × (value ≡ found)
Tells status value (Err code) = status ≡ code_status code

abbrev pub ReturnsPlace : ℕ → told.Place → told.Place → (Result Place Code → Type 0) → Type 0
ReturnsPlace status old new P =
    (returned : Result Place Code) × TellsPlace status old new returned × P returned

-- the caller has a value of which P is true, or the call returned this status and P is true of none
abbrev pub TellsOption : {A : Type 0} → ℕ → ℕ → A → (Option A → Type 0) → Type 0
TellsOption status none value P =
    ((status ≡ 0) × P (Some value)) ⊎ ((status ≡ none) × P None)

-- C keeps no types, or the image is longer than any segment
abbrev pub IsUnopened : List ℕ → KeptTypes → ℕ → Type 0
IsUnopened image types status =
    ((status ≡ 100) × (table_in types ≡ None)) ⊎ ((status ≡ 10) × (max_length < length image))

-- OK, no types are kept, an image that is longer than any segment, or a code
abbrev pub IsReadStatus : ℕ → Type 0
IsReadStatus status = (status ≡ 0) ⊎ (status ≡ 100) ⊎ (status ≡ 10)
    ⊎ ((111 ≤ status) × (status ≤ 117))

-- ---- sound images

-- the segment that is the whole of an image
abbrev pub stored_in : List ℕ → Table → Stored
stored_in = whole_of

abbrev pub allocator_in : List ℕ → ℕ
allocator_in image = word image allocator_word

abbrev pub OnSound : List ℕ → KeptTypes → (Picture → Type 0) → Type 0
OnSound image types P = (sound : IsSound image) →
    table_in types ≡ Some sound.picture.table → P sound.picture

pub record KeepsTypes (image : List ℕ) (types : KeptTypes) : Type 0 where
  pub sound : IsSound image
  pub table_is : table_in types ≡ Some sound.picture.table

-- ---- items of a list

abbrev pub ShowsNext : Stored → reads.Place → ℕ → ℕ → ℕ → Result ℕ Code → Type 0
ShowsNext segment list U n i result = MatchResult result
    (λ p. (i + 1 < n) × ShowsItem segment list U (i + 1) p)
    (λ error. (error ≡ code.Null) × (i + 1 ≡ n))

abbrev pub ShowsPrevious : Stored → reads.Place → ℕ → ℕ → Result ℕ Code → Type 0
ShowsPrevious segment list U i result = MatchResult result
    (λ p. (1 ≤ i) × ShowsItem segment list U (i - 1) p)
    (λ error. (error ≡ code.Null) × (i ≡ 0))

-- ---- values at places

-- If the place has a string, the claim is true of its bytes and of the blocks that it owns.
abbrev pub WhereText : List ℕ → Table → Place → (List ℕ → List ℕ → Type 0) → Type 0
WhereText image table place claim = (xs blocks : List ℕ) →
    HasText (allocator_in image) (stored_in image table) (place_of place) xs blocks →
    claim xs blocks

-- If the place has a vector, the claim is true of the type of its items, the items, and the blocks
-- that it owns.
abbrev pub WhereVector : List ℕ → Table → Place → (ℕ → Values → List ℕ → Type 0) → Type 0
WhereVector image table place claim = (U : ℕ) (vs : Values) (blocks : List ℕ) →
    HasItems (allocator_in image) (stored_in image table) (place_of place) U vs blocks →
    claim U vs blocks

-- the same for a list
abbrev pub WhereList : List ℕ → Table → Place → (ℕ → Values → List ℕ → Type 0) → Type 0
WhereList image table place claim = (U : ℕ) (vs : Values) (blocks : List ℕ) →
    HasList (allocator_in image) (stored_in image table) (place_of place) U vs blocks →
    claim U vs blocks

-- If the place has a map, the claim is true of the type of the map's values, its keys and values,
-- and the blocks that it owns.
abbrev pub WhereMap : List ℕ → Table → Place → (ℕ → List ℤ → Values → List ℕ → Type 0) → Type 0
WhereMap image table place claim =
    WhereMaps (allocator_in image) image table (place_of place) claim
