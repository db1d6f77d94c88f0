-- The places that calls on an image take and return.
--     found_position result       the position of the place that a call returned
--     found_entry result          the key and the position of the entry that a call returned
--     first_place T found         the place of the first value of an object that was found
--     item_place table T i found  the place of the object's value at an index
--     value_count found           the number of the object's values
--     is_counted form             the cells of values of this form have a count
--     is_list form                the values of this form are lists
--     object_type form            the type of the objects that they own
--     shared_type form            the type of the objects to which they point as shared cells
--     HasPairs table T            values of a type are flat maps of numbers
--     HasNumberValues table T     values of a type are flat maps or maps of numbers
--     StandsIn image place v blocks   the place contains v, and owns these blocks
--     WhereMap allocator segment map claim
--                                 the claim is true of the map at a place
--     content_place U at          the place of the object to which an own points
--     frozen_place T payload      the place of the frozen object to which a shared cell points
--     FieldPlace table place i result
--                                 the place of a field of a struct, or why the struct has no such field
use Rattle.std.specs.Prelude.{◌≡◌, ℕ, ◌+◌, ◌*◌, ◌%◌, ◌^◌, ℤ, ◌==◌, nat_lt, if◌then◌else◌, Bool, true, false, List, length, Option, Some, None, slice_get, MatchOption, Result, Ok, Err}
use Rattle.seg_spec.specs.Types.{Form, Table, form_at, fields_of, size}
use Rattle.seg_spec.specs.Value.{Value, Values}
use Rattle.seg_spec.specs.Owning.{Stands}
use Rattle.seg_spec.specs.Frozen.{frozen_words}
use Rattle.seg_raw.specs.declared.code.Code.{Code}
use Rattle.seg_raw.specs.declared.code.Code.TheVariants as code
use Rattle.seg_manager.specs.declared.names.Found.{Found}
use Rattle.seg_value.specs.Place.{Place}
use Rattle.seg_value.specs.CellPlaces.{place_of}
use Rattle.seg_value.specs.Stored.{Stored}
use Rattle.seg_map.specs.EitherMap.{IsMapOf, WhereMaps}
use Rattle.seg_map.specs.declared.key_value.KeyValue.{KeyValue}
use Rattle.seg_image.specs.declared.image.Image.{Image}
use Rattle.seg_image.specs.Images.{allocator_of, bytes_in, types_of}

abbrev pub found_position : Result Place Code → Result ℕ Code
found_position (Ok place) = Ok place.at
found_position (Err error) = Err error

abbrev pub found_entry : Result (ℤ × Place) Code → Result KeyValue Code
found_entry (Ok entry) = Ok (record { key = entry.0; value = entry.1.at })
found_entry (Err error) = Err error

-- ---- named objects

-- the place of the first value of an object that was found
abbrev pub first_place : ℕ → Result Found Code → Result Place Code
first_place T (Ok found) = Ok (record { at = found.at; type_id = T })
first_place T (Err error) = Err error

-- the place of the object's value at an index
abbrev pub item_place : Table → ℕ → ℕ → Result Found Code → Result Place Code
item_place table T i (Ok found) =
    if nat_lt i found.count then Ok (record { at = found.at + i * size table T; type_id = T })
    else Err code.OutOfRange
item_place table T i (Err error) = Err error

-- the number of the object's values
abbrev pub value_count : Result Found Code → Result ℕ Code
value_count (Ok found) = Ok found.count
value_count (Err error) = Err error

-- ---- types of places

-- the cells of values of this form have a count: of bytes, items, keys or objects
abbrev pub is_counted : Option Form → Bool
is_counted None = false
is_counted (Some Form.i64) = false
is_counted (Some (Form.struct fields)) = false
is_counted (Some (Form.shared T)) = false
is_counted (Some _) = true

abbrev pub is_list : Option Form → Bool
is_list (Some (Form.list U)) = true
is_list _ = false

abbrev pub object_type : Option Form → Option ℕ
object_type (Some (Form.own U)) = Some U
object_type _ = None

abbrev pub shared_type : Option Form → Option ℕ
shared_type (Some (Form.shared T)) = Some T
shared_type _ = None

-- the values of a type are flat maps of numbers
pub record HasPairs (table : Table) (T : ℕ) : Type 0 where
  pub value : ℕ
  pub map_is : form_at table T ≡ Some (Form.flat_map value)
  pub number_is : form_at table value ≡ Some Form.i64

-- the values of a type are flat maps or maps of numbers
pub record HasNumberValues (table : Table) (T : ℕ) : Type 0 where
  pub value : ℕ
  pub map_is : IsMapOf (form_at table T) value
  pub number_is : form_at table value ≡ Some Form.i64

-- ---- values

-- The place lies in a block of the image's well-formed heap. It contains v and owns these blocks.
abbrev pub StandsIn : {A : Type 0} → Image A → Place → Value → List ℕ → Type 0
StandsIn image place v blocks =
    Stands (allocator_of image) (bytes_in image) (types_of image) (place_of place) v blocks

-- If the place has a map, the claim is true of the type of the map's values, its keys and values,
-- and the blocks that it owns.
abbrev pub WhereMap : ℕ → Stored → Place → (ℕ → List ℤ → Values → List ℕ → Type 0) → Type 0
WhereMap allocator segment map claim =
    WhereMaps allocator segment.window.bytes segment.types (place_of map) claim

-- the place of the object to which an own points, by their types
abbrev pub content_place : Option ℕ → Option ℕ → Result Place Code
content_place None at = Err code.OtherType
content_place (Some U) None = Err code.Null
content_place (Some U) (Some at) = Ok (record { at = at; type_id = U })

-- the place of the frozen object to which a shared cell points, by their types
abbrev pub frozen_place : Option ℕ → Option ℕ → Result Place Code
frozen_place None payload = Err code.OtherType
frozen_place (Some T) None = Err code.Null
frozen_place (Some T) (Some payload) =
    Ok (record { at = (payload + frozen_words) % 2 ^ 32; type_id = T })

-- the place of a field of a struct, by its index from 0
abbrev pub FieldPlace : Table → Place → ℕ → Result Place Code → Type 0
FieldPlace table place i result = MatchOption (slice_get (fields_of table place.type_id) i)
    (result ≡ Err (if length (fields_of table place.type_id) == 0 then code.OtherType
    else code.OutOfRange))
    (λ cell. result ≡ Ok (record { at = (place.at + cell.from) % 2 ^ 32; type_id = cell.type }))
