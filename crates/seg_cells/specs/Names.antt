-- The names in the entries of an index.
--     name_at types bytes entry        the name of the entry at a position; empty if its pointer is null
--     values_at, len_at bytes entry    the number of its object's values, and the length of its name
--     name_of types bytes object count len      the same name, from the fields of the entry
--     type_at bytes object             the type of a named object, from the tag of its block
--     type_of bytes object             the same for the object of an entry, if it has one
use Rattle.std.specs.Prelude.{ℕ, ◌+◌, ◌-◌, ◌*◌, ◌/◌, ◌%◌, ◌==◌, ◌&&◌, nat_le, nat_lt, if◌then◌else◌, List, [], Option, Some, None}
use Rattle.seg_spec.specs.Bytes.{half, byte, slice}
use Rattle.seg_spec.specs.Heap.{tag_at}
use Rattle.seg_spec.specs.Pointer.{target}
use Rattle.seg_spec.specs.Types.{Table, size}

-- the type in the tag of a named object's block
unfoldable pub named_type : ℕ → Option ℕ
named_type tag = if (tag % 256 == 1) && nat_lt (tag / 256) 256 then Some (tag / 256) else None

-- the type of the named object at a position; none if its block is of another kind
unfoldable pub type_at : List ℕ → ℕ → Option ℕ
type_at bytes object = if nat_le 16 object then named_type (tag_at bytes (object - 16)) else None

-- the number of values of an entry's object, and the length of its name
abbrev pub values_at : List ℕ → ℕ → ℕ
values_at bytes entry = half bytes (entry + 4)

abbrev pub len_at : List ℕ → ℕ → ℕ
len_at bytes entry = byte bytes (entry + 6)

-- the type of an entry's object
abbrev pub type_of : List ℕ → Option ℕ → Option ℕ
type_of bytes None = None
type_of bytes (Some object) = type_at bytes object

-- the name after `count` values of a type
abbrev pub name_after : Table → List ℕ → ℕ → ℕ → ℕ → Option ℕ → List ℕ
name_after types bytes object count len None = []
name_after types bytes object count len (Some T) = slice bytes (object + count * size types T) len

-- the name of an object, if there is one
abbrev pub name_of : Table → List ℕ → Option ℕ → ℕ → ℕ → List ℕ
name_of types bytes None count len = []
name_of types bytes (Some object) count len =
    name_after types bytes object count len (type_at bytes object)

-- the name of the entry at a position
abbrev pub name_at : Table → List ℕ → ℕ → List ℕ
name_at types bytes entry =
    name_of types bytes (target bytes entry) (values_at bytes entry) (len_at bytes entry)
