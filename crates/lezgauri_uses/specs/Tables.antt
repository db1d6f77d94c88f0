-- The image of a table of settings.
--     types                        its types
--     table_value entries greeting     the table's value: a map of numbers, and a text
--     picture_of at value          the content of an image with this table alone
--     after_set entries key number     the keys and numbers of a map after a key's number was set
--     number_at entries key        the number of a key, if the map has it
--     ContainsTable image at entries greeting
--                                  an open image has this table alone
--     table_at, numbers_at, greeting_at     the places of the table, its map and its text
use Rattle.std.specs.Prelude.{ℕ, ℤ, pos, List, [], ◌∷◌, Option, Some, None, codes, insert, option_and_then, ◌+◌}
use Rattle.seg_spec.specs.Types.{Form, Table}
use Rattle.seg_spec.specs.Value.{Value, Values, nil, cons, Int, Text, Map, Struct, nth, change_nth}
use Rattle.seg_spec.specs.Items.{key_place, keys_below, insert_nth}
use Rattle.seg_spec.specs.Index.{plain_root}
use Rattle.seg_spec.specs.Sound.{Picture}
use Rattle.lezgauri.specs.Place.{Place}
use Rattle.lezgauri.specs.Image.{Image}
use Rattle.lezgauri.specs.Images.{IsOpen}

-- a number, a text, a map of numbers, and the table
abbrev pub types : Table
types = Form.i64 ∷ Form.str ∷ Form.flat_map 0 ∷ Form.struct (2 ∷ 1 ∷ []) ∷ []

abbrev pub table_value : List ℤ × Values → List ℕ → Value
table_value entries greeting = Struct (cons (Map entries.0 entries.1) (cons (Text greeting) nil))

-- one named object, whose value is at this position
abbrev pub picture_of : ℕ → Value → Picture
picture_of at value = record {
  table = types;
  names = plain_root (codes "settings") at 3 (cons value nil) ∷ [];
  uniques = [];
  loose = [];
  frozen = [];
}

-- the map with a new key, whose number is 0, or the same map if it has the key
abbrev pub with_key_at : Option ℕ → List ℤ × Values → ℤ → List ℤ × Values
with_key_at None entries key = (
  insert entries.0 (keys_below entries.0 key) key,
  insert_nth entries.1 (keys_below entries.0 key) (Int (pos 0)),
)
with_key_at (Some i) entries key = entries

abbrev pub with_key : List ℤ × Values → ℤ → List ℤ × Values
with_key entries key = with_key_at (key_place entries.0 key) entries key

-- the map, after the number of a key that it has was replaced
abbrev pub with_number : List ℤ × Values → ℤ → ℤ → List ℤ × Values
with_number entries key number =
    (entries.0, change_nth (key_place entries.0 key) (λ old. Int number) entries.1)

abbrev pub after_set : List ℤ × Values → ℤ → ℤ → List ℤ × Values
after_set entries key number = with_number (with_key entries key) key number

-- the number of a key, if the map has it
abbrev pub number_at : List ℤ × Values → ℤ → Option Value
number_at entries key = option_and_then (λ i. nth entries.1 i) (key_place entries.0 key)

-- ---- an open image

-- the image has this table, and no other object
abbrev pub ContainsTable : {A : Type 0} → Image A → ℕ → List ℤ × Values → List ℕ → Type 0
ContainsTable image at entries greeting =
    IsOpen image (picture_of at (table_value entries greeting))

-- the places of the table, its map and its text
abbrev pub table_at : ℕ → Place
table_at at = record { at = at; type_id = 3 }

abbrev pub numbers_at : ℕ → Place
numbers_at at = record { at = at; type_id = 2 }

abbrev pub greeting_at : ℕ → Place
greeting_at at = record { at = at + 8; type_id = 1 }
