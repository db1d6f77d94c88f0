-- The image of a cache: a list of keys, the oldest first, and a map from keys to numbers.
--     types                        its types
--     picture_of order_at values_at keys entries
--                                  the content of an image with this list and this map
--     KeepsCache image keys entries    a saved image has them
--     HasCache image order values keys entries
--                                  an open image has them, at these places
--     without_keys gone entries    the map after these keys were removed
use Rattle.std.specs.Prelude.{◌≡◌, ℕ, ℤ, List, [], ◌∷◌, Option, Some, None, codes, remove}
use Rattle.seg_spec.specs.Types.{Form, Table}
use Rattle.seg_spec.specs.Value.{Values, nil, cons, Int, Seq, Map}
use Rattle.seg_spec.specs.Items.{key_place, remove_nth}
use Rattle.seg_spec.specs.Index.{plain_root}
use Rattle.seg_spec.specs.Sound.{Picture, IsHeld}
use Rattle.seg_spec.specs.Counting.{AreCounted}
use Rattle.seg_spec.specs.Bytes.{word}
use Rattle.seg_spec.specs.Header.{next_word}
use Rattle.lezgauri.specs.Place.{Place}
use Rattle.lezgauri.specs.Image.{Image}
use Rattle.lezgauri.specs.Images.{IsOpen}

-- a number, a map of numbers, and a list of numbers
abbrev pub types : Table
types = Form.i64 ∷ Form.map 0 ∷ Form.list 0 ∷ []

-- numbers as the items of a list
abbrev pub items_of : List ℤ → Values
items_of [] = nil
items_of (k ∷ keys) = cons (Int k) (items_of keys)

abbrev pub picture_of : ℕ → ℕ → List ℤ → List ℤ × Values → Picture
picture_of order_at values_at keys entries = record {
  table = types;
  names = plain_root (codes "order") order_at 2 (cons (Seq (items_of keys)) nil)
      ∷ plain_root (codes "values") values_at 1 (cons (Map entries.0 entries.1) nil) ∷ [];
  uniques = [];
  loose = [];
  frozen = [];
}

-- the content of an image with the types alone
abbrev pub bare : Picture
bare = record { table = types; names = []; uniques = []; loose = []; frozen = [] }

-- The image is sound, and has these keys in this order, and these numbers.
pub record KeepsCache (image : List ℕ) (keys : List ℤ) (entries : List ℤ × Values) : Type 0 where
  pub order_at : ℕ
  pub values_at : ℕ
  pub held : IsHeld image (picture_of order_at values_at keys entries)
  pub counted : AreCounted (word image next_word) (picture_of order_at values_at keys entries)

pub record HasCache {A : Type 0} (image : Image A) (order values : Place) (keys : List ℤ)
    (entries : List ℤ × Values) : Type 0 where
  pub is_open : IsOpen image (picture_of order.at values.at keys entries)
  pub order_type : order.type_id ≡ 2
  pub values_type : values.type_id ≡ 1

-- ---- keys that are dropped

abbrev pub without_at : Option ℕ → List ℤ × Values → List ℤ × Values
without_at None entries = entries
without_at (Some i) entries = (remove entries.0 i, remove_nth entries.1 i)

abbrev pub without_key : List ℤ × Values → ℤ → List ℤ × Values
without_key entries key = without_at (key_place entries.0 key) entries

abbrev pub without_keys : List ℤ → List ℤ × Values → List ℤ × Values
without_keys [] entries = entries
without_keys (k ∷ keys) entries = without_keys keys (without_key entries k)
