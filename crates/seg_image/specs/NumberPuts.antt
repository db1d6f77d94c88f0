-- Several keys with their numbers that one call puts into a map.
--     with_number entries pair, with_numbers entries pairs
--         the keys and the values of a map after a key, or several, got their numbers
--     PutsKeyIn allocator old new map key result
--         the result of `put` in the map at a place
--     PutsNumber allocator old new map pair
--         a key was put, and its number stored
--     PutsNumbers allocator old new map pairs
--         each key was put with its number, one after another
--     StopsPutting allocator old new map pairs stopped
--         only the first keys were put, and there was no room for the next one
--     none_done code      the result of a call that did nothing
use Rattle.std.specs.Prelude.{◌≡◌, ℕ, ◌+◌, ◌≤◌, ℤ, List, [], ◌∷◌, insert, length, take, slice_get, Option, Some, None, Result, Ok, Err}
use Rattle.seg_spec.specs.Bytes.{signed_long, ChangesOnly}
use Rattle.seg_spec.specs.Types.{form_at}
use Rattle.seg_spec.specs.Value.{Values, Int, change_nth}
use Rattle.seg_spec.specs.Items.{key_place, keys_below, insert_nth}
use Rattle.seg_spec.specs.Reads.{Place}
use Rattle.seg_raw.specs.declared.code.Code.{Code}
use Rattle.seg_raw.specs.declared.code.Code.TheVariants.{BadAlloc}
use Rattle.seg_value.specs.Stored.{Stored}
use Rattle.seg_map.specs.EitherMap.{WhereMaps, key_asks, KeepsTreePaths}
use Rattle.seg_map.specs.Maps.{PutsKey}
use Rattle.seg_image.specs.declared.error.StoppedAt.{StoppedAt}
use Rattle.seg_image.specs.declared.maps.Pair.{Pair}

-- ---- the map afterwards

-- by the index of the key among the keys: a missing key is added, and otherwise its value replaced
abbrev pub with_number_at : Option ℕ → List ℤ × Values → Pair → List ℤ × Values
with_number_at None entries pair = (
  insert entries.0 (keys_below entries.0 pair.key) pair.key,
  insert_nth entries.1 (keys_below entries.0 pair.key) (Int pair.number),
)
with_number_at (Some i) entries pair =
    (entries.0, change_nth (Some i) (λ _. Int pair.number) entries.1)

abbrev pub with_number : List ℤ × Values → Pair → List ℤ × Values
with_number entries pair = with_number_at (key_place entries.0 pair.key) entries pair

abbrev pub with_numbers : List ℤ × Values → List Pair → List ℤ × Values
with_numbers entries [] = entries
with_numbers entries (pair ∷ pairs) = with_numbers (with_number entries pair) pairs

-- ---- the calls

abbrev pub PutsKeyIn : ℕ → Stored → Stored → Place → ℤ → Result ℕ Code → Type 0
PutsKeyIn allocator old new map key result =
    WhereMaps allocator old.window.bytes old.types map (λ U keys vs blocks.
    PutsKey allocator old.window.bytes new.window.bytes old.types map U keys vs key blocks
    (key_asks old.window.bytes old.types map.at (form_at old.types map.type)) (key_place keys key)
    result)

-- Between the put and the store is another state of the segment. Only the 8 bytes of the number
-- change then.
pub record PutsNumber (allocator : ℕ) (old new : Stored) (map : Place) (pair : Pair) :
    Type 0 where
  pub between : Stored
  pub at : ℕ
  pub types_between : between.types ≡ old.types
  pub types_kept : new.types ≡ old.types
  pub puts : PutsKeyIn allocator old between map pair.key (Ok at)
  pub keeps : WhereMaps allocator old.window.bytes old.types map (λ U keys vs blocks.
      KeepsTreePaths (form_at old.types map.type) old.window.bytes between.window.bytes old.types
      map)
  pub changes : ChangesOnly between.window.bytes new.window.bytes at 8
  pub stored : at + 8 ≤ length between.window.bytes →
      signed_long new.window.bytes at ≡ pair.number

-- Between two keys is another state of the segment.
abbrev pub PutsNumbers : ℕ → Stored → Stored → Place → List Pair → Type 0
PutsNumbers allocator old new map [] = new ≡ old
PutsNumbers allocator old new map (pair ∷ pairs) =
    (between : Stored) × PutsNumber allocator old between map pair
    × PutsNumbers allocator between new map pairs

-- The keys before the one that was refused were put.
pub record StopsPutting (allocator : ℕ) (old new : Stored) (map : Place) (pairs : List Pair)
    (stopped : StoppedAt) : Type 0 where
  pub next : Pair
  pub next_is : slice_get pairs stopped.done ≡ Some next
  pub before : Stored
  pub puts : PutsNumbers allocator old before map (take stopped.done pairs)
  pub refused : PutsKeyIn allocator before new map next.key (Err stopped.code)
  pub code_is : stopped.code ≡ BadAlloc

abbrev pub none_done : Code → Result (Unit {0}) StoppedAt
none_done code = Err (record { done = 0; code = code })
