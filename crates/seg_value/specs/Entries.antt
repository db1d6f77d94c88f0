-- Inserting and removing entries of flat maps.
--     NamesFlatMap table T U content        the cell of a type points to the entries of a flat map of U
--     flat_entry bytes table cell U i       the position of an entry, which begins with its key
--     flat_value bytes table cell U i       the place of its value
--     flat_asks bytes table cell U          the requests for one more entry
--     OpensEntry ..                         a flat map has room for an entry at an index
--     ClosesEntry ..                        the entry at an index was removed, and those before it didn't move
use Rattle.std.specs.Prelude.{◌≡◌, ℕ, ◌+◌, ◌*◌, ◌%◌, ◌<◌, ℤ, List, [], Some, insert}
use Rattle.seg_spec.specs.Apart.{Separate}
use Rattle.seg_spec.specs.Block as block
use Rattle.seg_spec.specs.Block.{tag_of}
use Rattle.seg_spec.specs.Bytes.{signed_long, ChangesOnly}
use Rattle.seg_spec.specs.Cells.{IsWithin}
use Rattle.seg_spec.specs.Demand.{Ask}
use Rattle.seg_spec.specs.Growing.{Succeeds}
use Rattle.seg_spec.specs.Heap.{live}
use Rattle.seg_spec.specs.Items.{insert_nth, without_entry}
use Rattle.seg_spec.specs.Parts.{KeepsParts}
use Rattle.seg_spec.specs.Reads.{Place, count_at, start, Holds}
use Rattle.seg_spec.specs.Roots.{ChangesPlace}
use Rattle.seg_spec.specs.Shrinking.{KeepsPathsInside}
use Rattle.seg_spec.specs.Spending.{buffer_asks}
use Rattle.seg_spec.specs.Types.{Form, Table, form_at, size}
use Rattle.seg_spec.specs.Value.{Value, Values, Map, IsAscending}
use Rattle.seg_cells.specs.declared.content.Content.{Content}
use Rattle.seg_cells.specs.declared.content.Shape.TheVariants as shape
use Rattle.seg_cells.specs.Contents.{IsContent}

-- the cell of the type points to the entries of a flat map, with values of the type U
abbrev pub NamesFlatMap : Table → ℕ → ℕ → Content → Type 0
NamesFlatMap table T U content =
    (form_at table T ≡ Some (Form.flat_map U)) ×
    IsContent table shape.Buffer (tag_of block.Kind.buffer T) 8 U content

abbrev pub flat_entry : List ℕ → Table → ℕ → ℕ → ℕ → ℕ
flat_entry bytes table cell U index = start bytes cell + index * (8 + size table U)

abbrev pub flat_value : List ℕ → Table → ℕ → ℕ → ℕ → Place
flat_value bytes table cell U index =
    record { at = flat_entry bytes table cell U index + 8; type = U }

abbrev pub flat_asks : List ℕ → Table → ℕ → ℕ → List Ask
flat_asks bytes table cell U = buffer_asks bytes cell (8 + size table U) (count_at bytes cell + 1)

-- A flat map with these keys and values has room for an entry at an index, since the requests for
-- the room were granted. After a key that keeps the order and a value that owns nothing are written
-- there, the place contains the map with both, and its other values stay.
pub record OpensEntry (allocator : ℕ) (old new : List ℕ) (table : Table) (place : Place) (U : ℕ)
    (keys : List ℤ) (vs : Values) (blocks : List ℕ) (index at : ℕ) : Type 0 where
  pub at_is : at ≡ flat_entry new table place.at U index
  pub aligned : at % 8 ≡ 0
  pub within : IsWithin new at (8 + size table U)
  pub apart : Separate at (8 + size table U) place.at (size table place.type)
  pub others : List ℕ
  pub becomes : (written : List ℕ) (w : Value) → ChangesOnly new written at (8 + size table U) →
      IsAscending (insert keys index (signed_long written at)) →
      Holds written table (flat_value new table place.at U index) w [] →
      Succeeds allocator old written table place
      (Map (insert keys index (signed_long written at)) (insert_nth vs index w))
      (flat_asks old table place.at U) [] blocks others
  pub parts : (written : List ℕ) (w : Value) → ChangesOnly new written at (8 + size table U) →
      IsAscending (insert keys index (signed_long written at)) →
      Holds written table (flat_value new table place.at U index) w [] →
      KeepsParts old written table place index 0 1

-- The entry at an index was removed, with its key and its value, which owned nothing. The other
-- values stay. The buffer didn't move. Paths from the values before that index still reach the same
-- places.
pub record ClosesEntry (old new : List ℕ) (table : Table) (place : Place) (U : ℕ) (keys : List ℤ)
    (vs : Values) (blocks : List ℕ) (index : ℕ) : Type 0 where
  pub changes : ChangesPlace old new table place (without_entry (keys, vs) index) blocks
      (live old) blocks blocks
  pub start_kept : start new place.at ≡ start old place.at
  pub paths : (i : ℕ) → i < index →
      KeepsPathsInside old new table (flat_value old table place.at U i)
  pub parts : KeepsParts old new table place index 1 0
