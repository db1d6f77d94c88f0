-- The result of a call that cuts a buffer to the size that it needs.
--     KeepsPathsInside old new table place       each path from a place still reaches the same place
--     ShrinksPlace old new table place form v blocks others
--         the value and its parts are kept, and so is each path into it
use Rattle.std.specs.Prelude.{ℕ, ◌*◌, List, length}
use Rattle.seg_spec.specs.Pointer.{target}
use Rattle.seg_spec.specs.Types.{Form, Table}
use Rattle.seg_spec.specs.Value.{Value, Selector}
use Rattle.seg_spec.specs.Heap.{live}
use Rattle.seg_spec.specs.Reads.{Place, count_at, Leads}
use Rattle.seg_spec.specs.Parts.{KeepsAllParts}
use Rattle.seg_spec.specs.Roots.{ChangesPlace}
use Rattle.seg_spec.specs.Spending.{units_named, item_size, cut_to}

abbrev pub KeepsPathsInside : List ℕ → List ℕ → Table → Place → Type 0
KeepsPathsInside old new table place =
    (path : List Selector) (inner : Place) → Leads old table place path inner →
    Leads new table place path inner

-- The buffer of a place of this form was cut in place to its items, or freed if it has no items.
-- The place contains the same value, which now owns `others`. References into it stay valid.
pub record ShrinksPlace (old new : List ℕ) (table : Table) (place : Place) (form : Form)
    (v : Value) (blocks others : List ℕ) : Type 0 where
  pub changes : ChangesPlace old new table place v others
      (cut_to (live old) (length old) (target old place.at) (units_named old place.at)
      (count_at old place.at * item_size table form))
      blocks others
  pub paths : KeepsPathsInside old new table place
  pub parts : KeepsAllParts old new table place
