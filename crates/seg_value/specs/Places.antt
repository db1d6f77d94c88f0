-- Calls on owns.
--     TakesOwn old new table own U v blocks result     an own gave up its object, and is now empty
--     SetsOwn old new table own w blocks taken theirs now final
--                                      an own got an object with this value; its old object was destroyed
use Rattle.std.specs.Prelude.{◌≡◌, ℕ, ◌≤◌, List, [], ◌∷◌, ◌++◌, Option, Some}
use Rattle.seg_spec.specs.Types.{Table}
use Rattle.seg_spec.specs.Value.{Value, Empty, Full}
use Rattle.seg_spec.specs.Heap.{live}
use Rattle.seg_spec.specs.Block.{KeepsBlock, block_of}
use Rattle.seg_spec.specs.Reads as reads
use Rattle.seg_spec.specs.Roots.{ChangesPlace}
use Rattle.seg_spec.specs.Calls.{IsLoose}
use Rattle.seg_spec.specs.Clearing.{ClearsPlace}
use Rattle.seg_spec.specs.Frozen.{Frozen}
use Rattle.seg_spec.specs.Sound.{times}
use Rattle.seg_cells.specs.Places.{object_at}

-- The own is now empty. The object that it had is loose, with its value, and its blocks are kept.
-- The allocated blocks are the same.
pub record TakesOwn (old new : List ℕ) (table : Table) (own : reads.Place) (U : ℕ) (v : Value)
    (blocks : List ℕ) (result : Option ℕ) : Type 0 where
  pub object : ℕ
  pub inside : List ℕ
  pub result_is : result ≡ Some object
  pub blocks_are : blocks ≡ block_of object ∷ inside
  pub loose : IsLoose new table (object_at object U) v inside
  pub changes : ChangesPlace old new table own Empty [] (live old) blocks blocks
  pub kept : (h : ℕ) → 1 ≤ times h blocks → KeepsBlock old new h

-- The own had `blocks`, and now has an object with the value w, whose blocks `taken` are kept. Its
-- old object was destroyed, with the frozen objects that lost their last cell.
pub record SetsOwn (old new : List ℕ) (table : Table) (own : reads.Place) (w : Value)
    (blocks taken : List ℕ) (theirs : ℕ → List ℕ) (now final : List Frozen) : Type 0 where
  pub clears : ClearsPlace old new table own (Full w) (blocks ++ taken) taken theirs now final
  pub kept : (h : ℕ) → 1 ≤ times h taken → KeepsBlock old new h
