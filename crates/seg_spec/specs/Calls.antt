-- The premises of calls on places, and how calls fail.
--     IsLoose bytes table object v inside           an object without an owner contains v, and v owns the
--                                                   blocks `inside`
--     Refuses allocator old new asks                a request can't be granted, and nothing changed
use Rattle.std.specs.Prelude.{◌≡◌, ℕ, ◌≤◌, List, ◌∷◌, length}
use Rattle.seg_spec.specs.Types.{Table, size}
use Rattle.seg_spec.specs.Value.{Value}
use Rattle.seg_spec.specs.Heap.{live}
use Rattle.seg_spec.specs.Block.{Kind, tag_of, block_of, IsBlock}
use Rattle.seg_spec.specs.Reads.{Place, Holds}
use Rattle.seg_spec.specs.Sound.{times, positions}
use Rattle.seg_spec.specs.Demand.{Ask, NoRoom}

-- The object has no name and no owner. Its block has the tag of an object, and this block and its
-- value's blocks are allocated and differ.
pub record IsLoose (bytes : List ℕ) (table : Table) (object : Place) (v : Value)
    (inside : List ℕ) : Type 0 where
  pub block : IsBlock bytes object.at (tag_of Kind.object object.type) (size table object.type)
  pub holds_it : Holds bytes table object v inside
  pub owned : (h : ℕ) → times h (block_of object.at ∷ inside) ≤ times h (positions (live bytes))

-- the call failed because of a lack of room
pub record Refuses (allocator : ℕ) (old new : List ℕ) (asks : List Ask) : Type 0 where
  pub no_room : NoRoom allocator (live old) (length old) asks
  pub same : new ≡ old
