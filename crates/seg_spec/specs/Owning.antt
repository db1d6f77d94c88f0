-- A place, and the blocks around it, before a call on the place.
--     StandsBeside bytes home at n blocks         n bytes lie in the payload of an allocated block, and
--                                                 these blocks are other allocated ones
--     Stands allocator bytes table place v blocks     a place in an allocated block contains v, and owns
--                                                     these other allocated blocks, each once
use Rattle.std.specs.Prelude.{◌≡◌, ◌≢◌, ℕ, ◌%◌, ◌≤◌, List, ◌∷◌}
use Rattle.std.specs.List.{AllByRecursion}
use Rattle.seg_spec.specs.Bytes.{word}
use Rattle.seg_spec.specs.Types.{Table, IsTable, size}
use Rattle.seg_spec.specs.Value.{Value}
use Rattle.seg_spec.specs.Heap.{IsHeap, live}
use Rattle.seg_spec.specs.Block.{IsInside, IsOwnable}
use Rattle.seg_spec.specs.Reads.{Place, Holds}
use Rattle.seg_spec.specs.Sound.{times, positions}
use Rattle.seg_spec.specs.Header.{allocator_word}

pub record StandsBeside (bytes : List ℕ) (home at n : ℕ) (blocks : List ℕ) : Type 0 where
  pub inside : IsInside bytes home at n
  pub home_live : 1 ≤ times home (positions (live bytes))
  pub others : (h : ℕ) → 1 ≤ times h blocks → (1 ≤ times h (positions (live bytes))) × (h ≢ home)

-- The heap is well-formed. The place lies in an allocated block and contains v, which owns these
-- other allocated blocks. Each of these is listed once.
pub record Stands (allocator : ℕ) (bytes : List ℕ) (table : Table) (place : Place) (v : Value)
    (blocks : List ℕ) : Type 0 where
  pub heap : IsHeap allocator bytes
  pub allocator_is : word bytes allocator_word ≡ allocator
  pub is_table : IsTable table
  pub ownable : AllByRecursion (λ b. IsOwnable bytes table b.at) (live bytes)
  pub holds_it : Holds bytes table place v blocks
  pub aligned : place.at % 8 ≡ 0
  pub home : ℕ
  pub inside : IsInside bytes home place.at (size table place.type)
  pub owned : (h : ℕ) → times h (home ∷ blocks) ≤ times h (positions (live bytes))
