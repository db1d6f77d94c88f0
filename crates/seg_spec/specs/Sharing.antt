-- Calls that make a cell share a frozen object, or freeze an object. `theirs` gives the blocks of
-- each frozen object, by its position.
--     FrozenBeside bytes table besides cells next theirs now
--                            frozen objects exist apart from these blocks, and count these cells and their own cells
--     cell_count object      the count in a cell that points to this object, or has a null pointer
--     frozen_now payload T number v
--                            a new frozen object, with one cell
--     MovesFrozen allocator old new table T object v inside payload
--                            an object was moved to a new block, and is frozen there
--     with_blocks payload its theirs
--                            like `theirs`, but the object at this position owns `its`
--     Freezes allocator old new table cell T object v inside blocks names theirs now
--                            an object was frozen, and a cell points to it
--     FreezesParts allocator old new table cell T object v inside blocks names theirs now
--                            the same, and the object keeps its parts
use Rattle.std.specs.Prelude.{◌≡◌, ◌≢◌, ℕ, suc, ◌+◌, ◌-◌, ◌≤◌, ◌==◌, if◌then◌else◌, List, [], ◌∷◌, ◌++◌, length, Option, Some, None}
use Rattle.std.specs.List.{AllByRecursion}
use Rattle.seg_spec.specs.Bytes.{word, IsSame}
use Rattle.seg_spec.specs.Header.{allocator_word, index_cell, KeepsFront, next_word}
use Rattle.seg_spec.specs.Types.{Table, size}
use Rattle.seg_spec.specs.Value.{Label, Value, nil, node}
use Rattle.seg_spec.specs.Heap.{Span, IsHeap, live, link_at, heap_start}
use Rattle.seg_spec.specs.Block.{KeepsBlock, IsOwnable, block_of}
use Rattle.seg_spec.specs.Reads.{Place, Holds}
use Rattle.seg_spec.specs.Parts.{Persists}
use Rattle.seg_spec.specs.Apart.{KeepsBlockAround}
use Rattle.seg_spec.specs.Sound.{HoldsRoot, times, SameBlocks, positions}
use Rattle.seg_spec.specs.Demand.{block_for, after_asks, after_gives}
use Rattle.seg_spec.specs.Frozen.{Frozen, frozen_words, root_of_frozen, blocks_by}
use Rattle.seg_spec.specs.Shared.{IsCounted, IsFalling, left}
use Rattle.seg_spec.specs.Destroying.{AreLive, HoldFrozen, KeepFrozen}

-- The frozen objects own the blocks `theirs`. These and `besides` are allocated and differ. The
-- objects count `cells` and the cells in the objects.
pub record FrozenBeside (bytes : List ℕ) (table : Table) (besides : List ℕ) (cells : List Place)
    (next : ℕ) (theirs : ℕ → List ℕ) (now : List Frozen) : Type 0 where
  pub holds : HoldFrozen bytes table theirs now
  pub ownable : (h : ℕ) → 1 ≤ times h (blocks_by theirs now) → IsOwnable bytes table h
  pub owned : AreLive bytes (besides ++ blocks_by theirs now)
  pub counted : IsCounted next now cells
  pub falling : IsFalling now

abbrev pub cell_count : Option ℕ → ℕ
cell_count None = 0
cell_count (Some p) = 1

-- ---- objects that become frozen

abbrev pub frozen_now : ℕ → ℕ → ℕ → Value → Frozen
frozen_now payload T number v =
    record { at = payload; type = T; number = number; count = 1; value = v }

-- The object was moved from its block, which was freed, to a new block, and is frozen there with
-- the next number. All other allocated blocks are kept with their links.
pub record MovesFrozen (allocator : ℕ) (old new : List ℕ) (table : Table) (T object : ℕ)
    (v : Value) (inside : List ℕ) (payload : ℕ) : Type 0 where
  pub length_kept : length new ≡ length old
  pub front_kept : KeepsFront old new
  pub next_is : word new next_word ≡ suc (word old next_word)
  pub back_kept : IsSame old new index_cell (heap_start - index_cell)
  pub heap : IsHeap allocator new
  pub spans : List Span
  pub granted_is :
      after_asks allocator (live old) (length old) (block_for (frozen_words + size table T) ∷ [])
      ≡ Some spans
  pub live_is : live new ≡ after_gives spans (block_of object ∷ [])
  pub holds_it : HoldsRoot new table
      (root_of_frozen (frozen_now payload T (word old next_word) v)) (block_of payload ∷ inside)
  pub link_is : link_at new (block_of payload) ≡ None
  pub was_free : times (block_of payload) (positions (live old)) ≡ 0
  pub live_are : (h : ℕ) →
      times h (positions (live new)) + times h (block_of object ∷ [])
      ≡ times h (positions (live old)) + times h (block_of payload ∷ [])
  pub kept : (h : ℕ) → 1 ≤ times h (positions (live old)) → h ≢ block_of object →
      KeepsBlock old new h × (link_at new h ≡ link_at old h)

abbrev pub with_blocks : ℕ → List ℕ → (ℕ → List ℕ) → ℕ → List ℕ
with_blocks payload its theirs p = if p == payload then its else theirs p

-- An object was moved to a new block, and is frozen there. The cell owned `blocks`, and now points
-- to the object; its old target was released. Of the frozen objects `now`, those remain that have
-- other cells than the cells that point to `names`.
pub record Freezes (allocator : ℕ) (old new : List ℕ) (table : Table) (cell : Place) (T object : ℕ)
    (v : Value) (inside blocks : List ℕ) (names : List Place) (theirs : ℕ → List ℕ)
    (now : List Frozen) : Type 0 where
  pub length_kept : length new ≡ length old
  pub front_kept : KeepsFront old new
  pub next_is : word new next_word ≡ suc (word old next_word)
  pub back_kept : IsSame old new index_cell (heap_start - index_cell)
  pub heap : IsHeap (word old allocator_word) new
  pub ownable : AllByRecursion (λ b. IsOwnable new table b.at) (live new)
  pub payload : ℕ
  pub was_free : times (block_of payload) (positions (live old)) ≡ 0
  pub holds_it : Holds new table cell (node (Label.shared T payload) nil) []
  pub holds : HoldFrozen new table (with_blocks payload (block_of payload ∷ inside) theirs)
      (frozen_now payload T (word old next_word) v ∷ left names now)
  pub gives : List ℕ
  pub all_are :
      SameBlocks (blocks ++ blocks_by theirs now) (gives ++ blocks_by theirs (left names now))
  pub spans : List Span
  pub granted_is :
      after_asks allocator (live old) (length old) (block_for (frozen_words + size table T) ∷ [])
      ≡ Some spans
  pub live_is : live new ≡ after_gives spans (block_of object ∷ gives)
  pub live_are : (h : ℕ) →
      times h (positions (live new)) + times h (block_of object ∷ gives)
      ≡ times h (positions (live old)) + times h (block_of payload ∷ [])
  pub kept : (h : ℕ) → 1 ≤ times h (positions (live old)) →
      times h ((block_of object ∷ inside) ++ (blocks ++ blocks_by theirs now)) ≡ 0 →
      KeepsBlockAround old new cell.at (size table cell.type) h
  pub inside_kept : AllByRecursion (KeepsBlock old new) inside
  pub shared_kept : KeepFrozen old new theirs (left names now)

-- the frozen object keeps, at its new position, each of its parts
abbrev pub FreezesParts : ℕ → List ℕ → List ℕ → Table → Place → ℕ → ℕ → Value → List ℕ →
    List ℕ → List Place → (ℕ → List ℕ) → List Frozen → Type 0
FreezesParts allocator old new table cell T object v inside blocks names theirs now =
    (freezes : Freezes allocator old new table cell T object v inside blocks names theirs now) ×
    Persists old new table (record { at = object; type = T })
    (record { at = freezes.payload + frozen_words; type = T })
