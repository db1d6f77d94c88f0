-- The premises and results of destruction. It works without recursion and memory: blocks that are
-- still to be freed wait in a list through the links of their headers. A waiting block *shows* what
-- is freed with it: its values, and the nodes after it (`Owing`). A frozen object isn't in this
-- list: it counts its cells, and is only added when its last cell is released. `names` are the
-- positions to which destroyed shared cells point. `theirs` gives the blocks of each frozen object,
-- by its position. `final` are the frozen objects that remain in the end. The order of blocks in a
-- list doesn't matter.
--     AreLive bytes blocks                       these blocks are allocated, and each is listed at most once
--     GoesWith bytes table p blocks names        the block with payload p, with all that is freed with it
--     Pends allocator bytes table first owed names
--                                                the waiting blocks from `first` on, with all that is freed
--                                                with them
--     KeepsOthers old new blocks                 only these allocated blocks changed
--     HoldFrozen bytes table theirs frozen       each frozen object contains its value and owns its blocks
--     KeepFrozen old new theirs frozen           the blocks of frozen objects are kept, except their counts
--     PendsBeside allocator bytes table first blocks names theirs frozen
--                                                waiting blocks, and frozen objects apart from them
--     Awaits allocator bytes table first blocks names kept theirs final
--                                                the same, and `names` and the waiting blocks are still to
--                                                be released
--     Adds allocator old new table first xs ys names kept theirs final
--                                                blocks were added to the waiting ones, or released
--     Pops allocator bytes table p next blocks names kept theirs final
--                                                the first waiting block was removed from the list
--     DefaultsRest old new table p before U used     the unused entries of a buffer have null pointers
--     Uncouples allocator old new table p blocks names
--                                                a block was prepared to show what is freed with it
--     Frees allocator old new gives but          the blocks `gives` were freed, and all others except `but`
--                                                are kept
--     Destroys allocator old new table blocks theirs final
--                                                some of the blocks were freed, and the others belong to
--                                                the frozen objects that remain
use Rattle.std.specs.Prelude.{◌≡◌, ℕ, ◌+◌, ◌-◌, ◌*◌, ◌/◌, ◌≤◌, List, ◌++◌, length, map, Option}
use Rattle.std.specs.List.{AllByRecursion}
use Rattle.seg_spec.specs.Bytes.{IsSame, ChangesOnly}
use Rattle.seg_spec.specs.Types.{Table, size}
use Rattle.seg_spec.specs.Heap.{IsHeap, live, heap_start}
use Rattle.seg_spec.specs.Sound.{times, SameBlocks, positions, HoldsRoot}
use Rattle.seg_spec.specs.Demand.{after_gives}
use Rattle.seg_spec.specs.Block.{IsOwnable, block_of, payload_size}
use Rattle.seg_spec.specs.Reads.{spaced, Place}
use Rattle.seg_spec.specs.Apart.{KeepsBlockAround}
use Rattle.seg_spec.specs.Cells.{EachCell}
use Rattle.seg_spec.specs.Owing.{NamesNothing, Owes, Waits, KeepsLinked}
use Rattle.seg_spec.specs.Header.{KeepsFront, KeepsBack}
use Rattle.seg_spec.specs.Frozen.{Frozen, root_of_frozen, blocks_by}
use Rattle.seg_spec.specs.Shared.{IsReleasing}

abbrev pub AreLive : List ℕ → List ℕ → Type 0
AreLive bytes blocks = (h : ℕ) → times h blocks ≤ times h (positions (live bytes))

-- The block with payload p shows that it is freed with `blocks`, which include itself. Their shared
-- cells point to `names`.
pub record GoesWith (bytes : List ℕ) (table : Table) (p : ℕ) (blocks names : List ℕ) :
    Type 0 where
  pub owed : List ℕ
  pub named : List ℕ
  pub owes_it : Owes bytes table p owed named
  pub owed_are : SameBlocks owed blocks
  pub named_are : SameBlocks named names

-- Blocks wait from `first` on, in a well-formed heap. `blocks` are freed with them, and the shared
-- cells there point to `names`.
pub record Pends (allocator : ℕ) (bytes : List ℕ) (table : Table) (first : Option ℕ)
    (blocks names : List ℕ) : Type 0 where
  pub heap : IsHeap allocator bytes
  pub owed : List ℕ
  pub named : List ℕ
  pub waiting : Waits bytes table first owed named
  pub owed_are : SameBlocks owed blocks
  pub named_are : SameBlocks named names

-- Only these allocated blocks changed: all stay allocated, and each other block is kept with its
-- link.
pub record KeepsOthers (old new : List ℕ) (blocks : List ℕ) : Type 0 where
  pub length_kept : length new ≡ length old
  pub front_kept : (p n : ℕ) → p + n ≤ heap_start → IsSame old new p n
  pub live_kept : live new ≡ live old
  pub others : (h : ℕ) → 1 ≤ times h (positions (live old)) → times h blocks ≡ 0 →
      KeepsLinked old new h

abbrev pub HoldFrozen : List ℕ → Table → (ℕ → List ℕ) → List Frozen → Type 0
HoldFrozen bytes table theirs frozen =
    AllByRecursion (λ f. HoldsRoot bytes table (root_of_frozen f) (theirs f.at)) frozen

abbrev pub KeepFrozen : List ℕ → List ℕ → (ℕ → List ℕ) → List Frozen → Type 0
KeepFrozen old new theirs frozen =
    AllByRecursion (λ f. AllByRecursion (KeepsBlockAround old new f.at 4) (theirs f.at)) frozen

-- Blocks wait from `first` on, and frozen objects exist apart from them. `blocks` are the waiting
-- blocks and the blocks of the frozen objects.
pub record PendsBeside (allocator : ℕ) (bytes : List ℕ) (table : Table) (first : Option ℕ)
    (blocks names : List ℕ) (theirs : ℕ → List ℕ) (frozen : List Frozen) : Type 0 where
  pub owed : List ℕ
  pub pends : Pends allocator bytes table first owed names
  pub holds : HoldFrozen bytes table theirs frozen
  pub ownable : (h : ℕ) → 1 ≤ times h (blocks_by theirs frozen) → IsOwnable bytes table h
  pub blocks_are : SameBlocks blocks (owed ++ blocks_by theirs frozen)

-- Waiting blocks and frozen objects own `blocks`. If the waiting blocks are freed and `names` are
-- released, the frozen objects become `final`.
pub record Awaits (allocator : ℕ) (bytes : List ℕ) (table : Table) (first : Option ℕ)
    (blocks names : List ℕ) (kept : List Place) (theirs : ℕ → List ℕ) (final : List Frozen) :
    Type 0 where
  pub named : List ℕ
  pub frozen : List Frozen
  pub beside : PendsBeside allocator bytes table first blocks named theirs frozen
  pub releasing : IsReleasing kept final (names ++ named) frozen

-- Blocks were added to the waiting ones: `xs` are freed with them or belong to frozen objects, as
-- `ys` did before. `names` are still to be released.
pub record Adds (allocator : ℕ) (old new : List ℕ) (table : Table) (first : Option ℕ)
    (xs ys names : List ℕ) (kept : List Place) (theirs : ℕ → List ℕ) (final : List Frozen) :
    Type 0 where
  pub keeps : KeepsOthers old new (xs ++ ys)
  pub shared_kept : KeepFrozen old new theirs final
  pub awaits : Awaits allocator new table first (xs ++ ys) names kept theirs final

-- The block with payload p was removed from the list. It shows what is freed with it, and the other
-- blocks wait from `next` on.
pub record Pops (allocator : ℕ) (bytes : List ℕ) (table : Table) (p : ℕ) (next : Option ℕ)
    (blocks names : List ℕ) (kept : List Place) (theirs : ℕ → List ℕ) (final : List Frozen) :
    Type 0 where
  pub popped : List ℕ
  pub others : List ℕ
  pub popped_names : List ℕ
  pub goes : GoesWith bytes table p popped popped_names
  pub awaits : Awaits allocator bytes table next others (popped_names ++ names) kept theirs final
  pub blocks_are : SameBlocks blocks (popped ++ others)

-- The blocks `gives` were freed. The heap is well-formed, and each other allocated block, except
-- those in `but`, is kept with its link.
pub record Frees (allocator : ℕ) (old new : List ℕ) (gives but : List ℕ) : Type 0 where
  pub length_kept : length new ≡ length old
  pub front_kept : KeepsFront old new
  pub back_kept : KeepsBack old new
  pub heap : IsHeap allocator new
  pub live_is : live new ≡ after_gives (live old) gives
  pub live_are : (h : ℕ) →
      times h (positions (live new)) + times h gives ≡ times h (positions (live old))
  pub kept : (h : ℕ) → 1 ≤ times h (positions (live old)) → times h (gives ++ but) ≡ 0 →
      KeepsLinked old new h

pub record Destroys (allocator : ℕ) (old new : List ℕ) (table : Table) (blocks : List ℕ)
    (theirs : ℕ → List ℕ) (final : List Frozen) : Type 0 where
  pub gives : List ℕ
  pub blocks_are : SameBlocks blocks (gives ++ blocks_by theirs final)
  pub frees : Frees allocator old new gives (blocks_by theirs final)
  pub shared_kept : KeepFrozen old new theirs final
  pub holds : HoldFrozen new table theirs final
  pub ownable : (h : ℕ) → 1 ≤ times h (blocks_by theirs final) → IsOwnable new table h

-- the entries of a buffer from index `used` on have null pointers, and only they changed
pub record DefaultsRest (old new : List ℕ) (table : Table) (p before U used : ℕ) : Type 0 where
  pub changes : ChangesOnly old new (p + used * (before + size table U))
      (payload_size old (block_of p) - used * (before + size table U))
  pub nothing : AllByRecursion
      (λ q. EachCell table U (λ d form. NamesNothing new (q + d) form))
      (map (λ q. q + before) (spaced (p + used * (before + size table U)) (before + size table U)
      (payload_size old (block_of p) / (before + size table U) - used)))

-- The block with payload p now shows what is freed with it, and only these blocks changed.
pub record Uncouples (allocator : ℕ) (old new : List ℕ) (table : Table) (p : ℕ)
    (blocks names : List ℕ) : Type 0 where
  pub heap : IsHeap allocator new
  pub keeps : KeepsOthers old new blocks
  pub goes : GoesWith new table p blocks names
