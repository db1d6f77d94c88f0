-- A new named object, before it is in the index.
--     HasValuesRoom bytes table at T n       n values of a type lie in the segment
--     GivesNamed allocator old new table root
--                                            the block of a new object with its name
--     MakesNamed ..                          the segment has a new named object
--     FindsNoRoom allocator old new picture asks
--                                            a request wasn't granted, and the segment has the same picture
use Rattle.std.specs.Prelude.{◌≡◌, ℕ, ◌+◌, ◌*◌, ◌<◌, ◌≤◌, List, [], ◌∷◌, ◌++◌, length, Some, None}
use Rattle.seg_spec.specs.Header.{KeepsFront, KeepsBack}
use Rattle.seg_spec.specs.Types.{Table, IsTable, size}
use Rattle.seg_spec.specs.Value.{count}
use Rattle.seg_spec.specs.Heap.{IsHeap, live, link_at}
use Rattle.seg_spec.specs.Block.{block_of}
use Rattle.seg_spec.specs.Cells.{IsWithin}
use Rattle.seg_spec.specs.Index.{Root}
use Rattle.seg_spec.specs.Sound.{Picture, HoldsRoot, times, positions}
use Rattle.seg_spec.specs.Roots.{Listed, with_roots, KeepsNodes}
use Rattle.seg_spec.specs.Demand.{Ask, block_for, after_asks, NoRoom, GetsBlock}
use Rattle.seg_spec.specs.Spending.{object_asks}
use Rattle.seg_spec.specs.Owing.{KeepsLinked}
use Rattle.seg_value.specs.Stored.{Stored}
use Rattle.seg_manager.specs.Segments.{Becomes, Spends, new_root}

-- n values of a type of the table lie in the segment, from a position on
pub record HasValuesRoom (bytes : List ℕ) (table : Table) (at T n : ℕ) : Type 0 where
  pub within : IsWithin bytes at (n * size table T)
  pub is_table : IsTable table
  pub known : T < length table

-- the request for the block of a root: its values, and its name after them
abbrev pub root_asks : Table → Root → List Ask
root_asks table root =
    block_for (count root.values * size table root.type + length root.name) ∷ []

-- The root has its values in a new block, and no other block. All other allocated blocks are kept.
pub record GivesNamed (allocator : ℕ) (old new : List ℕ) (table : Table) (root : Root)
    : Type 0 where
  pub length_kept : length new ≡ length old
  pub front_kept : KeepsFront old new
  pub back_kept : KeepsBack old new
  pub heap : IsHeap allocator new
  pub holds : HoldsRoot new table root (block_of root.at ∷ [])
  pub link_is : link_at new (block_of root.at) ≡ None
  pub granted_is : after_asks allocator (live old) (length old) (root_asks table root)
      ≡ Some (live new)
  pub was_free : times (block_of root.at) (positions (live old)) ≡ 0
  pub now_live : times (block_of root.at) (positions (live new)) ≡ 1
  pub kept : (h : ℕ) → 1 ≤ times h (positions (live old)) → KeepsLinked old new h

-- The requests for a new named object of n default values and for its entry were granted. The
-- object is at this position, in the block that its own request gets, and in order among the
-- others. Each allocated block outside the index is kept, and other names keep their nodes in it.
pub record MakesNamed (allocator : ℕ) (old new : Stored) (picture : Picture)
    (index_blocks name : List ℕ) (T n at : ℕ) : Type 0 where
  pub before : List Root
  pub after : List Root
  pub names_are : picture.names ≡ before ++ after
  pub becomes : Becomes allocator old new
      (with_roots picture Listed.by_name (before ++ new_root old.types name T n at ∷ after))
      index_blocks
  pub nodes_kept : KeepsNodes old.window.bytes new.window.bytes index_blocks
  pub spends : Spends allocator old new (object_asks old.window.bytes old.types T n name) []
  pub gets_block : GetsBlock allocator old.window.bytes (n * size old.types T + length name) at

-- One of the requests wasn't granted. The segment has the same picture and the same allocated
-- blocks with their bytes: what was allocated for the object was freed again.
pub record FindsNoRoom (allocator : ℕ) (old new : Stored) (picture : Picture) (asks : List Ask)
    : Type 0 where
  pub no_room : NoRoom allocator (live old.window.bytes) (length old.window.bytes) asks
  pub becomes : Becomes allocator old new picture []
  pub live_is : live new.window.bytes ≡ live old.window.bytes
