-- Destroying a named object.
--     IsUnlisted allocator bytes table root blocks
--                                            an object without an entry in the index owns these allocated blocks
--     LosesNamed ..                          the object with a name and a type was destroyed, with its entry
use Rattle.std.specs.Prelude.{◌≡◌, ℕ, ◌≤◌, List, [], ◌∷◌, ◌++◌, Some}
use Rattle.std.specs.List.{AllByRecursion}
use Rattle.seg_spec.specs.Bytes.{word}
use Rattle.seg_spec.specs.Header.{allocator_word, index_kind_word}
use Rattle.seg_spec.specs.Types.{Table, IsTable}
use Rattle.seg_spec.specs.Heap.{IsHeap, live}
use Rattle.seg_spec.specs.Block.{IsOwnable}
use Rattle.seg_spec.specs.Index.{Root, root_named}
use Rattle.seg_spec.specs.Sound.{Picture, HoldsRoot, times, positions}
use Rattle.seg_spec.specs.Roots.{Listed, with_roots, KeepsNodes}
use Rattle.seg_spec.specs.Counting.{without_cells}
use Rattle.seg_spec.specs.Demand.{after_gives}
use Rattle.seg_spec.specs.Destroying.{HoldFrozen, KeepFrozen}
use Rattle.seg_spec.specs.Frozen.{blocks_by}
use Rattle.seg_spec.specs.Shared.{names_each, left, freed}
use Rattle.seg_spec.specs.Spending.{EntryBlocks, killed}
use Rattle.seg_value.specs.Stored.{Stored}
use Rattle.seg_manager.specs.Segments.{Becomes}

-- The root isn't in the index. It contains its values in these allocated blocks, each once, and has
-- no words before them.
pub record IsUnlisted (allocator : ℕ) (bytes : List ℕ) (table : Table) (root : Root)
    (blocks : List ℕ) : Type 0 where
  pub heap : IsHeap allocator bytes
  pub allocator_is : word bytes allocator_word ≡ allocator
  pub is_table : IsTable table
  pub ownable : AllByRecursion (λ b. IsOwnable bytes table b.at) (live bytes)
  pub holds_it : HoldsRoot bytes table root blocks
  pub no_words : root.words ≡ []
  pub owned : (h : ℕ) → times h blocks ≤ times h (positions (live bytes))

-- The object with this name and type was destroyed, with its blocks, the blocks of its entry, and
-- the frozen objects that lost their last cell. The other objects didn't move. Each allocated block
-- outside the index is kept, except for the counts of frozen objects, and other names keep their
-- nodes in it.
pub record LosesNamed (allocator : ℕ) (old new : Stored) (picture : Picture)
    (index_blocks name : List ℕ) (T : ℕ) : Type 0 where
  pub before : List Root
  pub root : Root
  pub after : List Root
  pub names_are : picture.names ≡ before ++ root ∷ after
  pub root_is : killed (root_named picture.names name) T ≡ Some root
  pub objects : List ℕ
  pub entries : List ℕ
  pub holds_it : HoldsRoot old.window.bytes old.types root objects
  pub entry : EntryBlocks (word old.window.bytes index_kind_word) old.window.bytes index_blocks
      root entries
  pub theirs : ℕ → List ℕ
  pub holds_shared : HoldFrozen old.window.bytes old.types theirs picture.frozen
  pub becomes : Becomes allocator old new (without_cells (names_each root.values)
      (with_roots picture Listed.by_name (before ++ after)))
      ((objects ++ index_blocks) ++ blocks_by theirs picture.frozen)
  pub nodes_kept : KeepsNodes old.window.bytes new.window.bytes index_blocks
  pub shared_kept : KeepFrozen old.window.bytes new.window.bytes theirs
      (left (names_each root.values) picture.frozen)
  pub holds_left : HoldFrozen new.window.bytes old.types theirs
      (left (names_each root.values) picture.frozen)
  pub live_is : live new.window.bytes ≡ after_gives (live old.window.bytes)
      ((objects ++ entries) ++ blocks_by theirs (freed (names_each root.values) picture.frozen))
