-- Blocks that wait to be destroyed, before and after the program's steps. `Destroying` in seg_spec
-- explains them.
--     AddsIn old new table first next beside xs ns
--                                         blocks were added to the waiting ones: xs are freed with them, and the cells that
--                                         point to ns were released, or are with them
--     AddsWaiting old new first next beside xs ns     the same, for a heap
--     OpensPending old new first next p xs ns
--                                         the block p was opened, with which xs are freed: the others of xs wait now
--     links_of shape p                    the pointer words of a node to further ones
use Rattle.std.specs.Prelude.{ℕ, ◌+◌, List, [], ◌∷◌, ◌++◌, Option}
use Rattle.seg_spec.specs.Types.{Table, IsTable}
use Rattle.seg_spec.specs.Block.{block_of}
use Rattle.seg_spec.specs.Reads.{Place}
use Rattle.seg_spec.specs.Frozen.{Frozen}
use Rattle.seg_spec.specs.Sound.{SameBlocks}
use Rattle.seg_spec.specs.Destroying.{AreLive, Awaits, Adds}
use Rattle.seg_value.specs.Stored.{Stored}
use Rattle.seg_cells.specs.declared.content.Shape.{Shape}
use Rattle.seg_cells.specs.declared.content.Shape.TheVariants as shape

-- If all these blocks are allocated and differ: xs are freed with the waiting blocks, in addition
-- to the blocks that waited before. The cells that point to ns need no longer be released
-- separately.
abbrev pub AddsIn :
    List ℕ → List ℕ → Table → Option ℕ → Option ℕ → List ℕ → List ℕ → List ℕ → Type 0
AddsIn old new table first next beside xs ns =
    (allocator : ℕ) (ys names : List ℕ) (kept : List Place) (theirs : ℕ → List ℕ)
    (final : List Frozen) →
    IsTable table → Awaits allocator old table first ys (ns ++ names) kept theirs final →
    AreLive old (beside ++ (xs ++ ys)) →
    Adds allocator old new table next xs ys names kept theirs final

abbrev pub AddsWaiting :
    Stored → Stored → Option ℕ → Option ℕ → List ℕ → List ℕ → List ℕ → Type 0
AddsWaiting old new first next beside xs ns =
    AddsIn old.window.bytes new.window.bytes old.types first next beside xs ns

-- A block that no longer waits was opened. The other blocks that are freed with it are now freed
-- with the waiting ones.
pub record IsOpened (allocator : ℕ) (old new : List ℕ) (table : Table) (next : Option ℕ) (p : ℕ)
    (xs ys names : List ℕ) (kept : List Place) (theirs : ℕ → List ℕ) (final : List Frozen) :
    Type 0 where
  pub rest : List ℕ
  pub xs_are : SameBlocks xs (block_of p ∷ rest)
  pub adds : Adds allocator old new table next rest ys names kept theirs final

abbrev pub OpensPending :
    Stored → Stored → Option ℕ → Option ℕ → ℕ → List ℕ → List ℕ → Type 0
OpensPending old new first next p xs ns =
    (allocator : ℕ) (ys names : List ℕ) (kept : List Place) (theirs : ℕ → List ℕ)
    (final : List Frozen) →
    IsTable old.types →
    Awaits allocator old.window.bytes old.types first ys (ns ++ names) kept theirs final →
    AreLive old.window.bytes (xs ++ ys) →
    IsOpened allocator old.window.bytes new.window.bytes old.types next p xs ys names kept theirs
    final

-- the pointer words of a block to further nodes
abbrev pub links_of : Shape → ℕ → List ℕ
links_of shape.Ring p = p ∷ []
links_of shape.Tree p = p ∷ (p + 4) ∷ []
links_of shape.Buffer p = []
links_of shape.Object p = []
