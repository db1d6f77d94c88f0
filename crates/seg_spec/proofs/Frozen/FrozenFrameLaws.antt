-- Frozen objects apart from other blocks, after a step that keeps the objects' blocks.
use Rattle.std.proofs.Common.{ℕ, ◌≤◌, List, ◌++◌, arith}
use Rattle.std.specs.List.{AllByRecursion}
use Rattle.seg_spec.specs.Types.{Table, IsTable}
use Rattle.seg_spec.specs.Heap.{live}
use Rattle.seg_spec.specs.Block.{KeepsBlock, IsOwnable}
use Rattle.seg_spec.specs.Reads.{Place}
use Rattle.seg_spec.specs.Frozen.{Frozen, blocks_by}
use Rattle.seg_spec.specs.Sound.{times}
use Rattle.seg_spec.specs.Destroying.{AreLive}
use Rattle.seg_spec.specs.Clearing.{SharedBeside}
use Rattle.seg_spec.proofs.Heap.LiveBlockLaws.{times-append}
use Rattle.seg_spec.proofs.Frozen.FrozenBlockLaws.{hold_kept}
use Rattle.seg_spec.proofs.Values.CallPlaceLaws.{live_at}

-- the objects' blocks are still allocated, apart from the blocks that the step left
pub shared_still : (old new : List ℕ) (table : Table) → IsTable table → (besides others names : List ℕ) (theirs : ℕ → List ℕ) (kept : List Place) (now final : List Frozen)
    → ((h : ℕ) → 1 ≤ times h (blocks_by theirs now) → KeepsBlock old new h) → AllByRecursion (λ b. IsOwnable new table b.at) (live new) → AreLive new (others ++ blocks_by theirs now)
    → SharedBeside old table besides names theirs kept now final → SharedBeside new table others names theirs kept now final
shared_still old new table valid besides others names theirs kept now final whole ownable owned s = record {
  holds = hold_kept old new table valid theirs now whole s.holds;
  ownable = λ h some. live_at (IsOwnable new table) (live new) h ownable (omega (arith, owned h, times-append h others (blocks_by theirs now)));
  owned = owned;
  releasing = s.releasing;
}
