use Rattle.std.proofs.Common.{◌-◌, ℕ, length}
use Rattle.seg_spec.specs.Heap.{IsHeap}
use Rattle.seg_manager.proofs.TileWalk.{Counted}
use Rattle.seg_manager.proofs.space.Gaps.of.Given as goal

abbrev pub invariant-loop-block : goal.invariant-loop-block
invariant-loop-block g l = (allocator : ℕ) → IsHeap allocator l.w.bytes → Counted l.w.bytes l.at l.gaps.total l.gaps.largest

abbrev pub decreases-loop-block : goal.decreases-loop-block
decreases-loop-block g l = length l.w.bytes - l.at
