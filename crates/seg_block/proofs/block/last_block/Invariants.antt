use Rattle.std.proofs.Common.{◌≤◌, ◌-◌, ◌<◌, List, length}
use Rattle.seg_spec.specs.Heap.{Tile, Fill, AreHeaders}
use Rattle.seg_block.proofs.Ends.{IsReached}
use Rattle.seg_block.proofs.block.last_block.Given as goal

abbrev pub invariant-loop-block : goal.invariant-loop-block
invariant-loop-block g l = (704 ≤ l.at) × ((ts : List Tile) → 704 < l.end → l.end ≤ length l.w.bytes → Fill 704 ts l.end → AreHeaders l.w.bytes 0 ts → IsReached l.w.bytes ts l.at l.end)

abbrev pub decreases-loop-block : goal.decreases-loop-block
decreases-loop-block g l = length l.w.bytes - l.at
