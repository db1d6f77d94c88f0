use Rattle.std.proofs.Common.{Bool, List, ◌∷◌, ◌++◌}
use Rattle.seg_spec.specs.Heap.{Tile, free_of}
use Rattle.seg_block.specs.Tiling.{tile, IsTiling}
use Rattle.seg_seqfit.proofs.Walks.{left, IsAhead, IsPassing}
use Rattle.seg_seqfit.proofs.Predecessor.{IsNear}
use Rattle.seg_seqfit.proofs.search.link_before.Given as goal

abbrev pub invariant-loop-next : goal.invariant-loop-next
invariant-loop-next g l = record {
  bounds : IsAhead 12 l.next;
  walks : (xs ys : List Tile) (b : Bool) → IsTiling 0 l.w.bytes (xs ++ tile l.block.at l.block.units b ∷ ys)
      → IsPassing l.w.bytes (free_of xs) (free_of (tile l.block.at l.block.units b ∷ ys)) l.block.at l.link l.next × IsNear l.w.bytes xs l.near;
}

abbrev pub decreases-loop-next : goal.decreases-loop-next
decreases-loop-next g l = left l.next
