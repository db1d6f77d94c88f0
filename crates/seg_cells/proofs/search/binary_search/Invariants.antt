use Rattle.std.proofs.Common.{◌≡◌, ◌-◌, ◌≤◌, ◌⊎◌, Less, Greater}
use Rattle.seg_cells.proofs.search.binary_search.Given as goal

abbrev pub invariant-loop-low : goal.invariant-loop-low
invariant-loop-low g l = record {
  ordered : l.low ≤ l.high;
  within : l.high ≤ l.n;
  below : (l.low ≡ 0) ⊎ goal.C-post g l.compare (l.low - 1) Less;
  above : (l.high ≡ l.n) ⊎ goal.C-post g l.compare l.high Greater;
}

abbrev pub decreases-loop-low : goal.decreases-loop-low
decreases-loop-low g l = l.high - l.low
