use Rattle.std.proofs.Common.{◌≡◌, ℕ, ◌<◌, length, get_or, min}
use Rattle.seg_index.proofs.order.compare.Given as goal

abbrev pub invariant-loop-i : goal.invariant-loop-i
invariant-loop-i l = record {
  end_is : l.i-end ≡ min (length l.name) (length l.other);
  alike : (k : ℕ) → k < l.i → get_or l.name k 0 ≡ get_or l.other k 0;
}
