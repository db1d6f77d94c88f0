use Rattle.std.proofs.Common.{◌≡◌, ℕ, ◌<◌, ◌*◌, ◌≤◌, length, get_or, take, sum_by}
use Rattle.seg_layout.specs.Entries.{sizes}
use Rattle.seg_layout.proofs.entry.Entry.layout.Given as goal

abbrev pub invariant-loop-index : goal.invariant-loop-index
invariant-loop-index l = record {
  size : l.size ≡ sum_by (λ U. get_or (sizes l.before.items) U 8) (take l.index l.field-items);
  small : l.size ≤ 4096 * l.index;
  whole : length l.starts ≡ 8;
  starts : (k : ℕ) → k < l.index → get_or l.starts k 0 ≡ sum_by (λ U. get_or (sizes l.before.items) U 8) (take k l.field-items);
}
