use Rattle.std.proofs.Common.{◌≡◌, ℕ, ◌<◌, ◌≤◌, get_or, None, length}
use Rattle.seg_value.specs.Contents.{numbers_in}
use Rattle.seg_value.proofs.contents.number_types.Given as goal

abbrev pub invariant-loop-t : goal.invariant-loop-t
invariant-loop-t l = record {
  long : length l.each ≡ 256;
  described : (T : ℕ) → T < l.t → get_or l.each T None ≡ numbers_in l.types T;
  rest : (T : ℕ) → l.t ≤ T → get_or l.each T None ≡ None;
}
