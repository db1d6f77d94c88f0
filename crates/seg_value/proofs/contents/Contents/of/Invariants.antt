use Rattle.std.proofs.Common.{◌≡◌, ℕ, ◌<◌, ◌≤◌, get_or, None, length}
use Rattle.seg_spec.specs.Types.{form_at}
use Rattle.seg_cells.specs.Contents.{ContentOf}
use Rattle.seg_value.proofs.contents.Contents.of.Given as goal

abbrev pub invariant-loop-t : goal.invariant-loop-t
invariant-loop-t l = record {
  long : length l.of_types ≡ 32;
  described : (T : ℕ) → T < l.t → ContentOf l.types T (form_at l.types T) (get_or l.of_types T None);
  rest : (T : ℕ) → l.t ≤ T → get_or l.of_types T None ≡ None;
}
