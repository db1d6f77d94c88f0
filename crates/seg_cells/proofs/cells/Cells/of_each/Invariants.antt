use Rattle.std.proofs.Common.{◌≡◌, ℕ, ◌<◌, ◌≤◌, get_or, length}
use Rattle.seg_spec.specs.Types.{form_at}
use Rattle.seg_cells.specs.Cells.{cells_of}
use Rattle.seg_cells.specs.declared.cells.Cells.TheVariants as cells
use Rattle.seg_cells.proofs.cells.Cells.of_each.Given as goal

abbrev pub invariant-loop-t : goal.invariant-loop-t
invariant-loop-t l = record {
  long : length l.each ≡ 256;
  described : (T : ℕ) → T < l.t → get_or l.each T cells.Number ≡ cells_of (form_at l.types T);
  rest : (T : ℕ) → l.t ≤ T → get_or l.each T cells.Number ≡ cells.Number;
}
