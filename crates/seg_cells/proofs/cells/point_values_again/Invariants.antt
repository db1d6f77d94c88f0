use Rattle.std.proofs.Common.{◌≡◌, ◌+◌, ◌*◌, ◌≤◌, map}
use Rattle.seg_spec.specs.Window.{with_bytes}
use Rattle.seg_spec.specs.Types.{size}
use Rattle.seg_spec.specs.Reads.{spaced}
use Rattle.seg_spec.specs.Cells.{IsWithin, ChangesEach, IsFurther}
use Rattle.seg_cells.proofs.cells.point_values_again.Given as goal

abbrev pub invariant-loop-index : goal.invariant-loop-index
invariant-loop-index g l = record {
  host : l.w ≡ with_bytes l.initial.w l.w.bytes;
  pointed : l.entry.before + size l.types l.t ≤ l.entry.size → IsWithin l.initial.w.bytes l.start (l.n * l.entry.size) →
      ChangesEach (λ old new at form. IsFurther old new l.distance at form) l.initial.w.bytes l.w.bytes l.types l.t l.start (l.index * l.entry.size)
      (map (λ p. p + l.entry.before) (spaced l.start l.entry.size l.index));
}
