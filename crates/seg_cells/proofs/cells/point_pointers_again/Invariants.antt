use Rattle.std.proofs.Common.{◌≡◌, ◌+◌, ◌*◌, ◌≤◌}
use Rattle.seg_spec.specs.Window.{with_bytes}
use Rattle.seg_spec.specs.Cells.{IsWithin}
use Rattle.seg_cells.specs.Pointers.{PointsAgain}
use Rattle.seg_cells.proofs.cells.point_pointers_again.Given as goal

abbrev pub invariant-loop-index : goal.invariant-loop-index
invariant-loop-index g l = record {
  host : l.w ≡ with_bytes l.initial.w l.w.bytes;
  pointed : l.entry.before + 4 ≤ l.entry.size → IsWithin l.initial.w.bytes l.start (l.n * l.entry.size) →
      PointsAgain l.distance l.initial.w.bytes l.w.bytes l.start l.entry.size l.entry.before l.index;
}
