use Rattle.std.proofs.Common.{◌≡◌, take}
use Rattle.seg_spec.specs.Window.{with_bytes}
use Rattle.seg_spec.specs.Types.{size, IsTable}
use Rattle.seg_spec.specs.Cells.{IsWithin, IsFurther}
use Rattle.seg_spec.proofs.Values.CellChangeLaws.{ChangesFields, further_local, field_types}
use Rattle.seg_cells.proofs.cells.+point_again.Given as goal

abbrev pub decreases-point_again : goal.decreases-point_again
decreases-point_again g l = l.place.type_id

abbrev pub invariant-loop-index : goal.invariant-loop-index
invariant-loop-index g l = record {
  host : l.w ≡ with_bytes l.initial.w l.w.bytes;
  pointed : (valid : IsTable l.types) → IsWithin l.initial.w.bytes l.fn.place.at (size l.types l.fn.place.type_id) →
      ChangesFields (λ old new at form. IsFurther old new l.distance at form) (further_local l.distance) l.types valid l.initial.w.bytes l.w.bytes l.fn.place.at (take l.index (field_types l.types l.fn.place.type_id));
}
