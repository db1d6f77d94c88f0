use Rattle.std.proofs.Common.{◌≡◌, take}
use Rattle.seg_spec.specs.Window.{with_bytes}
use Rattle.seg_spec.specs.Types.{size, IsTable}
use Rattle.seg_spec.specs.Cells.{IsWithin, IsDefaulted}
use Rattle.seg_spec.proofs.Values.CellChangeLaws.{ChangesFields, defaulted_local, field_types}
use Rattle.seg_cells.proofs.cells.+set_fields.Given as goal

abbrev pub decreases-set_fields : goal.decreases-set_fields
decreases-set_fields g l = l.place.type_id

abbrev pub invariant-loop-index : goal.invariant-loop-index
invariant-loop-index g l = record {
  host : l.w ≡ with_bytes l.initial.w l.w.bytes;
  cells : (valid : IsTable l.types) → IsWithin l.initial.w.bytes l.fn.place.at (size l.types l.fn.place.type_id) →
      ChangesFields IsDefaulted defaulted_local l.types valid l.initial.w.bytes l.w.bytes l.fn.place.at (take l.index (field_types l.types l.fn.place.type_id));
}
