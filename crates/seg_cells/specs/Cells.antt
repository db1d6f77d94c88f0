-- What values consist of.
--     cells_of form          what the values of a form consist of
--     AreCells table each    what the values of each type consist of
use Rattle.std.specs.Prelude.{◌≡◌, ℕ, List, Option, Some, None, get_or}
use Rattle.seg_spec.specs.Types.{Form, Table, form_at}
use Rattle.seg_cells.specs.declared.cells.Cells.{Cells}
use Rattle.seg_cells.specs.declared.cells.Cells.TheVariants as cells

abbrev pub cells_of : Option Form → Cells
cells_of None = cells.Number
cells_of (Some Form.i64) = cells.Number
cells_of (Some Form.str) = cells.Pointer
cells_of (Some (Form.vec U)) = cells.Pointer
cells_of (Some (Form.list U)) = cells.Pointer
cells_of (Some (Form.flat_map U)) = cells.Pointer
cells_of (Some (Form.map U)) = cells.Pointer
cells_of (Some (Form.own U)) = cells.Pointer
cells_of (Some (Form.struct Us)) = cells.Fields
cells_of (Some (Form.shared U)) = cells.Pointer

-- a list with an element for each type
abbrev pub AreCells : Table → List Cells → Type 0
AreCells table each = (T : ℕ) → get_or each T cells.Number ≡ cells_of (form_at table T)
