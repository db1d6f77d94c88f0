use Rattle.std.proofs.Common.{◌∙◌, sym, arith}
use Rattle.seg_spec.specs.Types.{form_at}
use Rattle.seg_cells.proofs.CellCases.{a_number, a_pointer, several}
use Rattle.seg_cells.proofs.cells.Cells.of.Goals as goal

pub returns-then-not-has_pointers-clause-cells : goal.returns-then-not-has_pointers-clause-cells
returns-then-not-has_pointers-clause-cells c = sym (a_number (form_at c.args.types.now c.args.t) (c.has_pointers.ensures.cells ∙ c.if-not-has_pointers.true))

pub returns-then-field_count-eq0-clause-cells : goal.returns-then-field_count-eq0-clause-cells
returns-then-field_count-eq0-clause-cells c =
    let table = c.args.types.now in
    let valid = c.has_pointers.ensures.table in
    sym (a_pointer table valid c.args.t (c.has_pointers.ensures.cells ∙ c.if-not-has_pointers.false) (sym c.field_count.ensures.count ∙ c.if-field_count-eq0.true))

pub returns-else-field_count-eq0-clause-cells : goal.returns-else-field_count-eq0-clause-cells
returns-else-field_count-eq0-clause-cells c =
    let some = c.if-field_count-eq0.false in
    sym (several c.args.types.now c.has_pointers.ensures.table c.args.t (omega (arith, c.field_count.ensures.count)))
