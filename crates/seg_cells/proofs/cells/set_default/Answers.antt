use Rattle.std.proofs.Common.{ap, sym, ◌∙◌, subst}
use Rattle.seg_spec.specs.Cells.{ChangesCells, IsDefaulted}
use Rattle.seg_spec.specs.Types.{form_at}
use Rattle.seg_spec.specs.Window.{Placement}
use Rattle.seg_cells.proofs.CellCases.{no_pointers, cell_of_pointer, empty_cell, zero_cell}
use Rattle.seg_cells.proofs.cells.set_default.Goals as goal

pub returns-in-Number-clause-cells : goal.returns-in-Number-clause-cells
returns-in-Number-clause-cells g c = λ valid e within.
    let table = c.args.types.now in
    let at = c.args.place.at in
    let T = c.args.place.type_id in
    let old = c.args.w.now.bytes in
    subst (λ b. ChangesCells IsDefaulted old b table at T) (sym (ap (λ (r : Placement). r.bytes) c.put64.ensures))
    (zero_cell table valid T old at within (no_pointers (form_at table T) (sym e ∙ c.in-Number.is)))

pub returns-in-Pointer-clause-cells : goal.returns-in-Pointer-clause-cells
returns-in-Pointer-clause-cells g c = λ valid e within.
    let table = c.args.types.now in
    let at = c.args.place.at in
    let T = c.args.place.type_id in
    let old = c.args.w.now.bytes in
    subst (λ b. ChangesCells IsDefaulted old b table at T) (sym (ap (λ (r : Placement). r.bytes) c.put64-in-Pointer.ensures))
    (empty_cell table valid T old at within (cell_of_pointer table valid T (sym e ∙ c.in-Pointer.is)))
