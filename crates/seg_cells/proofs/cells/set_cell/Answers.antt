use Rattle.std.proofs.Common.{◌≡◌, ℕ, ap, ◌∙◌, sym, subst}
use Rattle.seg_spec.specs.Bytes.{set_long}
use Rattle.seg_spec.specs.Window.{Placement, with_bytes}
use Rattle.seg_spec.specs.Cells.{ChangesCells, IsDefaulted}
use Rattle.seg_cells.proofs.CellCases.{cell_of_type, empty_cell, zero_cell}
use Rattle.seg_cells.proofs.cells.set_cell.Goals as goal
use Rattle.seg_cells.proofs.cells.set_cell.Goals.{then-has_pointers, else-has_pointers}

written : (p q : Placement) (at u v : ℕ) → q ≡ with_bytes p (set_long p.bytes at u) → u ≡ v → q.bytes ≡ set_long p.bytes at v
written p q at u v e f = ap (λ (r : Placement). r.bytes) e ∙ ap (set_long p.bytes at) f

pub returns-clause-cells : goal.returns-clause-cells
returns-clause-cells g c = λ none within.
    let table = c.args.types.now in
    let valid = c.has_pointers.ensures.table in
    let old = c.args.w.now.bytes in
    let at = c.args.cell.at in
    let T = c.args.cell.type_id in
    elim c.if-has_pointers.branch [
      | then-has_pointers w ↦
          let one = cell_of_type table valid T (c.has_pointers.ensures.cells ∙ w.if-has_pointers.true) none in
          subst (λ b. ChangesCells IsDefaulted old b table at T) (sym (written c.args.w.now c.put64.new.self at c.if-has_pointers.word 1 c.put64.ensures w.word-is))
          (empty_cell table valid T old at within one)
      | else-has_pointers w ↦
          let no_cells = c.has_pointers.ensures.cells ∙ w.if-has_pointers.false in
          subst (λ b. ChangesCells IsDefaulted old b table at T) (sym (written c.args.w.now c.put64.new.self at c.if-has_pointers.word 0 c.put64.ensures w.word-is))
          (zero_cell table valid T old at within no_cells)
    ]
