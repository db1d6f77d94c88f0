use Rattle.std.proofs.Common.{◌+◌, ◌*◌, map, ◌∙◌, sym, subst}
use Rattle.seg_spec.specs.Reads.{spaced}
use Rattle.seg_spec.specs.Cells.{ChangesEach, IsFurther}
use Rattle.seg_cells.proofs.Shifts.{same_type}
use Rattle.seg_cells.proofs.cells.point_each_again.Goals as goal

pub returns-in-Value-clause-values : goal.returns-in-Value-clause-values
returns-in-Value-clause-values g c = λ t held fits within.
    let is = same_type c.in-Value.t t (sym c.in-Value.is ∙ held) in
    subst (λ T. ChangesEach (λ old new at form. IsFurther old new c.args.distance at form) c.args.w.now.bytes c.point_values_again.new.w.bytes c.args.types.now
    T c.args.start (c.args.n * c.args.entry.size) (map (λ p. p + c.args.entry.before) (spaced c.args.start c.args.entry.size c.args.n)))
    is (c.point_values_again.ensures.pointed (rw is fits) within)
