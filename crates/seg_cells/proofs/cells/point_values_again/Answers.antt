use Rattle.std.proofs.Common.{ap, ◌∙◌}
use Rattle.seg_spec.specs.Window.{with_bytes}
use Rattle.seg_spec.specs.Cells.{IsFurther}
use Rattle.seg_spec.proofs.Values.CellChangeLaws.{further_local, no_change, next_entry, entry_position, entry_within}
use Rattle.seg_cells.proofs.CellCases.{further_no_cells}
use Rattle.seg_cells.proofs.cells.point_values_again.Goals as goal

pub returns-then-not-has_pointers-clause-pointed : goal.returns-then-not-has_pointers-clause-pointed
returns-then-not-has_pointers-clause-pointed g c = λ fits within.
    let valid = c.has_pointers.ensures.table in
    no_change (λ old new at form. IsFurther old new c.args.distance at form) (further_local c.args.distance) c.args.types.now valid c.args.t
    c.args.entry.before c.args.entry.size fits c.args.w.now.bytes c.args.start c.args.n
    (λ p. further_no_cells c.args.types.now valid c.args.t c.args.w.now.bytes p c.args.distance (c.has_pointers.ensures.cells ∙ c.if-not-has_pointers.true))

pub loop-index-preserved : goal.loop-index-preserved
loop-index-preserved g c = record {
  host = c.point_again.ensures.host ∙ ap (λ p. with_bytes p c.point_again.new.w.bytes) c.loop-index.invariant.host;
  pointed = λ fits within.
      let valid = c.has_pointers.ensures.table in
      let before = c.loop-index.invariant.pointed fits within in
      let less = c.loop-index-test.true in
      let position = entry_position (λ old new at form. IsFurther old new c.args.distance at form) (further_local c.args.distance) c.args.types.now valid
      c.args.t c.args.entry.before c.args.entry.size fits c.args.w.now.bytes c.args.start c.args.n c.loop-index.index less within in
      let room = entry_within (λ old new at form. IsFurther old new c.args.distance at form) (further_local c.args.distance) c.args.types.now valid
      c.args.t c.args.entry.before c.args.entry.size fits c.args.w.now.bytes c.loop-index.w.bytes c.args.start c.args.n c.loop-index.index _ _ less within before in
      let step = c.point_again.ensures.pointed (rw c.value_at.ensures room) in
      let step' = rw (c.value_at.ensures ∙ position) at step in
      next_entry (λ old new at form. IsFurther old new c.args.distance at form) (further_local c.args.distance) c.args.types.now valid c.args.t
      c.args.entry.before c.args.entry.size fits c.args.w.now.bytes c.loop-index.w.bytes c.point_again.new.w.bytes c.args.start c.loop-index.index before step';
}
