use Rattle.seg_spec.proofs.Frozen.ReleaseOrderLaws.{counted_on, left_at_last, one_name_a_turn, to_the_end}
use Rattle.test_definitions.proofs.shared.releasing_in_turns.Goals as goal

pub returns-clause-counted : goal.returns-clause-counted
returns-clause-counted c = λ next turns gone kept pending frozen now falling counted released. counted_on next kept gone frozen falling counted turns pending now released

pub returns-clause-order : goal.returns-clause-order
returns-clause-order c = λ next turns gone kept frozen result falling counted released. left_at_last next kept gone frozen falling counted turns result released

pub returns-clause-turns : goal.returns-clause-turns
returns-clause-turns c = λ turns gone pending frozen now released. one_name_a_turn gone frozen turns pending now released

pub returns-clause-ends : goal.returns-clause-ends
returns-clause-ends c = λ gone frozen. to_the_end gone frozen
