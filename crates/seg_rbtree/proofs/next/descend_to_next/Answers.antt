use Rattle.std.proofs.Common.{sym, ◌∙◌}
use Rattle.seg_rbtree.proofs.next.descend_to_next.Goals as goal

pub returns-in_err-right-clause-descended : goal.returns-in_err-right-clause-descended
returns-in_err-right-clause-descended c = λ layers left right colour s some. absurd (some (sym c.child_in.ensures ∙ c.in_err-right.was))

pub returns-clause-descended : goal.returns-clause-descended
returns-clause-descended c = λ layers left right colour s some. c.descend_right.ensures.descended layers left right colour s (sym c.child_in.ensures ∙ c.in_ok-right.was)
