use Rattle.script_meaning.proofs.TermLaws.{if_some, both_law, either_law}
use Rattle.script_meaning.proofs.terms.Terms.combined.Goals as goal

pub returns-in-And-clause-value : goal.returns-in-And-clause-value
returns-in-And-clause-value c = if_some _ _ c.logic.result (λ at gives setting m x y left right.
    rw (c.in-And.is, ← both_law x y) (gives setting m x y left right)) c.logic.ensures.value

pub returns-in-Or-clause-value : goal.returns-in-Or-clause-value
returns-in-Or-clause-value c = if_some _ _ c.logic-in-Or.result (λ at gives setting m x y left right.
    rw (c.in-Or.is, ← either_law x y) (gives setting m x y left right)) c.logic-in-Or.ensures.value
