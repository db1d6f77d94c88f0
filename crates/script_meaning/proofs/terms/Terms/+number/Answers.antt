use Rattle.script_meaning.specs.Meaning.{value}
use Rattle.script_meaning.specs.Following.{HasValue}
use Rattle.script_meaning.proofs.TermLaws.{extends_keeps, if_some}
use Rattle.script_meaning.proofs.terms.Terms.+number.Goals as goal

pub returns-in_ok-right-in-Combined-clause-value :
    goal.returns-in_ok-right-in-Combined-clause-value
returns-in_ok-right-in-Combined-clause-value t c = if_some _ _ c.combined.result (λ at gives setting m.
    let left : HasValue setting m c.number.new.self.list.items c.in_ok-left-in-Combined.left (value setting m c.in-Combined.left.value)
    = rw (← c.deref.ensures) (c.in_ok-left-in-Combined.ensures.value setting m) in
    let right : HasValue setting m c.number-in-Combined.new.self.list.items c.in_ok-right-in-Combined.right (value setting m c.in-Combined.right.value)
    = rw (← c.deref-in-Combined.ensures) (c.in_ok-right-in-Combined.ensures.value setting m) in
    let kept = extends_keeps setting m c.number.new.self.list.items c.number-in-Combined.new.self.list.items c.in_ok-left-in-Combined.left
    (value setting m c.in-Combined.left.value) c.number-in-Combined.ensures.extends left in
    rw c.in-Combined.is (gives setting m (value setting m c.in-Combined.left.value) (value setting m c.in-Combined.right.value) kept right)) c.combined.ensures.value
