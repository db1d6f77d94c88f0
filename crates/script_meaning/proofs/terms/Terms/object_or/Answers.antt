use Rattle.script_meaning.proofs.TermLaws.{extends_keeps, object_value}
use Rattle.script_meaning.proofs.terms.Terms.object_or.Goals as goal

pub returns-then-default-at-clause-value : goal.returns-then-default-at-clause-value
returns-then-default-at-clause-value c = λ setting m d default.
    object_value setting m c.position.new.self.list.items c.in_ok-at.at c.args.object c.args.default d c.in_ok-at.ensures.there c.if-default-at.true
    (extends_keeps setting m c.args.self.now.list.items c.position.new.self.list.items c.args.default d c.position.ensures.extends default)
