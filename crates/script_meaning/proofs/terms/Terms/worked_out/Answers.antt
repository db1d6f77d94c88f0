use Rattle.std.proofs.Common.{arith}
use Rattle.script_meaning.proofs.TermLaws.{extends_keeps, computed_value}
use Rattle.script_meaning.proofs.terms.Terms.worked_out.Goals as goal

pub returns-then-right-at-clause-value : goal.returns-then-right-at-clause-value
returns-then-right-at-clause-value c = λ setting m x y left right.
    computed_value setting m c.position.new.self.list.items c.in_ok-at.at c.args.computation c.args.left c.args.right x y
    c.in_ok-at.ensures.there (omega arith) (omega arith)
    (extends_keeps setting m c.args.self.now.list.items c.position.new.self.list.items c.args.left x c.position.ensures.extends left)
    (extends_keeps setting m c.args.self.now.list.items c.position.new.self.list.items c.args.right y c.position.ensures.extends right)
