use Rattle.std.proofs.Common.{pos}
use Rattle.script_meaning.proofs.TermLaws.{extends_keeps, if_some}
use Rattle.script_meaning.proofs.terms.Terms.is_zero.Goals as goal

pub returns-clause-value : goal.returns-clause-value
returns-clause-value c = if_some _ _ c.computed.result (λ at gives setting m x is.
    gives setting m x (pos 0)
    (extends_keeps setting m c.args.self.now.list.items c.literal.new.self.list.items c.args.term x c.literal.ensures.extends is)
    (c.in_ok-zero.ensures.value setting m)) c.computed.ensures.value
