use Rattle.client_text.proofs.Outcomes.{on_none}
use Rattle.client_text.proofs.ItemWords.{no_text, prefixed}
use Rattle.client_text.proofs.item.Item.read.Goals as goal

pub returns-in_err-unescaped-in-Some-clause-none : goal.returns-in_err-unescaped-in-Some-clause-none
returns-in_err-unescaped-in-Some-clause-none c =
    on_none c.from_residual.result _ (no_text c.args.line.now c.in-Some.spelling.now (prefixed c.args.line.now _ c.in-Some.spelling.now _ c.as_slice.ensures
    c.in-Some.ensures.cases.0 c.in-Some.ensures.cases.1) c.in_err-unescaped-in-Some.ensures.none)
