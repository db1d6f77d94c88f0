use Rattle.std.proofs.Common.{◌<◌, ◌∙◌, sym, subst, arith}
use Rattle.std.specs.Fmt.{decimal}
use Rattle.client_spec.proofs.Spelling.TextWordLaws.{decimal_one}
use Rattle.client_text.proofs.Outcomes.{fails_large}
use Rattle.client_text.proofs.Numerals.{after_letter}
use Rattle.client_text.proofs.numeral.index.Goals as goal

pub returns-in_ok-decimal-in-len1-up-clause-none : goal.returns-in_ok-decimal-in-len1-up-clause-none
returns-in_ok-decimal-in-len1-up-clause-none c =
    let m = c.in_ok-decimal-in-len1-up.field-0 in
    fails_large (m < 256) _ m c.ok.result c.try_from.result c.try_from.ensures c.ok.ensures.value (λ large n small same.
    let one = decimal_one n m (omega arith) (omega arith) (sym (after_letter c.args.letter c.args.word.now (decimal n) same) ∙ c.in_ok-decimal-in-len1-up.ensures.found) in
    large (subst (λ k. k < 256) one small))
