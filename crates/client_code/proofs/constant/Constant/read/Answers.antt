use Rattle.std.proofs.Common.{◌∙◌, sym, subst}
use Rattle.std.proofs.lemmas.Bool.{false≢true}
use Rattle.client_spec.specs.Grammar.{IsConstant}
use Rattle.client_spec.proofs.Spelling.OneClientLaws.{constant_front}
use Rattle.client_code.specs.Views.{constant_of}
use Rattle.client_code.proofs.constant.Constant.read.Goals as goal

pub returns-then-not-may_be-clause-none : goal.returns-then-not-may_be-clause-none
returns-then-not-may_be-clause-none c d rest right e =
    let same = (constant_front (constant_of c.in_ok-constant.constant) d _ rest (sym c.in_ok-constant.ensures.spelled ∙ e)).0 in
    false≢true (sym c.if-not-may_be.true ∙ c.may_be.ensures.1 (subst IsConstant (sym same) right))
