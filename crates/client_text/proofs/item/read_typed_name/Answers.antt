use Rattle.std.proofs.Common.{◌∙◌, sym}
use Rattle.client_spec.proofs.Spelling.TextWordLaws.{tail_of}
use Rattle.client_text.proofs.Outcomes.{on_none}
use Rattle.client_text.proofs.item.read_typed_name.Goals as goal

pub returns-in_err-constant-clause-none : goal.returns-in_err-constant-clause-none
returns-in_err-constant-clause-none c =
    on_none c.from_residual-in_err-constant.result _ (λ t k rest small few same.
    c.in_err-constant.ensures.none k rest few (tail_of _ _ _ _ (sym c.in_ok-type_id.ensures.found ∙ same)).1)
