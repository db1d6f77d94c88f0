use Rattle.std.proofs.Common.{◌≡◌, ◌∙◌, Ok, Some, true, map, ap, subst}
use Rattle.client_spec.specs.Types.{Form, form_at}
use Rattle.client_code.specs.Views.{instruction_of, constants_of}
use Rattle.script_meaning.specs.declared.comparison.Comparison.{Comparison}
use Rattle.script_meaning.proofs.WholeLaws.{whole_means}
use Rattle.script_meaning.proofs.meaning.has_meaning.Goals as goal

pub returns : goal.returns
returns c = λ right tree spells.
    let yes : c.is_whole.result ≡ true = (let e : Ok c.is_whole.result ≡ Ok true = right in cc) in
    let comparison : Comparison = record { instructions = c.as_slice.result; constants = c.as_slice-2.result; objects = c.as_slice-3.result; int = c.in-Some.int } in
    whole_means comparison c.args.program.now tree spells.valid (ap (map instruction_of) c.as_slice.ensures.value ∙ c.in_ok-instructions.ensures tree spells)
    (ap constants_of c.as_slice-2.ensures.value ∙ c.in_ok-constants.ensures tree spells) c.as_slice-3.ensures.value
    (λ some. subst (λ types. form_at types c.in-Some.int ≡ Some Form.i64) (c.types.ensures tree spells) (c.in-Some.ensures some)) (c.is_whole.ensures yes)
