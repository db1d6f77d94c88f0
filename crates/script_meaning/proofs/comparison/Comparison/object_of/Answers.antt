use Rattle.std.proofs.Common.{◌≡◌, ◌%◌, nat_abs, Some, slice_get, w32, FitsSigned, rules, refl, sym, ap, ◌∙◌}
use Rattle.std.proofs.lemmas.Int.{to_z-of_z}
use Rattle.std.proofs.lemmas.Option.{slice_get_read}
use denote.Enum.Bare.{differs_false}
use Rattle.client_code.specs.contracts.constant.ConstantKind.{the_type}
use Rattle.client_code.specs.declared.constant.ConstantKind.TheVariants as kind
use Rattle.script_meaning.proofs.TermLaws.{if_some}
use Rattle.script_meaning.proofs.InstructionLaws.{converted, about_law}
use Rattle.script_meaning.proofs.comparison.Comparison.object_of.Goals as goal

pub returns : goal.returns
returns c =
    let fits : FitsSigned w32 c.args.instruction.number = search rules in
    let number : c.in_ok-number.number ≡ nat_abs c.args.instruction.number
    = converted c.try_from.result _ _ _ c.try_from.ensures c.in_ok-number.ensures.value ∙ ap nat_abs (to_z-of_z w32 c.args.instruction.number fits) in
    let there : slice_get c.args.self.now.constants.now (c.in_ok-number.number % 256) ≡ Some c.in_ok-constant.constant.now
    = slice_get_read c.args.self.now.constants.now _ (c.in_ok-number.number % 256) c.in_ok-constant.constant.now refl c.in_ok-constant.ensures.lookup.3.0 c.in_ok-constant.ensures.lookup.1 in
    let names : c.in_ok-constant.constant.now.kind ≡ kind.Name = differs_false the_type (search rules) _ _ (sym c.if-ne.ensures) in
    if_some _ _ c.object_named.result
    (λ x named. about_law c.args.self.now c.args.instruction c.in_ok-number.number x c.in_ok-constant.constant.now number (c.if-number-from.false ∙ c.from.ensures) c.if-instruction-ne-NONE.false
    there names named) c.object_named.ensures
