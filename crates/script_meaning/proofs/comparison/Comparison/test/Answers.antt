use Rattle.std.proofs.Common.{◌≡◌, ℕ, suc, Some, rules, arith, ap, ◌∙◌, subst}
use denote.Enum.Bare.{same_true}
use Rattle.client_spec.specs.contracts.table.Operation.{the_type}
use Rattle.client_code.specs.Views.{instruction_of}
use Rattle.script_meaning.specs.Meaning.{value}
use Rattle.script_meaning.specs.Comparing.{setting_of, Tests}
use Rattle.script_meaning.proofs.KnowingLaws.{not_false, test_law}
use Rattle.script_meaning.proofs.comparison.Comparison.test.Goals as goal

pub returns : goal.returns
returns c =
    let i = instruction_of c.in_ok-instruction.instruction in
    let same : c.in_ok-instruction.instruction.operation ≡ c.args.operation =
    same_true the_type (search rules) c.in_ok-instruction.instruction.operation c.args.operation (not_false _ c.if-ne.ensures) in
    let term : Some (Some c.in_ok-term.field-0) ≡ Some (Some c.in_ok-after.field-0.term) = ap (λ (t : ℕ). Some (Some t)) c.if-branch-term.false in
    let after : suc c.in_ok-after.field-0.after ≡ c.in_ok-checked_add.field-0 = omega arith in
    subst (λ body. Tests c.args.self.now c.args.at body c.args.held.now.variables c.args.operation i (λ m. value (setting_of c.args.self.now) m c.args.number.now)) after
    (test_law c.args.self.now c.args.at c.in_ok-after.field-0.after c.args.held.now.variables c.number_at.new.knowledge c.in_ok-after.field-0.term
    (λ m. value (setting_of c.args.self.now) m c.args.number.now) c.args.operation i c.in_ok-after.ensures c.in_ok-instruction.ensures same (c.in_ok-term.ensures ∙ term))
