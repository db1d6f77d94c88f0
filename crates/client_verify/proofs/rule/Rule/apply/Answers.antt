use Rattle.std.proofs.Common.{◌≡◌, List, Ok, Err, ap, ◌∙◌}
use Rattle.std.proofs.lemmas.Result.{err_from_is_err_and}
use Rattle.client_spec.specs.Syntax.{Constant}
use Rattle.client_spec.specs.Grammar.{IsInstruction}
use Rattle.client_spec.specs.Typed.{◌>>=◌}
use Rattle.client_code.specs.Views.{instruction_of}
use Rattle.client_spec.specs.Operations.{row_of}
use Rattle.client_verify.specs.declared.rule.Rule.{Rule}
use Rattle.client_verify.specs.Views.{registers_of, checked}
use Rattle.client_verify.specs.Passing.{rule_at}
use Rattle.client_verify.specs.Checking.{checked_by, known_in_parts, applied}
use Rattle.client_verify.specs.Changes.{given_register, known_by}
use Rattle.client_verify.specs.Steps.{rule_input}
use Rattle.client_verify.proofs.Numbers.{are_named}
use Rattle.client_verify.proofs.Rules.{rule_same}
use Rattle.client_verify.proofs.rule.Rule.apply.Goals as goal

columns_say : (r : Rule) (constants : List Constant) → IsInstruction r.types.now constants (row_of r.instruction.operation).role (instruction_of r.instruction)
    → applied (rule_input r) ≡ rule_at r.types.now constants (instruction_of r.instruction) (registers_of r.before.now)
columns_say r constants right =
    let i = r.instruction in
    rule_same (rule_input r) constants i.operation r.own right
    (are_named r.types.now constants i.b r.type_id r.constant (row_of i.operation).number i.number r.few right.number r.named r.unique r.name)

pub returns-in_err-check : goal.returns-in_err-check
returns-in_err-check c constants right =
    let s = rule_input c.args.self.now in
    let e = c.in_err-check.field-0.0 in
    let failed = err_from_is_err_and c.from_residual.result c.from_residual.ensures.1 in
    let same : failed.0 ≡ e = failed.2 in
    let all = ap (checked_by s) c.after-after.ensures.given in
    ap (checked (known_by (registers_of c.args.self.now.before.now))) (failed.1 ∙ ap Err same)
    ∙ ap (λ r. r >>= λ _. Ok (known_in_parts s)) (c.in_err-check.ensures ∙ all)
    ∙ columns_say c.args.self.now constants right

pub returns : goal.returns
returns c constants right =
    let s = rule_input c.args.self.now in
    let all = ap (checked_by s) c.after-after.ensures.given in
    ap Ok c.after-after.ensures.known
    ∙ ap (λ r. r >>= λ _. Ok (known_in_parts s)) (c.in_ok-check.ensures ∙ all)
    ∙ columns_say c.args.self.now constants right
