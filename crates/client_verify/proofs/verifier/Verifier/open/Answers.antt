use Rattle.std.proofs.Common.{◌≡◌, ◌+◌, List, ap, ◌∙◌, subst, Ok}
use Rattle.client_spec.specs.Types.{Table}
use Rattle.client_spec.specs.Syntax.{Constant}
use Rattle.client_spec.specs.Grammar.{IsInstruction}
use Rattle.client_spec.specs.Operations.{row_of}
use Rattle.client_spec.specs.Typed.{◌>>=◌}
use Rattle.client_code.specs.declared.instruction.Instruction.{Instruction}
use Rattle.client_code.specs.Views.{instruction_of}
use Rattle.client_verify.specs.declared.after.After.{After}
use Rattle.client_verify.specs.declared.registers.Registers.{Registers}
use Rattle.client_verify.specs.Passing.{Progress, in_success, inside, at_most, rule_at}
use Rattle.client_verify.specs.Views.{registers_of}
use Rattle.client_verify.specs.Steps.{before_of, instruction_in}
use Rattle.client_verify.specs.Changes.{given_register, known_by, ended_after, success_after, otherwise_after}
use Rattle.client_verify.specs.Verifiers.{progress_of}
use Rattle.client_verify.proofs.Parts.{success_again}
use Rattle.client_verify.proofs.verifier.Verifier.open.Goals as goal

-- the rule of an instruction gives these changes
abbrev Gives : Table → Registers → Instruction → After → Type 0
Gives types before i after =
    (constants : List Constant) → IsInstruction types constants (row_of i.operation).role (instruction_of i)
    → Ok (known_by (registers_of before) after) ≡ rule_at types constants (instruction_of i) (registers_of before)

pub returns-clause-passes : goal.returns-clause-passes
returns-clause-passes c constants right =
    let after = c.in_ok-after.after in
    let registers = c.args.self.now.registers in
    let types = c.args.self.now.types.now in
    let rule = c.new.result in
    let parts = (progress_of c.args.self.now).parts in
    let steps = at_most (c.args.self.now.steps + 1) in
    let ended = ended_after after (registers_of registers) in
    let otherwise = c.fail.ensures ∙ ap (otherwise_after after) c.end.ensures in
    let success = c.succeed.ensures ∙ ap (λ r. success_after after (registers_of r)) c.push.ensures.registers ∙ ap (success_after after) otherwise
    ∙ success_again (given_register after) after.role after.ends after.c ended in
    let gives : Gives types registers c.args.instruction after =
    subst (λ i. Gives types registers i after) c.new.ensures.instruction
    (subst (λ b. Gives types b (instruction_in rule) after) c.new.ensures.before
    (subst (λ t. Gives t (before_of rule) (instruction_in rule) after) c.new.ensures.types c.in_ok-after.ensures)) in
    ap (λ (p : Progress). Ok (record p { known = registers_of c.succeed.new.registers })) c.push.ensures.inside
    ∙ ap (λ ks. Ok (inside (registers_of c.succeed.new.registers) (in_success ks steps) parts)) otherwise
    ∙ ap (λ ks. Ok (inside ks (in_success (otherwise_after after ended) steps) parts)) success
    ∙ ap (λ r. r >>= λ x. Ok (inside x.0 (in_success x.1 steps) parts)) (gives constants right)
