-- The definitions' values for the verifier's state.
--     progress_of verifier                        its progress
--     PassesBy role old instruction new result   how an instruction of this role changes it
use Rattle.std.specs.Prelude.{◌≡◌, ⊤, ℕ, List, map, reverse, Result}
use Rattle.client_spec.specs.Syntax.{Constant}
use Rattle.client_spec.specs.Typed as typed
use Rattle.client_spec.specs.declared.table.Role.{Role}
use Rattle.client_spec.specs.Operations.{row_of}
use Rattle.client_spec.specs.Grammar.{IsInstruction}
use Rattle.client_code.specs.declared.instruction.Instruction.{Instruction}
use Rattle.client_code.specs.Views.{instruction_of}
use Rattle.client_verify.specs.declared.reason.Reason.{Reason}
use Rattle.client_verify.specs.declared.verifier.PartState.{PartState}
use Rattle.client_verify.specs.declared.verifier.PartState.TheVariants as part
use Rattle.client_verify.specs.declared.verifier.Open.{Open}
use Rattle.client_verify.specs.declared.verifier.Verifier.{Verifier}
use Rattle.client_verify.specs.Views.{registers_of, checked}
use Rattle.client_verify.specs.Passing as passing

abbrev pub open_part : PartState → typed.RegisterTypes → (before : ℕ) → passing.Open
open_part part.Success ks before = passing.in_success ks before
open_part (part.Else steps) ks before = passing.in_else ks steps before
open_part (part.Body turns) ks before = passing.in_body ks turns before

abbrev pub open_of : Open → passing.Open
open_of part = open_part part.part (registers_of part.registers) part.steps

abbrev pub progress_of : Verifier → passing.Progress
progress_of verifier = record {
  known = registers_of verifier.registers;
  steps = verifier.steps;
  parts = reverse (map open_of verifier.parts.items);
}

abbrev pub PassesBy : Role → Verifier → Instruction → Verifier → Result (⊤) Reason → Type 0
PassesBy role old instruction new result =
    (constants : List Constant) →
    IsInstruction old.types.now constants (row_of instruction.operation).role
    (instruction_of instruction) →
    checked (λ _. progress_of new) result
    ≡ passing.passes_by old.types.now constants role (progress_of old)
    (instruction_of instruction)
