-- The verifier's progress through the code: what it knows at a place, and how each instruction
-- changes that.
--     Progress                           what is known at a place
--     passes types constants p i         after an instruction, or the reason to refuse it
--     passes_all types constants p is    after several
--     initial_progress                   before the code
--     rule_at types constants i ks       what is known after an instruction by itself, or at the
--                                        beginning of each of its parts
--     at_most n                          n, or the highest number of steps that the verifier counts
use Rattle.std.specs.Prelude.{ℕ, ◌+◌, ◌*◌, ◌^◌, ◌-◌, min, max, nat_abs, List, [], ◌∷◌, length, replicate, nat_lt, if◌then◌else◌, Ok}
use Rattle.client_spec.specs.Types.{Table}
use Rattle.client_spec.specs.Syntax.{Constant, Instruction}
use Rattle.client_spec.specs.declared.table.Role.{Role}
use Rattle.client_spec.specs.Operations.{row_of}
use Rattle.client_spec.specs.Typed.{Checked, ◌>>=◌, RegisterType, RegisterTypes, Rule, known, known_after, integer_needed, rule_of, joined, kept}

-- An open part of the code, with what its end needs. A success part has what its else part begins
-- with; an else part has what was known at the end of the success part, and that part's steps; a
-- body has what was known before the loop, and the most iterations. `before` is the steps before
-- the part.
pub data Open : Type 0 where
  in_success : (otherwise : RegisterTypes) (before : ℕ) → Open
  in_else : (success : RegisterTypes) (steps before : ℕ) → Open
  in_body : (found : RegisterTypes) (turns before : ℕ) → Open

-- what is known of the registers, the steps in the innermost part so far, and the open parts, the
-- innermost first
pub record Progress : Type 0 where
  pub known : RegisterTypes
  pub steps : ℕ
  pub parts : List Open

abbrev pub initial_progress : Progress
initial_progress = record { known = replicate 16 RegisterType.Undefined; steps = 0; parts = [] }

abbrev pub at_most : ℕ → ℕ
at_most n = min n (2 ^ 64 - 1)

-- opens a part, if fewer than eight are open
abbrev pub with_part : Open → List Open → List Open
with_part part parts = if nat_lt (length parts) 8 then part ∷ parts else parts

-- at the beginning of a new part
abbrev pub inside : RegisterTypes → Open → List Open → Progress
inside ks part parts = record { known = ks; steps = 0; parts = with_part part parts }

-- after an END; `steps` is the number of steps of the part that it ended
abbrev pub progress_after : RegisterTypes → (before steps : ℕ) → List Open → Progress
progress_after ks before steps parts =
    record { known = ks; steps = at_most (before + steps); parts = parts }

-- what is kept with an open part, and the steps before it
abbrev pub kept_with : Open → RegisterTypes
kept_with (in_success otherwise before) = otherwise
kept_with (in_else success steps before) = success
kept_with (in_body found turns before) = found

abbrev pub steps_before : Open → ℕ
steps_before (in_success otherwise before) = before
steps_before (in_else success steps before) = before
steps_before (in_body found turns before) = before

-- from the success part to its else part
abbrev pub turned : Progress → List Open → Progress
turned p (part ∷ parts) = record {
  known = kept_with part;
  steps = 0;
  parts = in_else p.known p.steps (steps_before part) ∷ parts;
}
turned p [] = p

-- after the innermost part
abbrev pub closed : Progress → List Open → Checked Progress
closed p (in_success otherwise before ∷ parts) = Ok (progress_after p.known before p.steps parts)
closed p (in_else success steps before ∷ parts) =
    joined success p.known >>= λ both. Ok (progress_after both before (max p.steps steps) parts)
closed p (in_body found turns before ∷ parts) = kept found p.known
    >>= λ _. Ok (progress_after found before (at_most (turns * at_most (p.steps + 1))) parts)
closed p [] = Ok p

module _ (types : Table) (constants : List Constant) where
  abbrev pub rule_by : Role → Instruction → RegisterTypes → Rule
  rule_by Role.Plain i ks = rule_of types constants i ks
  rule_by Role.Opener i ks = rule_of types constants i ks
  rule_by Role.Loop i ks = integer_needed (known ks i.b) >>= λ _. known_after ks
  rule_by Role.Else i ks = known_after ks
  rule_by Role.End i ks = known_after ks

  abbrev pub rule_at : Instruction → RegisterTypes → Rule
  rule_at i ks = rule_by (row_of i.operation).role i ks

  abbrev pub passes_by : Role → Progress → Instruction → Checked Progress
  passes_by Role.Plain p i = rule_at i p.known
      >>= λ after. Ok (record p { known = after.0; steps = at_most (p.steps + 1) })
  passes_by Role.Opener p i = rule_at i p.known
      >>= λ after. Ok (inside after.0 (in_success after.1 (at_most (p.steps + 1))) p.parts)
  passes_by Role.Loop p i = rule_at i p.known
      >>= λ after. Ok (inside p.known
      (in_body p.known (nat_abs i.number) (at_most (p.steps + 1))) p.parts)
  passes_by Role.Else p i = Ok (turned p p.parts)
  passes_by Role.End p i = closed p p.parts

  abbrev pub passes : Progress → Instruction → Checked Progress
  passes p i = passes_by (row_of i.operation).role p i

  abbrev pub passes_all : Progress → List Instruction → Checked Progress
  passes_all p [] = Ok p
  passes_all p (i ∷ is) = passes p i >>= λ q. passes_all q is
