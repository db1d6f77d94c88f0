-- A row that sets a register: its answer, its next state, and that the register owned nothing.
use Rattle.std.specs.Option.{option_map_or}
use Rattle.std.proofs.Common.{◌≡◌, ℕ, Option, Some, None, refl, sym}
use Rattle.seg_spec.specs.Value.{Value}
use Rattle.client_spec.specs.Machine.{Register, State, register, set_register, owned_by}
use Rattle.client_spec.specs.Answer.{Answer, Outcome, answer}
use Rattle.test_definitions.proofs.Rows.OneRow.{pair_is}

pub from_answer : (code k : Answer) (a : ℕ) (x : Register) (t u : State) → ◌≡◌ {A = Outcome} (answer code a x t) (Some (k, u)) → (code ≡ k) × (u ≡ set_register t a x)
from_answer code k a x t u e = go (owned_by (register t a)) e
  where
    go : (o : Option (Value × ℕ)) → ◌≡◌ {A = Outcome} (option_map_or (λ _. None) o (Some (code, set_register t a x))) (Some (k, u)) → (code ≡ k) × (u ≡ set_register t a x)
    go None f = (let both = pair_is code k (set_register t a x) u f in (both.0, sym both.1))
    go (Some v) f = absurd (let g : ◌≡◌ {A = Outcome} None (Some (k, u)) = f in cc)

pub free_answer : (code k : Answer) (a : ℕ) (x : Register) (t u : State) → ◌≡◌ {A = Outcome} (answer code a x t) (Some (k, u)) → owned_by (register t a) ≡ None
free_answer code k a x t u e = go (owned_by (register t a)) e
  where
    go : (o : Option (Value × ℕ)) → ◌≡◌ {A = Outcome} (option_map_or (λ _. None) o (Some (code, set_register t a x))) (Some (k, u)) → o ≡ None
    go None f = refl
    go (Some v) f = absurd (let g : ◌≡◌ {A = Outcome} None (Some (k, u)) = f in cc)
