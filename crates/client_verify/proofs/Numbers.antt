-- The type and the constant in the number of an instruction, by the definitions and by the number's
-- bytes.
use Rattle.std.proofs.Common.{◌≡◌, ◌≢◌, ◌≤◌, ◌/◌, ◌%◌, ℕ, List, length, refl, arith}
use Rattle.std.specs.Prelude.{⊤, ℤ, pos, negsuc, nat_abs}
use Rattle.client_spec.specs.Types.{Table}
use Rattle.client_spec.specs.Syntax.{Constant}
use Rattle.client_spec.specs.declared.table.Number.{Number}
use Rattle.client_spec.specs.Grammar.{IsNumber}
use Rattle.client_spec.specs.Answer.{type_operand, constant_operand}

-- the type and the constant in a number
abbrev pub AreNamed : Number → ℤ → (type_id constant : ℕ) → Type 0
AreNamed Number.TypedName number t k = (t ≡ type_operand number) × (k ≡ constant_operand number)
AreNamed Number.TypeId number t k = t ≡ nat_abs number
AreNamed form number t k = ⊤

-- a table has at most 32 types, so one byte of the number is the whole type
pub are_named : (types : Table) (constants : List Constant) (b t k : ℕ) (form : Number) (number : ℤ) → length types ≤ 32 → IsNumber types constants b form number
    → (form ≡ Number.TypedName → (n : ℕ) → number ≡ pos n → t ≡ n / 256 % 256) → (form ≢ Number.TypedName → (n : ℕ) → number ≡ pos n → t ≡ n % 256) → ((n : ℕ) → number ≡ pos n → k ≡ n % 256)
    → AreNamed form number t k
are_named types constants b t k Number.TypedName (pos n) few right typed alone name =
    let e = typed refl n refl in
    let within = right.0 in
    (omega arith, name n refl)
are_named types constants b t k Number.TypedName (negsuc n) few right typed alone name = absurd right
are_named types constants b t k Number.TypeId (pos n) few right typed alone name =
    let e = alone (λ same. cc) n refl in
    omega arith
are_named types constants b t k Number.TypeId (negsuc n) few right typed alone name = absurd right
are_named types constants b t k form number few right typed alone name = tt
