-- What the answers of several functions use: checked sums, and registers that contain what is known.
use Rattle.std.proofs.Common.{◌≡◌, ℕ, ℤ, ◌+◌, ◌<◌, suc, length, sym, ◌∙◌, ap, subst, add-one, SomeIff, IfSome, Option, Some, None, slice_get}
use Rattle.std.proofs.lemmas.Option.{slice_get_within}
use Rattle.client_spec.specs.Machine.{Register}
use Rattle.client_spec.proofs.TypedStates.ValueLaws.{Some_inj}
use Rattle.script_meaning.specs.declared.comparison.Comparison.{Comparison}
use Rattle.script_meaning.specs.declared.knowledge.Knowledge.{Knowledge}
use Rattle.script_meaning.specs.Meaning.{Moment, Stays}
use Rattle.script_meaning.specs.Following.{Held, HasValue, Holds}
use Rattle.script_meaning.specs.Comparing.{setting_of, texts_of, code_of, knowing, holding, Follows, HoldsNumber, NumberIsAt, IsFree}
use Rattle.script_meaning.proofs.SequenceLaws.{weaker}

-- what holds of the next number holds of the checked sum, if there is one
pub checked_next : (o : Option ℕ) (fits : Type 0) (n : ℕ) (P : ℕ → Type 0) → SomeIff o fits (n + 1) → P (suc n) → IfSome o P
checked_next None fits n P e p = tt
checked_next (Some k) fits n P e p = subst P (sym (e.1 ∙ add-one n)) p

-- two clauses about the next number give a third
pub if_both : (o : Option ℕ) (n : ℕ) (A P : ℕ → Type 0) → IfSome o A → IfSome o (λ k. k ≡ n + 1) → ((k : ℕ) → A k → k ≡ suc n → P k) → IfSome o P
if_both None n A P a e f = tt
if_both (Some k) n A P a e f = f k a (e ∙ add-one n)

-- a checked sum is the next number
pub next_is : (o : Option ℕ) (fits : Type 0) (n k : ℕ) → SomeIff o fits (n + 1) → o ≡ Some k → k ≡ suc n
next_is None fits n k e is = absurd (let g : None ≡ Some k = is in cc)
next_is (Some j) fits n k e is = (let g : Some j ≡ Some k = is in let h : j ≡ n + 1 = e.1 in let a : n + 1 ≡ suc n = add-one n in cc)

-- a register that contains the term of a number has the number
pub number_held : (c : Comparison) (at after : ℕ) (held : Held) (knowledge : Knowledge) (term : ℕ) (number : Moment → ℤ) → NumberIsAt c at after held knowledge term number
    → (r found : ℕ) → slice_get knowledge.registers r ≡ Some (Some found) → found ≡ term → Follows c at after (holding held) Stays (HoldsNumber held r number)
number_held c at after held knowledge term number n r found there same =
    weaker (texts_of c) (code_of c) at after (holding held) (holding held) (λ m s. Holds held m s × knowing c knowledge m s) (HoldsNumber held r number) Stays (λ m s h. h)
    (λ m s p. (
    let e = p.1.each r found there in
    let value : HasValue (setting_of c) m knowledge.terms.list.items found (number m) = subst (λ (t : ℕ). HasValue (setting_of c) m knowledge.terms.list.items t (number m)) (sym same) (n.value m) in
    let number_is : e.0 ≡ number m = Some_inj (sym e.1 ∙ value) in
    record { holds = p.0; is = e.2 ∙ ap Register.Int number_is }
    ))
    n.before

-- a register without a variable exists
pub free_exists : (held : Held) (r n : ℕ) → length held ≡ n → IsFree held r → r < n
free_exists held r n size free = subst (λ (k : ℕ). r < k) size (slice_get_within held r None free)
