-- What registers contain: it is kept where terms are added, and set where a register is set.
use Rattle.std.proofs.Common.{◌≡◌, ◌≢◌, ℕ, zero, suc, ◌<◌, ℤ, List, [], ◌∷◌, length, true, Option, Some, None, slice_get, slice_set, get_or, ◌⊎◌, inl, inr, IfSome, refl, sym, ◌∙◌, ap, subst}
use Rattle.std.specs.Prelude.{if◌then◌else◌, nat_eq}
use Rattle.std.specs.Option.{option_eq}
use Rattle.std.proofs.lemmas.Bool.{eqb-true, eq-eqb}
use Rattle.std.proofs.lemmas.Option.{slice_get-get_or, get_or_from_slice_get}
use borrow.Author.Tests.{ne_eqb}
use Rattle.client_spec.specs.Machine.{State, Register, register}
use Rattle.script_meaning.specs.declared.terms.Term.{Term}
use Rattle.script_meaning.specs.Meaning.{Moment, Setting, with_variable}
use Rattle.script_meaning.specs.Following.{Extends, HasValue, Registers, Knows, Held}
use Rattle.script_meaning.proofs.TermLaws.{extends_keeps}

-- what a list has at a place after another place of it was set
pub set_cases : (X : Type 0) (xs : List X) (r q : ℕ) (x y : X) → slice_get (slice_set xs r x) q ≡ Some y → ((q ≡ r) × (y ≡ x)) ⊎ (slice_get xs q ≡ Some y)
set_cases X [] r q x y is = inr is
set_cases X (z ∷ zs) zero zero x y is = inl (refl, cc)
set_cases X (z ∷ zs) zero (suc q) x y is = inr is
set_cases X (z ∷ zs) (suc r) zero x y is = inr is
set_cases X (z ∷ zs) (suc r) (suc q) x y is = elim (set_cases X zs r q x y is) [ inl (e, f) ↦ inl (ap suc e, f) | inr e ↦ inr e ]

-- a register contains the number of its term
pub record Gets (setting : Setting) (terms : List Term) (r : ℕ) (m : Moment) (s : State) (term : Option ℕ) : Type 0 where
  pub each : (at : ℕ) → term ≡ Some at → (k : ℤ) × HasValue setting m terms at k × (register s r ≡ Register.Int k)

pub knows_set : (setting : Setting) (old new : List Term) (registers : Registers) (r : ℕ) (term : Option ℕ) (m : Moment) (s : State)
    → Extends old new → Gets setting new r m s term → Knows setting old registers m s → Knows setting new (slice_set registers r term) m s
knows_set setting old new registers r term m s extends gets knows = record { count = knows.count; world = knows.world; each = each }
  where
    each : (q at : ℕ) → slice_get (slice_set registers r term) q ≡ Some (Some at) → (k : ℤ) × HasValue setting m new at k × (register s q ≡ Register.Int k)
    each q at is = elim (set_cases (Option ℕ) registers r q term (Some at) is) [
      | inl (e, f) ↦ let P : ℕ → Type 0 = λ i. (k : ℤ) × HasValue setting m new at k × (register s i ≡ Register.Int k) in subst P (sym e) (gets.each at (sym f))
      | inr e ↦ let (k, has, there) = knows.each q at e in (k, extends_keeps setting m old new at k extends has, there)
    ]

-- the term of a variable, in the variable's register
pub gets_variable : (setting : Setting) (terms : List Term) (r v : ℕ) (m : Moment) (s : State) (term : Option ℕ)
    → IfSome term (λ at. (setting' : Setting) (m' : Moment) → HasValue setting' m' terms at (m'.variables v))
    → register s r ≡ Register.Int (m.variables v) → Gets setting terms r m s term
gets_variable setting terms r v m s term value there = record {
  each = λ at is.
      (m.variables v, (subst (λ (t : Option ℕ). IfSome t (λ at. (setting' : Setting) (m' : Moment) → HasValue setting' m' terms at (m'.variables v))) is value) setting m, there);
}

-- the variable that a register holds
pub held_is : (held : Held) (r v w : ℕ) → slice_get held r ≡ Some (Some v) → get_or held r None ≡ Some w → w ≡ v
held_is held r v w there is = let e = get_or_from_slice_get held r (Some v) None there in cc

pub is_held : (held : Held) (r v : ℕ) → r < length held → get_or held r None ≡ Some v → slice_get held r ≡ Some (Some v)
is_held held r v within is = slice_get-get_or held r None within ∙ ap Some is

pub same_option : (a : Option ℕ) (n : ℕ) → option_eq nat_eq a (Some n) ≡ true → a ≡ Some n
same_option None n e = cc
same_option (Some k) n e = ap Some (eqb-true k n e)

-- a variable that got a number, and another
pub changed_variable : (m : Moment) (changed v : ℕ) (k : ℤ) → v ≡ changed → (with_variable m changed k).variables v ≡ k
changed_variable m changed v k same = ap (λ b. if b then k else m.variables v) (eq-eqb v changed same)

pub other_variable : (m : Moment) (changed v : ℕ) (k : ℤ) → v ≢ changed → (with_variable m changed k).variables v ≡ m.variables v
other_variable m changed v k other = ap (λ b. if b then k else m.variables v) (ne_eqb v changed other)

-- a register with the term of a number contains the number
pub known_is : (setting : Setting) (terms : List Term) (registers : Registers) (r at : ℕ) (m : Moment) (s : State) (k : ℤ)
    → Knows setting terms registers m s → HasValue setting m terms at k → slice_get registers r ≡ Some (Some at) → register s r ≡ Register.Int k
known_is setting terms registers r at m s k knows has there = let (x, x_has, in_r) = knows.each r at there in let same : x ≡ k = cc in in_r ∙ ap Register.Int same
