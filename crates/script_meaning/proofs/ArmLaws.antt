-- Code of a statement, and code of the statements after it.
use Rattle.std.proofs.Common.{◌≡◌, ◌≢◌, ℕ, zero, suc, ℤ, List, [], ◌∷◌, Option, None, Some, IfSome, slice_get, slice_set, ◌⊎◌, inl, inr, refl, sym, ◌∙◌, ap, subst, ◌<◌, arith}
use Rattle.std.proofs.lemmas.Bool.{cases_order}
use Rattle.client_spec.specs.Machine.{State}
use Rattle.client_spec.specs.Run.{Ending}
use Rattle.script_meaning.specs.declared.comparison.Comparison.{Comparison}
use Rattle.script_meaning.specs.declared.program.Code.{Code}
use Rattle.script_meaning.specs.Meaning.{Moment, Meaning, Then, Sets, Does}
use Rattle.script_meaning.specs.Following.{Held, Holds}
use Rattle.script_meaning.specs.Comparing.{setting_of, code_of, texts_of, holding, Follows, HoldsNumber, HasPlace}
use Rattle.script_meaning.proofs.SequenceLaws.{then_code, weaker, other_meaning}

as_view_law : (c : Comparison) (at : ℕ) (held : Held) (view : Code) (does : Meaning) (result : Option ℕ) → ((m m' : Moment) (e : Ending) → does m m' e → Does (setting_of c) view m m' e)
    → IfSome result (λ end. Follows c at end (holding held) does (holding held)) → IfSome result (λ end. Follows c at end (holding held) (Does (setting_of c) view) (holding held))
as_view_law c at held view does None f one = tt
as_view_law c at held view does (Some end) f one = other_meaning (texts_of c) (code_of c) at end (holding held) (holding held) does (Does (setting_of c) view) f one

pub follow_law : (c : Comparison) (at mid : ℕ) (held : Held) (first rest : Meaning) (result : Option ℕ) → Follows c at mid (holding held) first (holding held)
    → IfSome result (λ end. Follows c mid end (holding held) rest (holding held)) → IfSome result (λ end. Follows c at end (holding held) (Then first rest) (holding held))
follow_law c at mid held first rest None one two = tt
follow_law c at mid held first rest (Some end) one two = then_code (texts_of c) (code_of c) at mid end (holding held) (holding held) (holding held) first rest one two

-- the code of statements from a position, if there is one
abbrev pub Goes : Comparison → ℕ → Held → Code → Option ℕ → Type 0
Goes c at held code result = IfSome result (λ end. Follows c at end (holding held) (Does (setting_of c) code) (holding held))

-- a statement of this kind, with the statements after it
pub arm_law : (c : Comparison) (at mid : ℕ) (held : Held) (first : Meaning) (code view rest rest' : Code) (result : Option ℕ) → code ≡ view → rest ≡ rest'
    → ((m m' : Moment) (e : Ending) → Then first (Does (setting_of c) rest') m m' e → Does (setting_of c) view m m' e)
    → Follows c at mid (holding held) first (holding held) → Goes c mid held rest result → Goes c at held code result
arm_law c at mid held first code view rest rest' result e f does one two =
    subst (λ x. Goes c at held x result) (sym e) (as_view_law c at held view (Then first (Does (setting_of c) rest')) result does
    (follow_law c at mid held first (Does (setting_of c) rest') result one (subst (λ x. Goes c mid held x result) f two)))

-- statements that are equal do the same
pub same_code : (c : Comparison) (at end : ℕ) (held : Held) (code code' : Code) → code ≡ code' → Follows c at end (holding held) (Does (setting_of c) code) (holding held)
    → Follows c at end (holding held) (Does (setting_of c) code') (holding held)
same_code c at end held code code' e f = subst (λ x. Follows c at end (holding held) (Does (setting_of c) x) (holding held)) e f

-- after a loop its register still has the number, which need not be known
pub loop_end : (c : Comparison) (at after : ℕ) (held : Held) (r : ℕ) (does : Meaning) (number : Moment → ℤ) → Follows c at after (holding held) does (HoldsNumber held r number)
    → Follows c at after (holding held) does (holding held)
loop_end c at after held r does number f =
    weaker (texts_of c) (code_of c) at after (holding held) (holding held) (HoldsNumber held r number) (holding held) does (λ m s p. p) (λ m s p. p.holds) f

-- ---- SET

same_or_not : (i j : ℕ) → (i ≡ j) ⊎ (i ≢ j)
same_or_not i j = by (cases_order i j)
  where
    by : (i ≡ j) ⊎ ((i < j) ⊎ (j < i)) → (i ≡ j) ⊎ (i ≢ j)
    by (inl e) = inl e
    by (inr (inl l)) = inr (λ e. omega arith)
    by (inr (inr l)) = inr (λ e. omega arith)

set_other : {A : Type 0} (xs : List A) (r k : ℕ) (x : A) → k ≢ r → slice_get (slice_set xs r x) k ≡ slice_get xs k
set_other [] r k x f = refl
set_other (y ∷ xs) zero zero x f = absurd (f refl)
set_other (y ∷ xs) zero (suc k) x f = refl
set_other (y ∷ xs) (suc r) zero x f = refl
set_other (y ∷ xs) (suc r) (suc k) x f = set_other xs r k x (λ e. f (ap suc e))

set_same : {A : Type 0} (xs : List A) (r : ℕ) (x y : A) → slice_get xs r ≡ Some y → slice_get (slice_set xs r x) r ≡ Some x
set_same [] r x y e = absurd (let f : None ≡ Some y = e in cc)
set_same (z ∷ xs) zero x y e = refl
set_same (z ∷ xs) (suc r) x y e = set_same xs r x y e

-- what a register contained before a variable was put into it
same_place : (held : Held) (r v v' : ℕ) → HasPlace held r v → slice_get held r ≡ Some (Some v') → slice_get (slice_set held r (Some v)) r ≡ Some (Some v')
same_place held r v v' has is = by has.place
  where
    by : (slice_get held r ≡ Some None) ⊎ (slice_get held r ≡ Some (Some v)) → slice_get (slice_set held r (Some v)) r ≡ Some (Some v')
    by (inl none) = absurd (let e : Some None ≡ Some (Some v') = sym none ∙ is in cc)
    by (inr some) = set_same held r (Some v) (Some v') is ∙ sym some ∙ is

kept_place : (held : Held) (r v k v' : ℕ) → HasPlace held r v → slice_get held k ≡ Some (Some v') → slice_get (slice_set held r (Some v)) k ≡ Some (Some v')
kept_place held r v k v' has is = by (same_or_not k r)
  where
    by : (k ≡ r) ⊎ (k ≢ r) → slice_get (slice_set held r (Some v)) k ≡ Some (Some v')
    by (inl e) = subst (λ j. slice_get (slice_set held r (Some v)) j ≡ Some (Some v')) (sym e) (same_place held r v v' has (subst (λ j. slice_get held j ≡ Some (Some v')) e is))
    by (inr f) = set_other held r k (Some v) f ∙ is

-- the registers still contain what they did, with one more variable
pub holds_less : (held : Held) (r v : ℕ) → HasPlace held r v → (m : Moment) (s : State) → Holds (slice_set held r (Some v)) m s → Holds held m s
holds_less held r v has m s h = record { count = h.count; world = h.world; each = λ k v' is. h.each k v' (kept_place held r v k v' has is) }

set_follows : (c : Comparison) (at mid : ℕ) (held : Held) (r v : ℕ) (number : Moment → ℤ) (rest : Meaning) (result : Option ℕ) → HasPlace held r v
    → Follows c at mid (holding held) (Sets v number) (holding (slice_set held r (Some v)))
    → IfSome result (λ end. Follows c mid end (holding (slice_set held r (Some v))) rest (holding (slice_set held r (Some v))))
    → IfSome result (λ end. Follows c at end (holding held) (Then (Sets v number) rest) (holding held))
set_follows c at mid held r v number rest None has one two = tt
set_follows c at mid held r v number rest (Some end) has one two =
    let after : Held = slice_set held r (Some v) in
    weaker (texts_of c) (code_of c) at end (holding held) (holding held) (holding after) (holding held) (Then (Sets v number) rest) (λ m s p. p) (holds_less held r v has)
    (then_code (texts_of c) (code_of c) at mid end (holding held) (holding after) (holding after) (Sets v number) rest one two)

-- a variable gets a number, and the code after it has its register
pub set_arm : (c : Comparison) (at mid : ℕ) (held held' : Held) (r v : ℕ) (number : Moment → ℤ) (code view rest rest' : Code) (result : Option ℕ) → code ≡ view → rest ≡ rest'
    → ((m m' : Moment) (e : Ending) → Then (Sets v number) (Does (setting_of c) rest') m m' e → Does (setting_of c) view m m' e)
    → held' ≡ slice_set held r (Some v) → HasPlace held r v → Follows c at mid (holding held) (Sets v number) (holding (slice_set held r (Some v)))
    → Goes c mid held' rest result → Goes c at held code result
set_arm c at mid held held' r v number code view rest rest' result e f does g has one two =
    subst (λ x. Goes c at held x result) (sym e) (as_view_law c at held view (Then (Sets v number) (Does (setting_of c) rest')) result does
    (set_follows c at mid held r v number (Does (setting_of c) rest') result has one
    (subst (λ x. Goes c mid x rest' result) g (subst (λ x. Goes c mid held' x result) f two))))
