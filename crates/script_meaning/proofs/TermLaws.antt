-- The values of terms: terms keep their values when others are added.
use Rattle.std.proofs.Common.{◌≡◌, ℕ, zero, suc, ◌+◌, ◌<◌, ℤ, pos, List, [], ◌∷◌, ◌++◌, length, take, drop, slice_get, slice_index_or, refl, sym, ◌∙◌, ap, subst, arith, append_assoc, length-append, length-take}
use Rattle.std.proofs.lemmas.Option.{slice_get_within, get_or_from_slice_get}
use Rattle.std.specs.Prelude.{Option, Some, None, IfSome, Bool, true, false, not, ◌&&◌, ◌||◌}
use Rattle.std.specs.Int.{w64, int_wrapping_add, int_wrapping_mul}
use Rattle.client_spec.specs.Value.{same_int}
use Rattle.client_spec.specs.Effect.{truth}
use Rattle.script_meaning.specs.declared.terms.Computation.{Computation}
use Rattle.script_meaning.specs.declared.terms.Computation.TheVariants as computation
use Rattle.script_meaning.specs.declared.program.Operator.TheVariants as operator
use Rattle.script_meaning.specs.declared.terms.Term.{Term}
use Rattle.script_meaning.specs.declared.terms.Term.TheVariants as term
use Rattle.script_meaning.specs.Meaning.{Moment, Setting, combined, or_else, number_of}
use Rattle.script_meaning.specs.Following.{operator_of, term_value, values_after, values_of, HasValue, Extends}

-- ---- terms that are added

pub extends_same : (a : List Term) → Extends a a
extends_same a = ([], sym (append_nil a))
  where
    append_nil : (ts : List Term) → ts ++ [] ≡ ts
    append_nil [] = refl
    append_nil (t ∷ ts) = ap (λ us. t ∷ us) (append_nil ts)

pub extends_trans : (a b c : List Term) → Extends a b → Extends b c → Extends a c
extends_trans a b c (more, is) (further, then) = (more ++ further, then ∙ ap (λ ts. ts ++ further) is ∙ append_assoc a more further)

-- ---- positions in lists

get_front : {X : Type 0} (xs ys : List X) (i : ℕ) → i < length xs → slice_get (xs ++ ys) i ≡ slice_get xs i
get_front [] ys i h = absurd (omega arith)
get_front (x ∷ xs) ys zero h = refl
get_front (x ∷ xs) ys (suc i) h = get_front xs ys i (omega arith)

get_seam : {X : Type 0} (xs : List X) (y : X) (ys : List X) → slice_get (xs ++ y ∷ ys) (length xs) ≡ Some y
get_seam [] y ys = refl
get_seam (x ∷ xs) y ys = get_seam xs y ys

cut_at : {X : Type 0} (xs : List X) (i : ℕ) (x : X) → slice_get xs i ≡ Some x → xs ≡ take i xs ++ x ∷ drop (suc i) xs
cut_at [] i x e = cc
cut_at (y ∷ ys) zero x e = let same : y ≡ x = cc in ap (λ z. z ∷ ys) same
cut_at (y ∷ ys) (suc i) x e = ap (λ zs. y ∷ zs) (cut_at ys i x e)

-- an element that was added at the end is there
pub pushed : {X : Type 0} (old new : List X) (x : X) (i : ℕ) → new ≡ old ++ x ∷ [] → i ≡ length old → slice_get new i ≡ Some x
pushed old new x i is end = ap (λ xs. slice_get xs i) is ∙ subst (λ j. slice_get (old ++ x ∷ []) j ≡ Some x) (sym end) (get_seam old x [])

module _ (setting : Setting) (m : Moment) where
  -- the numbers that are there stay
  after_keeps : (earlier : List ℤ) (ts : List Term) (i : ℕ) → i < length earlier → slice_get (values_after setting m earlier ts) i ≡ slice_get earlier i
  unfolding values_after
  after_keeps earlier [] i h = refl
  after_keeps earlier (t ∷ ts) i h =
      after_keeps (earlier ++ term_value setting m earlier t ∷ []) ts i (omega (arith, length-append earlier (term_value setting m earlier t ∷ [])))
      ∙ get_front earlier (term_value setting m earlier t ∷ []) i h

  after_append : (earlier : List ℤ) (old more : List Term) → values_after setting m earlier (old ++ more) ≡ values_after setting m (values_after setting m earlier old) more
  unfolding values_after
  after_append earlier [] more = refl
  after_append earlier (t ∷ ts) more = after_append (earlier ++ term_value setting m earlier t ∷ []) ts more

  after_length : (earlier : List ℤ) (ts : List Term) → length (values_after setting m earlier ts) ≡ length earlier + length ts
  unfolding values_after
  after_length earlier [] = omega arith
  after_length earlier (t ∷ ts) =
      omega (arith, after_length (earlier ++ term_value setting m earlier t ∷ []) ts, length-append earlier (term_value setting m earlier t ∷ []))

  -- there are as many values as terms
  pub values_length : (terms : List Term) → length (values_of setting m terms) ≡ length terms
  values_length terms = omega (arith, after_length [] terms)

  -- a term has one value
  pub one_value : (terms : List Term) (at : ℕ) (x y : ℤ) → HasValue setting m terms at x → HasValue setting m terms at y → x ≡ y
  one_value terms at x y e f = cc

  -- a term that has a value is there
  pub value_within : (terms : List Term) (at : ℕ) (k : ℤ) → HasValue setting m terms at k → at < length terms
  value_within terms at k e = omega (arith, values_length terms, slice_get_within (values_of setting m terms) at k e)

-- terms keep their values
pub extends_keeps : (setting : Setting) (m : Moment) (old new : List Term) (at : ℕ) (k : ℤ) → Extends old new → HasValue setting m old at k → HasValue setting m new at k
extends_keeps setting m old new at k (more, is) e =
    ap (λ ts. slice_get (values_of setting m ts) at) is ∙ ap (λ ks. slice_get ks at) (after_append setting m [] old more)
    ∙ after_keeps setting m (values_of setting m old) more at (slice_get_within (values_of setting m old) at k e) ∙ e

-- ---- the value of each term

module _ (setting : Setting) (m : Moment) (terms : List Term) (at : ℕ) where
  -- the numbers of the terms before it
  before : List ℤ
  before = values_of setting m (take at terms)

  values_are : (t : Term) → slice_get terms at ≡ Some t
      → values_of setting m terms ≡ values_after setting m (before ++ term_value setting m before t ∷ []) (drop (suc at) terms)
  unfolding values_after before
  values_are t there = ap (values_of setting m) (cut_at terms at t there) ∙ after_append setting m [] (take at terms) (t ∷ drop (suc at) terms)

  before_length : (t : Term) → slice_get terms at ≡ Some t → length before ≡ at
  unfolding before
  before_length t there =
      let within = slice_get_within terms at t there in
      omega (arith, within, values_length setting m (take at terms), length-take at terms)

  -- a term has the value that follows from those before it
  value_is : (t : Term) → slice_get terms at ≡ Some t → HasValue setting m terms at (term_value setting m before t)
  value_is t there =
      let size = before_length t there in
      let here : at < length (before ++ term_value setting m before t ∷ []) = omega (arith, size, length-append before (term_value setting m before t ∷ [])) in
      ap (λ ks. slice_get ks at) (values_are t there)
      ∙ after_keeps setting m (before ++ term_value setting m before t ∷ []) (drop (suc at) terms) at here
      ∙ subst (λ i. slice_get (before ++ term_value setting m before t ∷ []) i ≡ Some (term_value setting m before t)) size (get_seam before (term_value setting m before t) [])

  before_is : (t : Term) → slice_get terms at ≡ Some t → (i : ℕ) (k : ℤ) → i < at → HasValue setting m terms i k → slice_index_or before i (pos 0) ≡ k
  before_is t there i k below e =
      let size = before_length t there in
      let here : i < length (before ++ term_value setting m before t ∷ []) = omega (arith, size, below, length-append before (term_value setting m before t ∷ [])) in
      let kept : slice_get (values_of setting m terms) i ≡ slice_get before i
      = ap (λ ks. slice_get ks i) (values_are t there)
      ∙ after_keeps setting m (before ++ term_value setting m before t ∷ []) (drop (suc at) terms) i here
      ∙ get_front before (term_value setting m before t ∷ []) i (omega (arith, size, below)) in
      get_or_from_slice_get before i k (pos 0) (sym kept ∙ e)

  pub literal_value : (k : ℤ) → slice_get terms at ≡ Some (term.Literal k) → HasValue setting m terms at k
  literal_value k there = value_is (term.Literal k) there

  pub variable_value : (v : ℕ) → slice_get terms at ≡ Some (term.Variable v) → HasValue setting m terms at (m.variables v)
  variable_value v there = value_is (term.Variable v) there

  pub computed_value : (c : Computation) (i j : ℕ) (x y : ℤ) → slice_get terms at ≡ Some (term.Computed c i j) → i < at → j < at
      → HasValue setting m terms i x → HasValue setting m terms j y → HasValue setting m terms at (combined (operator_of c) x y)
  computed_value c i j x y there below under left right =
      let first = before_is (term.Computed c i j) there i x below left in
      let second = before_is (term.Computed c i j) there j y under right in
      subst (λ k. HasValue setting m terms at (combined (operator_of c) k y)) first
      (subst (λ k. HasValue setting m terms at (combined (operator_of c) (slice_index_or before i (pos 0)) k)) second
      (value_is (term.Computed c i j) there))

  pub object_value : (x i : ℕ) (d : ℤ) → slice_get terms at ≡ Some (term.ObjectOr x i) → i < at
      → HasValue setting m terms i d → HasValue setting m terms at (or_else (number_of setting m.world x) d)
  object_value x i d there below default =
      subst (λ k. HasValue setting m terms at (or_else (number_of setting m.world x) k)) (before_is (term.ObjectOr x i) there i d below default)
      (value_is (term.ObjectOr x i) there)

-- a literal's number
pub literal_is : (setting : Setting) (m : Moment) (terms : List Term) (at : ℕ) (k x : ℤ) → slice_get terms at ≡ Some (term.Literal k)
    → HasValue setting m terms at x → k ≡ x
literal_is setting m terms at k x there e = one_value setting m terms at k x (literal_value setting m terms at k there) e

-- ---- what may be there

-- what is true of all that there may be, is true of what there is
pub if_some : {A : Type 0} (P Q : A → Type 0) (o : Option A) → ((a : A) → P a → Q a) → IfSome o P → IfSome o Q
if_some P Q None each h = tt
if_some P Q (Some a) each h = each a h

-- ---- operators, as the compiler writes them

and_is : (a b : Bool) → truth (same_int (int_wrapping_add w64 (truth a) (truth b)) (pos 0)) ≡ truth (not a && not b)
and_is true true = refl
and_is true false = refl
and_is false true = refl
and_is false false = refl

or_is : (a b : Bool) → truth (same_int (int_wrapping_mul w64 (truth a) (truth b)) (pos 0)) ≡ truth (not a || not b)
or_is true true = refl
or_is true false = refl
or_is false true = refl
or_is false false = refl

pub both_law : (x y : ℤ) → truth (same_int (combined (operator_of computation.Add) (truth (same_int x (pos 0))) (truth (same_int y (pos 0)))) (pos 0)) ≡ combined operator.And x y
both_law x y = and_is (same_int x (pos 0)) (same_int y (pos 0))

pub either_law : (x y : ℤ) → truth (same_int (combined (operator_of computation.Multiply) (truth (same_int x (pos 0))) (truth (same_int y (pos 0)))) (pos 0)) ≡ combined operator.Or x y
either_law x y = or_is (same_int x (pos 0)) (same_int y (pos 0))
