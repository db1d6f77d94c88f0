-- Each row keeps the types, and only appends to the output. It keeps each named and each unique
-- object, except for the one that KILL or UKILL destroys.
use Rattle.std.proofs.Common.{◌≡◌, ◌⊎◌, inl, inr, ℕ, List, [], ◌∷◌, ◌++◌, Bool, true, false, Option, Some, None, refl, sym, ap, ◌∙◌, subst}
use Rattle.std.specs.Prelude.{ℤ, if◌then◌else◌, length, slice_index, slice_get, nat_abs}
use Rattle.std.specs.Option.{option_map_or}
use Rattle.std.proofs.lemmas.List.{append_assoc, append-nil}
use Rattle.seg_spec.specs.Value.{Value, Values, nil, cons, count, Selector}
use Rattle.client_spec.specs.declared.table.Operation.{Operation}
use Rattle.client_spec.specs.Syntax.{Constant}
use Rattle.client_spec.specs.Machine.{◌>>=◌, Origin, Path, extend, Register, Object, State, with_name, with_unique, register, set_register, owned_by, at_origin, put_origin, put_at}
use Rattle.client_spec.specs.Answer.{Answer, success, out_of_range, Outcome, answer, integer_at, give, fail, refer, give_count, index_below, text_in, items_in, provided, with_room, write_out, constant_operand, constant_name}
use Rattle.client_spec.proofs.TypedStates.StateLaws.{name_at, unique_at}
use Rattle.client_spec.proofs.TypedStates.ValueLaws.{Some_inj}
use Rattle.client_spec.specs.Safe.{Writes}
use Rattle.client_spec.specs.Effect.{combine, next_byte, add_object, item_of_object, find_or_add, count_of_object, destroy_object, add_unique, item_of_value, pop_bytes, pop_last, pop_first, set_text, first_key, take_content, see_content}

pub alike : (s s' : State) → s'.types ≡ s.types → s'.output ≡ s.output → Writes s s'
alike s s' e f = record { types = e; more = []; output = f ∙ sym (append-nil s.output) }

pub still : (s : State) → Writes s s
still s = alike s s refl refl

pub onward : (s t u : State) → Writes s t → Writes t u → Writes s u
onward s t u f g = record { types = g.types ∙ f.types; more = f.more ++ g.more; output = g.output ∙ ap (λ xs. xs ++ g.more) f.output ∙ append_assoc s.output f.more g.more }

pub set_follows : (s s' : State) (a : ℕ) (x : Register) → Writes s s' → Writes s (set_register s' a x)
set_follows s s' a x h = record { types = h.types; more = h.more; output = h.output }

-- ---- outcomes

-- the origin of the object that an instruction destroys
abbrev pub Destroyed : List Constant → Operation → ℕ → ℤ → State → Origin → Type 0
Destroyed constants Operation.Kill b number s o = (name : List ℕ) × ((slice_get constants (constant_operand number) >>= λ k. constant_name k (register s b)) ≡ Some name) × (o ≡ Origin.Name name 0)
Destroyed constants Operation.KillUnique b number s o = o ≡ Origin.Unique (nat_abs number)
Destroyed constants operation b number s o = ⊥

-- what a row keeps: each named and each unique object is still there, unless its origin is `gone`
pub record RowFrame (gone : Origin → Type 0) (s s' : State) : Type 0 where
  pub writes : Writes s s'
  pub names : (name : List ℕ) (x : Object) → s.names name ≡ Some x → gone (Origin.Name name 0) ⊎ ((y : Object) × (s'.names name ≡ Some y))
  pub uniques : (T : ℕ) (v : Value) → s.uniques T ≡ Some v → gone (Origin.Unique T) ⊎ ((w : Value) × (s'.uniques T ≡ Some w))

pub record Fine (gone : Origin → Type 0) (s : State) (o : Outcome) : Type 0 where
  pub each : (code : Answer) (s' : State) → o ≡ Some (code, s') → RowFrame gone s s'

module _ {gone : Origin → Type 0} {s : State} where
  -- the objects are the same
  pub framed : (s' : State) → Writes s s' → s'.names ≡ s.names → s'.uniques ≡ s.uniques → RowFrame gone s s'
  framed s' w names uniques = record { writes = w; names = λ name x e. inr (x, ap (λ f. f name) names ∙ e); uniques = λ T v e. inr (v, ap (λ f. f T) uniques ∙ e) }

  pub same : (s' : State) → s'.types ≡ s.types → s'.output ≡ s.output → s'.names ≡ s.names → s'.uniques ≡ s.uniques → RowFrame gone s s'
  same s' types output names uniques = framed s' (alike s s' types output) names uniques

  pub nothing : RowFrame gone s s
  nothing = framed s (still s) refl refl

  pub sets : (s' : State) (a : ℕ) (x : Register) → RowFrame gone s s' → RowFrame gone s (set_register s' a x)
  sets s' a x h = record { writes = set_follows s s' a x h.writes; names = h.names; uniques = h.uniques }

  -- a name gets an object, or another one
  pub names : (name : List ℕ) (x : Object) → RowFrame gone s (record s { names = with_name s.names name (Some x) })
  names name x = record {
    writes = alike s _ refl refl;
    names = λ m y e. elim (name_at s.names name (Some x) m) [ inl p ↦ inr (x, p.1) | inr p ↦ inr (y, p ∙ e) ];
    uniques = λ T v e. inr (v, e);
  }

  pub uniques : (t : ℕ) (v : Value) → RowFrame gone s (record s { uniques = with_unique s.uniques t (Some v) })
  uniques t v = record {
    writes = alike s _ refl refl;
    names = λ m y e. inr (y, e);
    uniques = λ T w e. elim (unique_at s.uniques t (Some v) T) [ inl p ↦ inr (v, p.1) | inr p ↦ inr (w, p ∙ e) ];
  }

  -- an object is destroyed
  name_goes : (name : List ℕ) → gone (Origin.Name name 0) → RowFrame gone s (record s { names = with_name s.names name None })
  name_goes name g = record {
    writes = alike s _ refl refl;
    names = λ m y e. elim (name_at s.names name None m) [ inl p ↦ inl (subst (λ n. gone (Origin.Name n 0)) p.0 g) | inr p ↦ inr (y, p ∙ e) ];
    uniques = λ T v e. inr (v, e);
  }

  pub unique_goes : (t : ℕ) → gone (Origin.Unique t) → RowFrame gone s (record s { uniques = with_unique s.uniques t None })
  unique_goes t g = record {
    writes = alike s _ refl refl;
    names = λ m y e. inr (y, e);
    uniques = λ T w e. elim (unique_at s.uniques t None T) [ inl p ↦ inl (subst (λ n. gone (Origin.Unique n)) p.0 g) | inr p ↦ inr (w, p ∙ e) ];
  }

  chosen : {A : Type 0} (f : A → State) (o : Option A) (d : State) → ((x : A) → RowFrame gone s (f x)) → RowFrame gone s d → RowFrame gone s (option_map_or f o d)
  chosen f None d h g = g
  chosen f (Some x) d h g = h x

  origin_follows : (r : Origin) (v : Value) → RowFrame gone s (put_origin s r v)
  origin_follows (Origin.Name name i) v = chosen _ (s.names name) s (λ o. names name _) nothing
  origin_follows (Origin.Unique t) v = uniques t v
  origin_follows (Origin.Owned r) v = same _ refl refl refl refl

  pub put_follows : (p : Path) (v : Value) → RowFrame gone s (put_at s p v)
  put_follows p v = chosen _ (at_origin s p.origin) s (λ found. origin_follows p.origin _) nothing

  -- ---- outcomes

  pub none : Fine gone s None
  none = record { each = λ code s' e. absurd (let f : None ≡ Some (code, s') = e in cc) }

  pub some : (code : Answer) (s' : State) → RowFrame gone s s' → Fine gone s (Some (code, s'))
  some code s' h = record { each = λ code' t e. subst (RowFrame gone s) (ap (λ (p : Answer × State). p.1) (Some_inj e)) h }

  -- the rest of a row may use what was found
  pub bound_as : {A : Type 0} (o : Option A) (f : A → Outcome) → ((x : A) → o ≡ Some x → Fine gone s (f x)) → Fine gone s (o >>= f)
  bound_as None f h = none
  bound_as (Some x) f h = h x refl

  pub bound : {A : Type 0} (o : Option A) (f : A → Outcome) → ((x : A) → Fine gone s (f x)) → Fine gone s (o >>= f)
  bound o f h = bound_as o f (λ x e. h x)

  pub either : {A : Type 0} (f : A → Outcome) (o : Option A) (d : Outcome) → ((x : A) → Fine gone s (f x)) → Fine gone s d → Fine gone s (option_map_or f o d)
  either f None d h g = g
  either f (Some x) d h g = h x

  pub tested : (b : Bool) (x y : Outcome) → Fine gone s x → Fine gone s y → Fine gone s (if b then x else y)
  tested true x y f g = f
  tested false x y f g = g

  pub shown : (b : Bool) (o : Outcome) → Fine gone s o → Fine gone s (provided b o)
  shown true o f = f
  shown false o f = none

  pub answered : (code : Answer) (a : ℕ) (x : Register) (s' : State) → RowFrame gone s s' → Fine gone s (answer code a x s')
  answered code a x s' h = either (λ _. None) (owned_by (register s' a)) (Some (code, set_register s' a x)) (λ _. none) (some code _ (sets s' a x h))

  -- a row may set register a, and change nothing else
  pub given : (code : Answer) (a : ℕ) (x : Register) → Fine gone s (answer code a x s)
  given code a x = answered code a x s nothing

  -- a row may also put a value
  pub given_put : (a : ℕ) (x : Register) (p : Path) (v : Value) → Fine gone s (answer success a x (put_at s p v))
  given_put a x p v = answered success a x (put_at s p v) (put_follows p v)

  pub roomy : (b : Bool) (a : ℕ) (o : Outcome) → Fine gone s o → Fine gone s (with_room b a s o)
  roomy true a o f = f
  roomy false a o f = given _ a _

  pub writes : (bytes : List ℕ) → Fine gone s (write_out bytes s)
  writes bytes = some success _ (framed _ (record { types = refl; more = bytes; output = refl }) refl refl)

  pub put_some : (p : Path) (v : Value) → Fine gone s (Some (success, put_at s p v))
  put_some p v = some success _ (put_follows p v)

  -- ---- parts of rows

  pub combines : (f : ℤ → ℤ → ℤ) (a b c : ℕ) → Fine gone s (combine f a b c s)
  combines f a b c =
      bound (integer_at s b) (λ x. integer_at s c >>= λ y. give a (Register.Int (f x y)) s) (λ x. bound (integer_at s c) (λ y. give a (Register.Int (f x y)) s) (λ y. given success a (Register.Int (f x y))))

  pub next : (a : ℕ) (input : List ℕ) → Fine gone s (next_byte a input s)
  next a [] = given _ a _
  next a (byte ∷ rest) = answered success a _ (record s { input = rest }) (same _ refl refl refl refl)

  pub adds : (a : ℕ) (name : List ℕ) (t : ℕ) (o : Option Object) (n : ℕ) (room : Bool) → Fine gone s (add_object a name t o n room s)
  adds a name t (Some o) n room = given _ a _
  adds a name t None n room = roomy room a _ (answered success a _ _ (names name _))

  pub item : (a : ℕ) (name : List ℕ) (t : ℕ) (x : ℤ) (o : Option Object) → Fine gone s (item_of_object a name t x o s)
  item a name t x None = given _ a _
  item a name t x (Some o) = tested _ _ _ (either _ _ _ (λ i. given success a _) (given _ a _)) (given _ a _)

  pub finds : (a : ℕ) (name : List ℕ) (t : ℕ) (o : Option Object) (room : Bool) → Fine gone s (find_or_add a name t o room s)
  finds a name t None room = adds a name t None 1 room
  finds a name t (Some o) room = tested _ _ _ (given success a _) (given _ a _)

  pub counts : (a t : ℕ) (o : Option Object) → Fine gone s (count_of_object a t o s)
  counts a t None = given _ a _
  counts a t (Some o) = tested _ _ _ (given success a _) (given _ a _)

  pub destroys : (a : ℕ) (name : List ℕ) (t : ℕ) (o : Option Object) → gone (Origin.Name name 0) → Fine gone s (destroy_object a name t o s)
  destroys a name t None g = given success a _
  destroys a name t (Some o) g = tested _ _ _ (answered success a _ _ (name_goes name g)) (given success a _)

  pub unique : (a t : ℕ) (room : Bool) → Fine gone s (add_unique a t room s)
  unique a t room = roomy room a _ (answered success a _ _ (uniques t _))

  pub value_item : (a : ℕ) (p : Path) (x : ℤ) (v : Value) → Fine gone s (item_of_value a p x v s)
  value_item a p x v =
      let byte = λ (bytes : List ℕ). option_map_or (λ i. give_count a (slice_index bytes i) s) (index_below (length bytes) x) (fail a out_of_range s) in
      let item_of = λ (vs : Values). option_map_or (λ i. refer a (extend p (Selector.item i)) s) (index_below (count vs) x) (fail a out_of_range s) in
      either byte (text_in v) (items_in v >>= item_of)
      (λ bytes. either (λ i. give_count a (slice_index bytes i) s) (index_below (length bytes) x) (fail a out_of_range s) (λ i. given success a _) (given _ a _))
      (bound (items_in v) item_of (λ vs. either (λ i. refer a (extend p (Selector.item i)) s) (index_below (count vs) x) (fail a out_of_range s) (λ i. given success a _) (given _ a _)))

  pub bytes_pop : (a : ℕ) (p : Path) (bytes : List ℕ) → Fine gone s (pop_bytes a p bytes s)
  bytes_pop a p [] = given _ a _
  bytes_pop a p (x ∷ xs) = given_put a _ p _

  pub last_pop : (a : ℕ) (p : Path) (vs : Values) → Fine gone s (pop_last a p vs s)
  last_pop a p nil = given _ a _
  last_pop a p (cons v vs) = given_put a _ p _

  pub first_pop : (a : ℕ) (p : Path) (vs : Values) → Fine gone s (pop_first a p vs s)
  first_pop a p nil = given _ a _
  first_pop a p (cons v vs) = given_put a _ p _

  pub text : (a : ℕ) (p : Path) (bytes : List ℕ) (room : Bool) → Fine gone s (set_text a p bytes room s)
  text a p bytes room = roomy room a _ (given_put a _ p _)

  pub key : (a : ℕ) (keys : List ℤ) → Fine gone s (first_key a keys s)
  key a [] = given _ a _
  key a (k ∷ ks) = given success a _

  pub takes : (a : ℕ) (p : Path) (t : ℕ) (o : Option Value) → Fine gone s (take_content a p t o s)
  takes a p t None = given _ a _
  takes a p t (Some v) = given_put a _ p _

  pub sees : (a : ℕ) (p : Path) (o : Option Value) → Fine gone s (see_content a p o s)
  sees a p None = given _ a _
  sees a p (Some v) = given success a _
