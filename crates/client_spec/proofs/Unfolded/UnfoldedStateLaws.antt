-- A state with copies in place of shared cells: what its lookups find, and how it changes.
use Rattle.std.proofs.Common.{◌≡◌, ℕ, zero, suc, ℤ, List, [], ◌∷◌, map, Bool, true, false, Option, Some, None, refl, sym, ◌∙◌, ap}
use Rattle.std.specs.Prelude.{option_map, slice_set, slice_index_or, ◌==◌, if◌then◌else◌}
use Rattle.std.specs.Option.{option_map_or}
use Rattle.seg_spec.specs.Types.{Table, form_at}
use Rattle.seg_spec.specs.Value.{Value, Values, nth, change_nth, Selector}
use Rattle.seg_spec.specs.Value as values
use Rattle.seg_spec.specs.Index.{same_name}
use Rattle.seg_spec.specs.Shared.{replaced}
use Rattle.client_spec.specs.Syntax.{Constant}
use Rattle.client_spec.specs.Machine.{◌>>=◌, Origin, Path, Register, Object, with_name, with_unique, State, register, set_register, owned_by, at_origin, type_along, path_value, path_type, with_owned, replace_item, put_origin, put_at}
use Rattle.client_spec.specs.Answer.{integer_in, path_in, integer_at, path_of, path_form, constant_name, integer_or}
use Rattle.client_spec.specs.Trees.{unfolded_object, unfolded_register, unfolded_state, Unfolds}
use Rattle.client_spec.proofs.Unfolded.UnfoldedValueLaws.{nth_replaced, change_replaced, value_at_replaced, with_value_replaced}

module _ (m : ℕ → Value) where
  -- that state is the unfolded one
  pub unfolds_is : (plain s : State) → Unfolds m plain s → s ≡ unfolded_state m plain
  unfolds_is plain s h = λ i. record {
    types = h.types i;
    names = λ name. h.names name i;
    uniques = λ T. h.uniques T i;
    registers = h.registers i;
    input = h.input i;
    output = h.output i;
  }

  pub is_unfolds : (plain s : State) → s ≡ unfolded_state m plain → Unfolds m plain s
  is_unfolds plain s e = record {
    types = ap (λ (z : State). z.types) e;
    names = λ name. ap (λ (z : State). z.names name) e;
    uniques = λ T. ap (λ (z : State). z.uniques T) e;
    registers = ap (λ (z : State). z.registers) e;
    input = ap (λ (z : State). z.input) e;
    output = ap (λ (z : State). z.output) e;
  }

  -- ---- registers

  register_found : (xs : List Register) (r : ℕ) → slice_index_or (map (unfolded_register m) xs) r Register.Undefined ≡ unfolded_register m (slice_index_or xs r Register.Undefined)
  register_found [] r = refl
  register_found (x ∷ xs) zero = refl
  register_found (x ∷ xs) (suc r) = register_found xs r

  pub register_same : (s : State) (r : ℕ) → register (unfolded_state m s) r ≡ unfolded_register m (register s r)
  register_same s r = register_found s.registers r

  registers_set : (xs : List Register) (r : ℕ) (x : Register) → map (unfolded_register m) (slice_set xs r x) ≡ slice_set (map (unfolded_register m) xs) r (unfolded_register m x)
  registers_set [] r x = refl
  registers_set (y ∷ ys) zero x = refl
  registers_set (y ∷ ys) (suc r) x = ap (λ zs. unfolded_register m y ∷ zs) (registers_set ys r x)

  pub set_register_same : (s : State) (r : ℕ) (x : Register) → unfolded_state m (set_register s r x) ≡ set_register (unfolded_state m s) r (unfolded_register m x)
  set_register_same s r x = ap (λ xs. record (unfolded_state m s) { registers = xs }) (registers_set s.registers r x)

  -- an owned value, unfolded
  abbrev pub unfolded_owned : Value × ℕ → Value × ℕ
  unfolded_owned p = (replaced m p.0, p.1)

  owned_unfolded : (x : Register) → owned_by (unfolded_register m x) ≡ option_map unfolded_owned (owned_by x)
  owned_unfolded Register.Undefined = refl
  owned_unfolded (Register.Int k) = refl
  owned_unfolded (Register.Reference p) = refl
  owned_unfolded (Register.Owner v t) = refl

  pub owned_same : (s : State) (r : ℕ) → owned_by (register (unfolded_state m s) r) ≡ option_map unfolded_owned (owned_by (register s r))
  owned_same s r = ap owned_by (register_same s r) ∙ owned_unfolded (register s r)

  pub integer_unfolded : (x : Register) → integer_in (unfolded_register m x) ≡ integer_in x
  integer_unfolded Register.Undefined = refl
  integer_unfolded (Register.Int k) = refl
  integer_unfolded (Register.Reference p) = refl
  integer_unfolded (Register.Owner v t) = refl

  pub integer_same : (s : State) (r : ℕ) → integer_at (unfolded_state m s) r ≡ integer_at s r
  integer_same s r = ap integer_in (register_same s r) ∙ integer_unfolded (register s r)

  pub integer_or_same : (d : ℤ) (r : ℕ) (s : State) → integer_or d r (unfolded_state m s) ≡ integer_or d r s
  integer_or_same d r s = ap (λ o. if r == 16 then Some d else o) (integer_same s r)

  path_unfolded : (x : Register) → path_in (unfolded_register m x) ≡ path_in x
  path_unfolded Register.Undefined = refl
  path_unfolded (Register.Int k) = refl
  path_unfolded (Register.Reference p) = refl
  path_unfolded (Register.Owner v t) = refl

  pub path_same : (s : State) (r : ℕ) → path_of (unfolded_state m s) r ≡ path_of s r
  path_same s r = ap path_in (register_same s r) ∙ path_unfolded (register s r)

  spelled : (k : Constant) (x y : Register) → integer_in x ≡ integer_in y → constant_name k x ≡ constant_name k y
  spelled (Constant.Text bytes) x y e = refl
  spelled (Constant.Name name) x y e = refl
  spelled (Constant.Family prefix) x y e = ap (λ o. o >>= λ k. constant_name (Constant.Family prefix) (Register.Int k)) e

  pub name_same : (s : State) (r : ℕ) (o : Option Constant) → (o >>= λ k. constant_name k (register (unfolded_state m s) r)) ≡ (o >>= λ k. constant_name k (register s r))
  name_same s r None = refl
  name_same s r (Some k) = spelled k (register (unfolded_state m s) r) (register s r) (integer_same s r)

  -- ---- names and unique objects

  chosen : {A B : Type 0} (f : A → B) (b : Bool) (x y : Option A) → option_map f (if b then x else y) ≡ (if b then option_map f x else option_map f y)
  chosen f true x y = refl
  chosen f false x y = refl

  pub with_name_same : (s : State) (name : List ℕ) (o : Option Object)
      → unfolded_state m (record s { names = with_name s.names name o }) ≡ record (unfolded_state m s) { names = with_name (unfolded_state m s).names name (option_map (unfolded_object m) o) }
  with_name_same s name o = λ i. record (unfolded_state m s) { names = λ n. chosen (unfolded_object m) (same_name n name) o (s.names n) i }

  pub with_unique_same : (s : State) (T : ℕ) (o : Option Value)
      → unfolded_state m (record s { uniques = with_unique s.uniques T o }) ≡ record (unfolded_state m s) { uniques = with_unique (unfolded_state m s).uniques T (option_map (replaced m) o) }
  with_unique_same s T o = λ i. record (unfolded_state m s) { uniques = λ U. chosen (replaced m) (U == T) o (s.uniques U) i }

  -- ---- values at paths

  item_found : (o : Object) (i : ℕ) (x : Option Value) → (option_map (replaced m) x >>= λ v. Some (v, o.type)) ≡ option_map unfolded_owned (x >>= λ v. Some (v, o.type))
  item_found o i None = refl
  item_found o i (Some v) = refl

  named_found : (o : Option Object) (i : ℕ) → (option_map (unfolded_object m) o >>= λ (o : Object). nth o.values i >>= λ v. Some (v, o.type))
      ≡ option_map unfolded_owned (o >>= λ (o : Object). nth o.values i >>= λ v. Some (v, o.type))
  named_found None i = refl
  named_found (Some o) i = ap (λ x. x >>= λ v. Some (v, o.type)) (nth_replaced m o.values i) ∙ item_found o i (nth o.values i)

  unique_found : (o : Option Value) (t : ℕ) → (option_map (replaced m) o >>= λ v. Some (v, t)) ≡ option_map unfolded_owned (o >>= λ v. Some (v, t))
  unique_found None t = refl
  unique_found (Some v) t = refl

  pub origin_same : (s : State) (q : Origin) → at_origin (unfolded_state m s) q ≡ option_map unfolded_owned (at_origin s q)
  origin_same s (Origin.Name name i) = named_found (s.names name) i
  origin_same s (Origin.Unique t) = unique_found (s.uniques t) t
  origin_same s (Origin.Owned r) = owned_same s r

  value_led : (path : List Selector) (o : Option (Value × ℕ)) (u : Value) → (o >>= λ found. values.value_at found.0 path) ≡ Some u
      → (option_map unfolded_owned o >>= λ found. values.value_at found.0 path) ≡ Some (replaced m u)
  value_led path None u e = cc
  value_led path (Some found) u e = value_at_replaced m path found.0 u e

  pub value_same : (s : State) (p : Path) (u : Value) → path_value s p ≡ Some u → path_value (unfolded_state m s) p ≡ Some (replaced m u)
  value_same s p u e = ap (λ o. o >>= λ (found : Value × ℕ). values.value_at found.0 p.selectors) (origin_same s p.origin) ∙ value_led p.selectors (at_origin s p.origin) u e

  type_led : (types : Table) (path : List Selector) (o : Option (Value × ℕ)) → (option_map unfolded_owned o >>= λ found. type_along types path found.1) ≡ (o >>= λ found. type_along types path found.1)
  type_led types path None = refl
  type_led types path (Some found) = refl

  pub type_same : (s : State) (p : Path) → path_type (unfolded_state m s) p ≡ path_type s p
  type_same s p = ap (λ o. o >>= λ (found : Value × ℕ). type_along s.types p.selectors found.1) (origin_same s p.origin) ∙ type_led s.types p.selectors (at_origin s p.origin)

  pub form_same : (s : State) (p : Path) → path_form (unfolded_state m s) p ≡ path_form s p
  form_same s p = ap (λ o. o >>= form_at s.types) (type_same s p)

  -- ---- puts

  named_put : (s : State) (name : List ℕ) (i : ℕ) (v : Value) (o : Option Object)
      → unfolded_state m (option_map_or (λ o. record s { names = with_name s.names name (Some (replace_item i v o)) }) o s)
      ≡ option_map_or (λ o. record (unfolded_state m s) { names = with_name (unfolded_state m s).names name (Some (replace_item i (replaced m v) o)) }) (option_map (unfolded_object m) o) (unfolded_state m s)
  named_put s name i v None = refl
  named_put s name i v (Some o) =
      with_name_same s name (Some (replace_item i v o))
      ∙ ap (λ vs. record (unfolded_state m s) { names = with_name (unfolded_state m s).names name (Some (record { type = o.type; values = vs })) }) (change_replaced m (Some i) v o.values)

  owned_put : (v : Value) (x : Register) → unfolded_register m (with_owned v x) ≡ with_owned (replaced m v) (unfolded_register m x)
  owned_put v Register.Undefined = refl
  owned_put v (Register.Int k) = refl
  owned_put v (Register.Reference p) = refl
  owned_put v (Register.Owner w t) = refl

  pub put_origin_same : (s : State) (q : Origin) (v : Value) → unfolded_state m (put_origin s q v) ≡ put_origin (unfolded_state m s) q (replaced m v)
  put_origin_same s (Origin.Name name i) v = named_put s name i v (s.names name)
  put_origin_same s (Origin.Unique t) v = with_unique_same s t (Some v)
  put_origin_same s (Origin.Owned r) v =
      set_register_same s r (with_owned v (register s r))
      ∙ ap (set_register (unfolded_state m s) r) (owned_put v (register s r) ∙ ap (with_owned (replaced m v)) (sym (register_same s r)))

  put_led : (s : State) (p : Path) (v : Value) (o : Option (Value × ℕ)) (u : Value) → (o >>= λ found. values.value_at found.0 p.selectors) ≡ Some u
      → unfolded_state m (option_map_or (λ found. put_origin s p.origin (values.with_value_at p.selectors v found.0)) o s)
      ≡ option_map_or (λ found. put_origin (unfolded_state m s) p.origin (values.with_value_at p.selectors (replaced m v) found.0)) (option_map unfolded_owned o) (unfolded_state m s)
  put_led s p v None u e = cc
  put_led s p v (Some found) u e =
      put_origin_same s p.origin (values.with_value_at p.selectors v found.0)
      ∙ ap (put_origin (unfolded_state m s) p.origin) (with_value_replaced m p.selectors v found.0 u e)

  pub put_same : (s : State) (p : Path) (v u : Value) → path_value s p ≡ Some u → unfolded_state m (put_at s p v) ≡ put_at (unfolded_state m s) p (replaced m v)
  put_same s p v u e =
      put_led s p v (at_origin s p.origin) u e
      ∙ ap (λ o. option_map_or (λ (found : Value × ℕ). put_origin (unfolded_state m s) p.origin (values.with_value_at p.selectors (replaced m v) found.0)) o (unfolded_state m s)) (sym (origin_same s p.origin))
