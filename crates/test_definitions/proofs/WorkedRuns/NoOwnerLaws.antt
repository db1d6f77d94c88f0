-- If registers own nothing, they own nothing after a few of the instructions.
use Rattle.std.proofs.Common.{◌≡◌, ℕ, zero, suc, List, [], ◌∷◌, ◌++◌, map, Bool, true, false, Option, Some, None, pos, refl, ap, subst}
use Rattle.std.specs.Prelude.{ℤ, slice_set, slice_get, slice_index_or, if◌then◌else◌, ◌==◌}
use Rattle.std.specs.List.{AllByRecursion}
use Rattle.std.specs.Option.{option_map_or}
use Rattle.std.specs.Fmt.{signed_decimal}
use Rattle.seg_spec.specs.Value.{Value, count}
use Rattle.seg_spec.specs.Value as values
use Rattle.seg_spec.specs.Index.{Root}
use Rattle.client_spec.specs.declared.table.Operation.{Operation}
use Rattle.client_spec.specs.Syntax.{Constant}
use Rattle.client_spec.specs.Machine.{◌>>=◌, Origin, Path, Register, Object, State, register, set_register, owned_by, path_value, at_origin, with_name, with_owned, replace_item, put_origin, put_at}
use Rattle.client_spec.specs.Answer.{Answer, Outcome, success, absent, other_type, out_of_range, answer, path_of, path_from, integer_at, integer_or, constant_operand, constant_name}
use Rattle.client_spec.specs.Answer.{type_operand, index_below, int_in, fail, refer}
use Rattle.client_spec.proofs.TypedStates.ValueLaws.{Some_inj}
use Rattle.client_spec.specs.Effect.{effect, item_of_object}
use Rattle.client_spec.specs.Trees.{unfolded_register}
use Rattle.client_spec.specs.Pictures.{AreOwned}

-- none of the registers owns an object
abbrev pub OwnNone : List Register → Type 0
OwnNone rs = AllByRecursion (λ x. owned_by x ≡ None) rs

pub set_none : (rs : List Register) (r : ℕ) (x : Register) → owned_by x ≡ None → OwnNone rs → OwnNone (slice_set rs r x)
set_none [] r x e h = tt
set_none (y ∷ rs) zero x e h = (e, h.1)
set_none (y ∷ rs) (suc r) x e h = (h.0, set_none rs r x e h.1)

at_none : (rs : List Register) (r : ℕ) → OwnNone rs → owned_by (slice_index_or rs r Register.Undefined) ≡ None
at_none [] r h = refl
at_none (y ∷ rs) zero h = h.0
at_none (y ∷ rs) (suc r) h = at_none rs r h.1

with_none : (v : Value) (x : Register) → owned_by x ≡ None → owned_by (with_owned v x) ≡ None
with_none v (Register.Owner w t) e = absurd (let f : Some (w, t) ≡ None = e in cc)
with_none v x e = refl

-- the roots of registers that own nothing
pub no_roots : (m : ℕ → Value) (rs : List Register) (roots : List Root) → OwnNone (map (unfolded_register m) rs) → AreOwned rs roots → roots ≡ []
no_roots m [] [] h a = refl
no_roots m [] (root ∷ roots) h a = absurd a
no_roots m (Register.Owner v t ∷ rs) roots h a = absurd (let e = h.0 in cc)
no_roots m (Register.Undefined ∷ rs) roots h a = no_roots m rs roots h.1 a
no_roots m (Register.Int k ∷ rs) roots h a = no_roots m rs roots h.1 a
no_roots m (Register.Reference p ∷ rs) roots h a = no_roots m rs roots h.1 a

-- in each state of the outcome registers own nothing
pub record LeavesNone (o : Outcome) : Type 0 where
  pub each : (code : Answer) (t : State) → ◌≡◌ {A = Outcome} o (Some (code, t)) → OwnNone t.registers

none : LeavesNone None
none = record { each = λ code t e. absurd (let f : ◌≡◌ {A = Outcome} None (Some (code, t)) = e in cc) }

some : (code : Answer) (s : State) → OwnNone s.registers → LeavesNone (Some (code, s))
some code s h = record { each = λ c t e. subst (λ (u : State). OwnNone u.registers) (ap (λ (p : Answer × State). p.1) (Some_inj e)) h }

bound : {A : Type 0} (m : Option A) (f : A → Outcome) → ((x : A) → LeavesNone (f x)) → LeavesNone (m >>= f)
bound None f h = none
bound (Some x) f h = h x

either : {A : Type 0} (f : A → Outcome) (m : Option A) (d : Outcome) → ((x : A) → LeavesNone (f x)) → LeavesNone d → LeavesNone (option_map_or f m d)
either f None d h g = g
either f (Some x) d h g = h x

tested : (b : Bool) (o p : Outcome) → LeavesNone o → LeavesNone p → LeavesNone (if b then o else p)
tested true o p f g = f
tested false o p f g = g

module _ (constants : List Constant) (s : State) (h : OwnNone s.registers) where
  answers : (code : Answer) (a : ℕ) (x : Register) → owned_by x ≡ None → LeavesNone (answer code a x s)
  answers code a x e = either (λ _. None) (owned_by (register s a)) (Some (code, set_register s a x)) (λ v. none) (some code (set_register s a x) (set_none s.registers a x e h))

  item : (a : ℕ) (name : List ℕ) (t : ℕ) (x : ℤ) (o : Option Object) → LeavesNone (item_of_object a name t x o s)
  item a name t x None = answers absent a _ refl
  item a name t x (Some o) =
      tested (o.type == t) _ (fail a other_type s)
      (either (λ i. refer a (path_from (Origin.Name name i)) s) (index_below (count o.values) x) (fail a out_of_range s) (λ i. answers success a _ refl) (answers out_of_range a _ refl))
      (answers other_type a _ refl)

  puts : (p : Path) (v : Value) → OwnNone (put_at s p v).registers
  puts p v = by (at_origin s p.origin)
    where
      at : (o : Origin) (w : Value) → OwnNone (put_origin s o w).registers
      at (Origin.Name name i) w = named (s.names name)
        where
          named : (o : Option Object) → OwnNone (option_map_or (λ o. record s { names = with_name s.names name (Some (replace_item i w o)) }) o s).registers
          named None = h
          named (Some o) = h
      at (Origin.Unique t) w = h
      at (Origin.Owned r) w = set_none s.registers r (with_owned w (register s r)) (with_none w (register s r) (at_none s.registers r h)) h

      by : (o : Option (Value × ℕ)) → OwnNone (option_map_or (λ found. put_origin s p.origin (values.with_value_at p.selectors v found.0)) o s).registers
      by None = h
      by (Some found) = at p.origin (values.with_value_at p.selectors v found.0)

  pub const_none : (a : ℕ) (n : ℤ) (room : Bool) → LeavesNone (effect constants Operation.Const a 0 0 n room s)
  unfolding effect
  const_none a n room = answers success a (Register.Int n) refl

  pub find_none : (a b c : ℕ) (n : ℤ) (room : Bool) → LeavesNone (effect constants Operation.Find a b c n room s)
  unfolding effect
  find_none a b c n room =
      let name = slice_get constants (constant_operand n) >>= λ k. constant_name k (register s b) in
      bound name _ (λ m. bound (integer_or (pos 0) c s) _ (λ x. item a m (type_operand n) x (s.names m)))

  pub load_none : (a b c : ℕ) (n : ℤ) (room : Bool) → LeavesNone (effect constants Operation.Load a b c n room s)
  unfolding effect
  load_none a b c n room = bound (path_of s b) _ (λ p. bound (path_value s p >>= int_in) _ (λ k. answers success a (Register.Int k) refl))

  pub add_none : (a b c : ℕ) (n : ℤ) (room : Bool) → LeavesNone (effect constants Operation.Add a b c n room s)
  unfolding effect
  add_none a b c n room = bound (integer_at s b) _ (λ x. bound (integer_at s c) _ (λ y. answers success a _ refl))

  pub store_none : (a b c : ℕ) (n : ℤ) (room : Bool) → LeavesNone (effect constants Operation.Store a b c n room s)
  unfolding effect
  store_none a b c n room = bound (path_of s b) _ (λ p. bound (path_value s p >>= int_in) _ (λ k. bound (integer_at s c) _ (λ x. some success (put_at s p (values.Int x)) (puts p (values.Int x)))))

  pub print_none : (a b c : ℕ) (n : ℤ) (room : Bool) → LeavesNone (effect constants Operation.OutInt a b c n room s)
  unfolding effect
  print_none a b c n room = bound (integer_at s b) _ (λ x. some success (record s { output = s.output ++ (signed_decimal x ++ 10 ∷ []) }) h)
