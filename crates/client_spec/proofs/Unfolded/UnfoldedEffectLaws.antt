-- If an operation has a row from a state, it has the same row from the unfolded state, and states
-- without positions stay so.
use Rattle.std.proofs.Common.{◌≡◌, ℕ, zero, suc, ℤ, List, [], ◌∷◌, ◌++◌, map, Bool, Option, Some, None, refl, sym, ◌∙◌, ap, subst}
use Rattle.std.specs.Prelude.{option_map, slice_index_or}
use Rattle.seg_spec.specs.Value.{Label, Value, node, Empty, Values, nil, cons}
use Rattle.seg_spec.specs.Shared.{names_in, names_each, replaced, replaced_each}
use Rattle.client_spec.specs.declared.table.Operation.{Operation}
use Rattle.client_spec.specs.Syntax.{Constant}
use Rattle.client_spec.specs.Machine.{Register, Object, State}
use Rattle.client_spec.specs.Answer.{Answer}
use Rattle.client_spec.specs.Effect.{effect}
use Rattle.client_spec.specs.Trees.{unfolded_object, unfolded_register, unfolded_state, Unfolds, AreTrees}
use Rattle.client_spec.proofs.TypedStates.ValueLaws.{Some_inj}
use Rattle.client_spec.proofs.Unfolded.UnfoldedValueLaws.{nothing_replaced, nothing_each}
use Rattle.client_spec.proofs.Unfolded.UnfoldedStateLaws.{unfolds_is, is_unfolds}
use Rattle.client_spec.proofs.Unfolded.UnfoldedOutcomeLaws.{same_is}
use Rattle.client_spec.proofs.Unfolded.UnfoldedRowLaws.{RowSame}
use Rattle.client_spec.proofs.OperationLaws.{laws}

module _ (m : ℕ → Value) (constants : List Constant) where
  pub effect_same : (s : State) (op : Operation) → RowSame m constants s op
  effect_same s op = (laws op).same m constants s

  -- a row from a state is a row from its unfolded state
  pub row_of_trees : (op : Operation) (a b c : ℕ) (number : ℤ) (room : Bool) (plain plain' : State) (answer : Answer) → effect constants op a b c number room plain ≡ Some (answer, plain')
      → effect constants op a b c number room (unfolded_state m plain) ≡ Some (answer, unfolded_state m plain')
  row_of_trees op a b c number room plain plain' answer e =
      same_is m (effect constants op a b c number room plain) (effect constants op a b c number room (unfolded_state m plain)) (effect_same plain op a b c number room) answer plain' e

  pub same_row : (op : Operation) (a b c : ℕ) (number : ℤ) (room : Bool) (plain s plain' : State) (answer : Answer) → Unfolds m plain s → effect constants op a b c number room plain ≡ Some (answer, plain')
      → (s' : State) × (effect constants op a b c number room s ≡ Some (answer, s')) × Unfolds m plain' s'
  same_row op a b c number room plain s plain' answer h e =
      (unfolded_state m plain', ap (effect constants op a b c number room) (unfolds_is m plain s h) ∙ row_of_trees op a b c number room plain plain' answer e, is_unfolds m plain' (unfolded_state m plain') refl)

-- ---- trees

-- if no copy has a position in it
module _ (m : ℕ → Value) (none : (p : ℕ) → names_in (m p) ≡ []) where
  mutual
    unfolding replaced names_in

    pub none_named : (v : Value) → names_in (replaced m v) ≡ []
    none_named (node (Label.shared T p) vs) = none p
    none_named (node (Label.int k) vs) = none_each vs
    none_named (node (Label.text bytes) vs) = none_each vs
    none_named (node Label.seq vs) = none_each vs
    none_named (node (Label.map keys) vs) = none_each vs
    none_named (node Label.opt vs) = none_each vs
    none_named (node Label.struct vs) = none_each vs

    none_each : (vs : Values) → names_each (replaced_each m vs) ≡ []
    none_each nil = refl
    none_each (cons v vs) = ap (λ qs. qs ++ names_each (replaced_each m vs)) (none_named v) ∙ none_each vs

  name_trees : (o : Option Object) (x : Object) → option_map (unfolded_object m) o ≡ Some x → names_each x.values ≡ []
  name_trees None x e = cc
  name_trees (Some o) x e = sym (ap names_each (ap (λ (z : Object). z.values) (Some_inj e))) ∙ none_each o.values

  unique_trees : (o : Option Value) (v : Value) → option_map (replaced m) o ≡ Some v → names_in v ≡ []
  unique_trees None v e = cc
  unique_trees (Some u) v e = sym (ap names_in (Some_inj e)) ∙ none_named u

  register_trees : (x : Register) (v : Value) (t : ℕ) → unfolded_register m x ≡ Register.Owner v t → names_in v ≡ []
  register_trees Register.Undefined v t e = cc
  register_trees (Register.Int k) v t e = cc
  register_trees (Register.Reference p) v t e = cc
  register_trees (Register.Owner u t') v t e = sym (ap names_in (let f : replaced m u ≡ v = cc in f)) ∙ none_named u

  registers_trees : (xs : List Register) (r : ℕ) (v : Value) (t : ℕ) → slice_index_or (map (unfolded_register m) xs) r Register.Undefined ≡ Register.Owner v t → names_in v ≡ []
  registers_trees [] r v t e = cc
  registers_trees (x ∷ xs) zero v t e = register_trees x v t e
  registers_trees (x ∷ xs) (suc r) v t e = registers_trees xs r v t e

  pub unfolded_trees : (s : State) → AreTrees (unfolded_state m s)
  unfolded_trees s = record {
    names = λ name o f. name_trees (s.names name) o f;
    uniques = λ T v f. unique_trees (s.uniques T) v f;
    owned = λ r v t f. registers_trees s.registers r v t f;
  }

pub nowhere : ℕ → Value
nowhere p = Empty

pub nowhere_named : (p : ℕ) → names_in (nowhere p) ≡ []
unfolding nowhere names_in
nowhere_named p = refl

module _ (m : ℕ → Value) (s : State) (h : AreTrees s) where
  name_kept : (o : Option Object) → ((x : Object) → o ≡ Some x → names_each x.values ≡ []) → o ≡ option_map (unfolded_object m) o
  name_kept None f = refl
  name_kept (Some o) f = ap (λ vs. Some (record { type = o.type; values = vs })) (sym (nothing_each m o.values (f o refl)))

  unique_kept : (o : Option Value) → ((v : Value) → o ≡ Some v → names_in v ≡ []) → o ≡ option_map (replaced m) o
  unique_kept None f = refl
  unique_kept (Some v) f = ap Some (sym (nothing_replaced m v (f v refl)))

  register_kept : (x : Register) → ((v : Value) (t : ℕ) → x ≡ Register.Owner v t → names_in v ≡ []) → x ≡ unfolded_register m x
  register_kept Register.Undefined f = refl
  register_kept (Register.Int k) f = refl
  register_kept (Register.Reference p) f = refl
  register_kept (Register.Owner v t) f = ap (λ w. Register.Owner w t) (sym (nothing_replaced m v (f v t refl)))

  registers_kept : (xs : List Register) → ((r : ℕ) (v : Value) (t : ℕ) → slice_index_or xs r Register.Undefined ≡ Register.Owner v t → names_in v ≡ []) → xs ≡ map (unfolded_register m) xs
  registers_kept [] f = refl
  registers_kept (x ∷ xs) f = ap (λ y. y ∷ xs) (register_kept x (f 0)) ∙ ap (λ ys. unfolded_register m x ∷ ys) (registers_kept xs (λ r. f (suc r)))

  -- a state without positions is its own unfolded state
  pub trees_unfold : Unfolds m s s
  trees_unfold = record {
    types = refl;
    names = λ name. name_kept (s.names name) (h.names name);
    uniques = λ T. unique_kept (s.uniques T) (h.uniques T);
    registers = registers_kept s.registers h.owned;
    input = refl;
    output = refl;
  }

pub trees_stay : (constants : List Constant) (op : Operation) (a b c : ℕ) (number : ℤ) (room : Bool) (s s' : State) (answer : Answer) → AreTrees s → effect constants op a b c number room s ≡ Some (answer, s') → AreTrees s'
trees_stay constants op a b c number room s s' answer h e =
    let r = same_row nowhere constants op a b c number room s s s' answer (trees_unfold nowhere s h) e in
    let same : s' ≡ r.0 = ap (λ (z : Answer × State). z.1) (Some_inj (sym e ∙ r.1)) in
    subst AreTrees (sym (same ∙ unfolds_is nowhere s' r.0 r.2)) (unfolded_trees nowhere nowhere_named s')
