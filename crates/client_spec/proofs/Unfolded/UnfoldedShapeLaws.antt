-- Unfolded values have the shapes of the values, and copies that agree on a state's cells give the
-- same unfolded state.
use Rattle.std.proofs.Common.{◌≡◌, ℕ, suc, List, [], ◌∷◌, map, replicate, Option, Some, None, refl, sym, ◌∙◌, ap, subst, inl, inr, arith}
use Rattle.std.specs.Prelude.{◌⊎◌, option_map, slice_index_or}
use Rattle.std.specs.List.{AllByRecursion}
use Rattle.seg_spec.specs.Types.{Form, Table, form_at}
use Rattle.seg_spec.specs.Value.{Label, Value, node, Values, nil, cons, count, Empty, Full, types_inside}
use Rattle.seg_spec.specs.Reads.{Place}
use Rattle.seg_spec.specs.Shared.{names_in, names_each, replaced, replaced_each}
use Rattle.seg_spec.proofs.Values.PlaceFrameLaws.{each_left, each_right}
use Rattle.seg_spec.proofs.Frozen.UnfoldedTreeLaws.{same_tree}
use Rattle.client_spec.specs.Machine.{Register, Object, State, register}
use Rattle.client_spec.specs.Shape.{IsLabel, HasShape, HaveShapes}
use Rattle.client_spec.specs.Trees.{unfolded_object, unfolded_register, unfolded_state}
use Rattle.client_spec.proofs.Unfolded.UnfoldedValueLaws.{count_replaced}

-- ---- shapes

module _ (m : ℕ → Value) (types : Table) where
  -- the copy for a cell is nothing, or an owned value of the cell's type
  abbrev pub MeansShape : Place → Type 0
  MeansShape q = (m q.at ≡ Empty) ⊎ ((u : Value) × (m q.at ≡ Full u) × HasShape types q.type u)

  shared_label : (form : Form) (T p n : ℕ) → IsLabel form (Label.shared T p) n → form ≡ Form.shared T
  shared_label Form.i64 T p n h = absurd h
  shared_label Form.str T p n h = absurd h
  shared_label (Form.vec U) T p n h = absurd h
  shared_label (Form.list U) T p n h = absurd h
  shared_label (Form.flat_map U) T p n h = absurd h
  shared_label (Form.map U) T p n h = absurd h
  shared_label (Form.own U) T p n h = absurd h
  shared_label (Form.struct fields) T p n h = absurd h
  shared_label (Form.shared U) T p n h = ap Form.shared (sym h.0)

  cell_shape : (T U : ℕ) → form_at types T ≡ Some (Form.shared U) → (v : Value) → (v ≡ Empty) ⊎ ((u : Value) × (v ≡ Full u) × HasShape types U u) → HasShape types T v
  unfolding HasShape
  cell_shape T U e v (inl h) = subst (HasShape types T) (sym h) (Form.shared U, e, omega arith, tt)
  cell_shape T U e v (inr h) = subst (HasShape types T) (sym h.1) (Form.shared U, e, omega arith, (h.2, tt))

  -- a value is of the type if its label fits and the values inside have their shapes
  rebuilt : (T : ℕ) (label : Label) (vs : Values) (form : Form) → form_at types T ≡ Some form → IsLabel form label (count vs)
      → HaveShapes types (types_inside form (count vs)) (replaced_each m vs) → HasShape types T (node label (replaced_each m vs))
  unfolding HasShape
  rebuilt T label vs form e is inside =
      let same = sym (count_replaced m vs) in
      (form, e, subst (IsLabel form label) same is, subst (λ n. HaveShapes types (types_inside form n) (replaced_each m vs)) same inside)

  mutual
    unfolding replaced names_in HasShape

    pub shape_unfolded : (T : ℕ) (v : Value) → HasShape types T v → AllByRecursion MeansShape (names_in v) → HasShape types T (replaced m v)
    shape_unfolded T (node (Label.shared U p) vs) h a =
        cell_shape T U (h.1 ∙ ap Some (shared_label h.0 U p (count vs) h.2)) (m p) a.0
    shape_unfolded T (node (Label.int k) vs) h a = rebuilt T (Label.int k) vs h.0 h.1 h.2 (shapes_unfolded (types_inside h.0 (count vs)) vs h.3 a)
    shape_unfolded T (node (Label.text bytes) vs) h a = rebuilt T (Label.text bytes) vs h.0 h.1 h.2 (shapes_unfolded (types_inside h.0 (count vs)) vs h.3 a)
    shape_unfolded T (node Label.seq vs) h a = rebuilt T Label.seq vs h.0 h.1 h.2 (shapes_unfolded (types_inside h.0 (count vs)) vs h.3 a)
    shape_unfolded T (node (Label.map keys) vs) h a = rebuilt T (Label.map keys) vs h.0 h.1 h.2 (shapes_unfolded (types_inside h.0 (count vs)) vs h.3 a)
    shape_unfolded T (node Label.opt vs) h a = rebuilt T Label.opt vs h.0 h.1 h.2 (shapes_unfolded (types_inside h.0 (count vs)) vs h.3 a)
    shape_unfolded T (node Label.struct vs) h a = rebuilt T Label.struct vs h.0 h.1 h.2 (shapes_unfolded (types_inside h.0 (count vs)) vs h.3 a)

    pub shapes_unfolded : (Ts : List ℕ) (vs : Values) → HaveShapes types Ts vs → AllByRecursion MeansShape (names_each vs) → HaveShapes types Ts (replaced_each m vs)
    shapes_unfolded [] nil h a = tt
    shapes_unfolded [] (cons v vs) h a = absurd h
    shapes_unfolded (T ∷ Ts) nil h a = absurd h
    shapes_unfolded (T ∷ Ts) (cons v vs) h a =
        (shape_unfolded T v h.0 (each_left MeansShape (names_in v) (names_each vs) a), shapes_unfolded Ts vs h.1 (each_right MeansShape (names_in v) (names_each vs) a))

  pub all_shapes_unfolded : (T : ℕ) (vs : Values) → HaveShapes types (replicate (count vs) T) vs → AllByRecursion MeansShape (names_each vs) → HaveShapes types (replicate (count (replaced_each m vs)) T) (replaced_each m vs)
  all_shapes_unfolded T vs h a = subst (λ n. HaveShapes types (replicate n T) (replaced_each m vs)) (sym (count_replaced m vs)) (shapes_unfolded (replicate (count vs) T) vs h a)

-- ---- other copies for the state's cells

module _ (m m' : ℕ → Value) (plain : State) where
  abbrev pub MeanSame : Place → Type 0
  MeanSame q = m q.at ≡ m' q.at

  -- they agree on the cells in all values of the state
  pub record AgreeThere : Type 0 where
    pub names : (name : List ℕ) (o : Object) → plain.names name ≡ Some o → AllByRecursion MeanSame (names_each o.values)
    pub uniques : (T : ℕ) (v : Value) → plain.uniques T ≡ Some v → AllByRecursion MeanSame (names_in v)
    pub owned : (r : ℕ) (v : Value) (t : ℕ) → register plain r ≡ Register.Owner v t → AllByRecursion MeanSame (names_in v)

  same_values : (vs : Values) → AllByRecursion MeanSame (names_each vs) → replaced_each m vs ≡ replaced_each m' vs
  unfolding replaced names_in
  same_values nil a = refl
  same_values (cons v vs) a =
      ap (λ u. cons u (replaced_each m vs)) (same_tree m m' v (each_left MeanSame (names_in v) (names_each vs) a)) ∙ ap (cons (replaced m' v)) (same_values vs (each_right MeanSame (names_in v) (names_each vs) a))

  name_means : (o : Option Object) → ((x : Object) → o ≡ Some x → AllByRecursion MeanSame (names_each x.values)) → option_map (unfolded_object m) o ≡ option_map (unfolded_object m') o
  name_means None f = refl
  name_means (Some o) f = ap (λ vs. Some (record { type = o.type; values = vs })) (same_values o.values (f o refl))

  unique_means : (o : Option Value) → ((v : Value) → o ≡ Some v → AllByRecursion MeanSame (names_in v)) → option_map (replaced m) o ≡ option_map (replaced m') o
  unique_means None f = refl
  unique_means (Some v) f = ap Some (same_tree m m' v (f v refl))

  register_means : (x : Register) → ((v : Value) (t : ℕ) → x ≡ Register.Owner v t → AllByRecursion MeanSame (names_in v)) → unfolded_register m x ≡ unfolded_register m' x
  register_means Register.Undefined f = refl
  register_means (Register.Int k) f = refl
  register_means (Register.Reference p) f = refl
  register_means (Register.Owner v t) f = ap (λ w. Register.Owner w t) (same_tree m m' v (f v t refl))

  registers_mean : (xs : List Register) → ((r : ℕ) (v : Value) (t : ℕ) → slice_index_or xs r Register.Undefined ≡ Register.Owner v t → AllByRecursion MeanSame (names_in v))
      → map (unfolded_register m) xs ≡ map (unfolded_register m') xs
  registers_mean [] f = refl
  registers_mean (x ∷ xs) f = ap (λ y. y ∷ map (unfolded_register m) xs) (register_means x (f 0)) ∙ ap (λ ys. unfolded_register m' x ∷ ys) (registers_mean xs (λ r. f (suc r)))

  pub trees_agree : AgreeThere → unfolded_state m plain ≡ unfolded_state m' plain
  trees_agree a = λ i. record {
    types = plain.types;
    names = λ name. name_means (plain.names name) (a.names name) i;
    uniques = λ T. unique_means (plain.uniques T) (a.uniques T) i;
    registers = registers_mean plain.registers a.owned i;
    input = plain.input;
    output = plain.output;
  }
