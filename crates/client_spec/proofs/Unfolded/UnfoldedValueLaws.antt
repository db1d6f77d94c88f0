-- Values and lists of values, with copies in place of shared cells.
use Rattle.std.proofs.Common.{◌≡◌, ℕ, zero, suc, ℤ, List, [], ◌∷◌, ◌++◌, Option, Some, None, refl, sym, ◌∙◌, ap}
use Rattle.std.specs.Prelude.{option_map, option_and_then, insert, remove}
use Rattle.seg_spec.specs.Types.{Table}
use Rattle.seg_spec.specs.Value.{Label, Value, node, Values, nil, cons, count, append, copies, nth, default_of, Selector, index_of, change_nth, value_at, with_value_at}
use Rattle.seg_spec.specs.Items.{without_last, insert_nth, remove_nth, with_entry, without_entry, keys_below}
use Rattle.seg_spec.specs.Shared.{names_in, names_each, replaced, replaced_each}
use Rattle.seg_spec.proofs.Frozen.PartCountLaws.{default_names}

-- two lists are empty if their concatenation is
pub nothing_left : {A : Type 0} (xs ys : List A) → xs ++ ys ≡ [] → xs ≡ []
nothing_left [] ys e = refl
nothing_left (x ∷ xs) ys e = cc

pub nothing_right : {A : Type 0} (xs ys : List A) → xs ++ ys ≡ [] → ys ≡ []
nothing_right [] ys e = e
nothing_right (x ∷ xs) ys e = cc

module _ (m : ℕ → Value) where
  -- ---- values without shared cells

  mutual
    unfolding replaced names_in

    pub nothing_replaced : (v : Value) → names_in v ≡ [] → replaced m v ≡ v
    nothing_replaced (node (Label.shared T p) vs) e = cc
    nothing_replaced (node (Label.int k) vs) e = ap (node (Label.int k)) (nothing_each vs e)
    nothing_replaced (node (Label.text bytes) vs) e = ap (node (Label.text bytes)) (nothing_each vs e)
    nothing_replaced (node Label.seq vs) e = ap (node Label.seq) (nothing_each vs e)
    nothing_replaced (node (Label.map keys) vs) e = ap (node (Label.map keys)) (nothing_each vs e)
    nothing_replaced (node Label.opt vs) e = ap (node Label.opt) (nothing_each vs e)
    nothing_replaced (node Label.struct vs) e = ap (node Label.struct) (nothing_each vs e)

    pub nothing_each : (vs : Values) → names_each vs ≡ [] → replaced_each m vs ≡ vs
    nothing_each nil e = refl
    nothing_each (cons v vs) e =
        ap (λ u. cons u (replaced_each m vs)) (nothing_replaced v (nothing_left (names_in v) (names_each vs) e)) ∙ ap (cons v) (nothing_each vs (nothing_right (names_in v) (names_each vs) e))

  pub default_replaced : (table : Table) (T : ℕ) → replaced m (default_of table T) ≡ default_of table T
  default_replaced table T = nothing_replaced (default_of table T) (default_names table T)

  -- ---- lists of values

  pub count_replaced : (vs : Values) → count (replaced_each m vs) ≡ count vs
  unfolding replaced
  count_replaced nil = refl
  count_replaced (cons v vs) = ap suc (count_replaced vs)

  pub append_replaced : (vs ws : Values) → replaced_each m (append vs ws) ≡ append (replaced_each m vs) (replaced_each m ws)
  unfolding replaced
  append_replaced nil ws = refl
  append_replaced (cons v vs) ws = ap (cons (replaced m v)) (append_replaced vs ws)

  pub copies_replaced : (n : ℕ) (v : Value) → replaced_each m (copies n v) ≡ copies n (replaced m v)
  unfolding replaced
  copies_replaced zero v = refl
  copies_replaced (suc n) v = ap (cons (replaced m v)) (copies_replaced n v)

  pub nth_replaced : (vs : Values) (i : ℕ) → nth (replaced_each m vs) i ≡ option_map (replaced m) (nth vs i)
  unfolding replaced
  nth_replaced nil i = refl
  nth_replaced (cons v vs) zero = refl
  nth_replaced (cons v vs) (suc i) = nth_replaced vs i

  pub last_replaced : (vs : Values) → replaced_each m (without_last vs) ≡ without_last (replaced_each m vs)
  unfolding replaced
  last_replaced nil = refl
  last_replaced (cons v nil) = refl
  last_replaced (cons v (cons w ws)) = ap (cons (replaced m v)) (last_replaced (cons w ws))

  pub insert_replaced : (vs : Values) (i : ℕ) (w : Value) → replaced_each m (insert_nth vs i w) ≡ insert_nth (replaced_each m vs) i (replaced m w)
  unfolding replaced
  insert_replaced nil zero w = refl
  insert_replaced (cons v vs) zero w = refl
  insert_replaced nil (suc i) w = refl
  insert_replaced (cons v vs) (suc i) w = ap (cons (replaced m v)) (insert_replaced vs i w)

  pub remove_replaced : (vs : Values) (i : ℕ) → replaced_each m (remove_nth vs i) ≡ remove_nth (replaced_each m vs) i
  unfolding replaced
  remove_replaced nil i = refl
  remove_replaced (cons v vs) zero = refl
  remove_replaced (cons v vs) (suc i) = ap (cons (replaced m v)) (remove_replaced vs i)

  pub with_entry_replaced : (keys : List ℤ) (vs : Values) (k : ℤ) (w : Value) → replaced m (with_entry (keys, vs) k w) ≡ with_entry (keys, replaced_each m vs) k (replaced m w)
  unfolding replaced
  with_entry_replaced keys vs k w = ap (node (Label.map (insert keys (keys_below keys k) k))) (insert_replaced vs (keys_below keys k) w)

  pub without_entry_replaced : (keys : List ℤ) (vs : Values) (i : ℕ) → replaced m (without_entry (keys, vs) i) ≡ without_entry (keys, replaced_each m vs) i
  unfolding replaced
  without_entry_replaced keys vs i = ap (node (Label.map (remove keys i))) (remove_replaced vs i)

  pub change_replaced : (o : Option ℕ) (w : Value) (vs : Values) → replaced_each m (change_nth o (λ _. w) vs) ≡ change_nth o (λ _. replaced m w) (replaced_each m vs)
  unfolding replaced
  change_replaced None w vs = refl
  change_replaced (Some i) w nil = refl
  change_replaced (Some zero) w (cons v vs) = refl
  change_replaced (Some (suc i)) w (cons v vs) = ap (cons (replaced m v)) (change_replaced (Some i) w vs)

  -- a change of one value commutes with unfolding if it does so for that value
  pub change_one : (i : ℕ) (f g : Value → Value) (vs : Values) → ((u : Value) → nth vs i ≡ Some u → replaced m (f u) ≡ g (replaced m u))
      → replaced_each m (change_nth (Some i) f vs) ≡ change_nth (Some i) g (replaced_each m vs)
  unfolding replaced
  change_one i f g nil e = refl
  change_one zero f g (cons v vs) e = ap (λ u. cons u (replaced_each m vs)) (e v refl)
  change_one (suc i) f g (cons v vs) e = ap (cons (replaced m v)) (change_one i f g vs e)

  -- ---- a value with parts is no shared cell

  pub node_replaced : (label : Label) (vs : Values) (x : Selector) (i : ℕ) → index_of label x ≡ Some i → replaced m (node label vs) ≡ node label (replaced_each m vs)
  unfolding replaced
  node_replaced (Label.shared T p) vs x i e = cc
  node_replaced (Label.int k) vs x i e = refl
  node_replaced (Label.text bytes) vs x i e = refl
  node_replaced Label.seq vs x i e = refl
  node_replaced (Label.map keys) vs x i e = refl
  node_replaced Label.opt vs x i e = refl
  node_replaced Label.struct vs x i e = refl

  abbrev LeadsReplaced : List Selector → Type 0
  LeadsReplaced path = (v u : Value) → value_at v path ≡ Some u → value_at (replaced m v) path ≡ Some (replaced m u)

  value_there : (path : List Selector) → LeadsReplaced path → (o : Option Value) (u : Value) → option_and_then (λ w. value_at w path) o ≡ Some u
      → option_and_then (λ w. value_at w path) (option_map (replaced m) o) ≡ Some (replaced m u)
  value_there path inner None u e = cc
  value_there path inner (Some w) u e = inner w u e

  value_inside : (path : List Selector) → LeadsReplaced path → (label : Label) (vs : Values) (x : Selector) (u : Value) (o : Option ℕ) → index_of label x ≡ o
      → option_and_then (λ w. value_at w path) (option_and_then (λ i. nth vs i) o) ≡ Some u → value_at (replaced m (node label vs)) (x ∷ path) ≡ Some (replaced m u)
  value_inside path inner label vs x u None f e = cc
  value_inside path inner label vs x u (Some i) f e =
      ap (λ w. value_at w (x ∷ path)) (node_replaced label vs x i f) ∙ ap (λ o. option_and_then (λ w. value_at w path) (option_and_then (λ j. nth (replaced_each m vs) j) o)) f
      ∙ ap (option_and_then (λ w. value_at w path)) (nth_replaced vs i) ∙ value_there path inner (nth vs i) u e

  pub value_at_replaced : (path : List Selector) → LeadsReplaced path
  value_at_replaced [] v u e = ap (option_map (replaced m)) e
  value_at_replaced (x ∷ path) (node label vs) u e = value_inside path (value_at_replaced path) label vs x u (index_of label x) refl e

  abbrev ChangesReplaced : List Selector → Type 0
  ChangesReplaced path = (w v u : Value) → value_at v path ≡ Some u → replaced m (with_value_at path w v) ≡ with_value_at path (replaced m w) (replaced m v)

  with_inside : (path : List Selector) → ChangesReplaced path → (w : Value) (label : Label) (vs : Values) (x : Selector) (u : Value) (o : Option ℕ) → index_of label x ≡ o
      → option_and_then (λ y. value_at y path) (option_and_then (λ i. nth vs i) o) ≡ Some u
      → replaced m (with_value_at (x ∷ path) w (node label vs)) ≡ with_value_at (x ∷ path) (replaced m w) (replaced m (node label vs))
  with_inside path inner w label vs x u None f e = cc
  with_inside path inner w label vs x u (Some i) f e =
      let one = change_one i (with_value_at path w) (with_value_at path (replaced m w)) vs (λ y n. inner w y u (sym (ap (option_and_then (λ z. value_at z path)) n) ∙ e)) in
      node_replaced label (change_nth (index_of label x) (with_value_at path w) vs) x i f
      ∙ ap (λ o. node label (replaced_each m (change_nth o (with_value_at path w) vs))) f
      ∙ ap (node label) one
      ∙ ap (λ o. node label (change_nth o (with_value_at path (replaced m w)) (replaced_each m vs))) (sym f)
      ∙ ap (with_value_at (x ∷ path) (replaced m w)) (sym (node_replaced label vs x i f))

  pub with_value_replaced : (path : List Selector) → ChangesReplaced path
  with_value_replaced [] w v u e = refl
  with_value_replaced (x ∷ path) w (node label vs) u e = with_inside path (with_value_replaced path) w label vs x u (index_of label x) refl e
