-- In a valid table of types, parts are entries, and defaults have the shape of their types.
use Rattle.std.proofs.Common.{◌≡◌, ℕ, zero, suc, ◌<◌, ◌≤◌, List, [], ◌∷◌, length, get_or, Some, refl, sym, ap, subst, arith, pos}
use Rattle.std.specs.Prelude.{slice_get, All}
use Rattle.std.proofs.lemmas.List.Elements.{All-head, All-tail}
use Rattle.seg_spec.specs.Types.{Form, Table, form_at, IsForm, built}
use Rattle.seg_spec.specs.Value.{Value, Int, Struct, field_defaults, default_by, default_of, Selector}
use Rattle.seg_spec.proofs.Tables.TypeSizeLaws.{built_at}
use Rattle.seg_spec.proofs.Tables.TableExtensionLaws.{below_length}
use Rattle.client_spec.specs.Machine.{part_type}
use Rattle.client_spec.specs.Shape.{HasShape, HaveShapes}
use Rattle.client_spec.proofs.TypedStates.ValueLaws.{Some_inj}
use Rattle.client_spec.proofs.TypedStates.ShapeLaws.{IsOf, value_of_form}

pick_agree : (xs ys : List Value) (k : ℕ) (Us : List ℕ) → ((U : ℕ) → U < k → get_or xs U (Int (pos 0)) ≡ get_or ys U (Int (pos 0))) → All (λ U. U < k) Us → field_defaults xs Us ≡ field_defaults ys Us
pick_agree xs ys k [] e h = refl
pick_agree xs ys k (U ∷ Us) e h =
    let first = e U (All-head (λ V. V < k) U Us h) in
    let rest = pick_agree xs ys k Us e (All-tail (λ V. V < k) U Us h) in
    rw (first, rest)

default_agree : (xs ys : List Value) (n k : ℕ) (form : Form) → IsForm n k form → ((U : ℕ) → U < k → get_or xs U (Int (pos 0)) ≡ get_or ys U (Int (pos 0))) → default_by k xs form ≡ default_by k ys form
default_agree xs ys n k (Form.struct Us) h e = ap Struct (pick_agree xs ys k Us e h.2)
default_agree xs ys n k form h e = refl

there : {A : Type 0} (xs : List A) (i : ℕ) → i < length xs → (v : A) × (slice_get xs i ≡ Some v)
there [] i h = absurd (omega arith)
there (x ∷ xs) zero h = (x, refl)
there (x ∷ xs) (suc i) h = there xs i (omega arith)

abbrev pub AreForms : Table → Type 0
AreForms table = (T : ℕ) (form : Form) → form_at table T ≡ Some form → IsForm (length table) T form

module _ (table : Table) (forms : AreForms table) where
  default_is : (T : ℕ) (form : Form) → form_at table T ≡ Some form → default_of table T ≡ default_by T (built default_by [] table) form
  unfolding default_of
  default_is T form e = built_at default_by (Int (pos 0)) default_agree [] table T T (length table) form e (omega arith) (forms T form e)

  -- if defaults of types below k have their shapes, so do the defaults of fields with such types
  fields_shape : (k : ℕ) → ((U : ℕ) (form : Form) → U < k → form_at table U ≡ Some form → HasShape table U (default_of table U)) → (Us : List ℕ)
      → k ≤ length table → All (λ U. U < k) Us → HaveShapes table Us (field_defaults (built default_by [] table) Us)
  unfolding HasShape default_of
  fields_shape k each [] l h = tt
  fields_shape k each (U ∷ Us) l h =
      let below : U < k = All-head (λ V. V < k) U Us h in
      let form = there table U (omega arith) in
      (each U form.0 below form.1, fields_shape k each Us l (All-tail (λ V. V < k) U Us h))

  default_fits : (k T : ℕ) (form : Form) → T < k → form_at table T ≡ Some form → IsOf table form (default_by T (built default_by [] table) form)
  unfolding HasShape
  default_fits zero T form l f = absurd (omega arith)
  default_fits (suc k) T Form.i64 l f = (refl, tt)
  default_fits (suc k) T Form.str l f = (refl, tt)
  default_fits (suc k) T (Form.vec U) l f = (tt, tt)
  default_fits (suc k) T (Form.list U) l f = (tt, tt)
  default_fits (suc k) T (Form.flat_map U) l f = (refl, tt)
  default_fits (suc k) T (Form.map U) l f = (refl, tt)
  default_fits (suc k) T (Form.own U) l f = (omega arith, tt)
  default_fits (suc k) T (Form.shared U) l f = (omega arith, tt)
  default_fits (suc k) T (Form.struct Us) l f =
      let less = forms T (Form.struct Us) f in
      let within = below_length table T (Form.struct Us) f in
      (tt, fields_shape T (λ U form below g. subst (λ v. HasShape table U v) (sym (default_is U form g)) (value_of_form table U form _ g (default_fits k U form (omega arith) g))) Us (omega arith) less.2)

  pub default_has : (T : ℕ) (form : Form) → form_at table T ≡ Some form → HasShape table T (default_of table T)
  default_has T form f = subst (λ v. HasShape table T v) (sym (default_is T form f)) (value_of_form table T form _ f (default_fits (suc T) T form (omega arith) f))

  -- what is true of all elements of a list is true of each
  place : {A : Type 0} (xs : List A) (i : ℕ) (v : A) (P : A → Type 0) → All P xs → slice_get xs i ≡ Some v → P v
  place [] i v P h e = cc
  place (x ∷ xs) zero v P h e = subst P (Some_inj e) (All-head P x xs h)
  place (x ∷ xs) (suc i) v P h e = place xs i v P (All-tail P x xs h) e

  part_below : (t : ℕ) (k : Form) (x : Selector) (u : ℕ) → t < length table → IsForm (length table) t k → part_type x k ≡ Some u → u < length table
  part_below t (Form.vec w) (Selector.item i) u lt h e = subst (λ n. n < length table) (Some_inj e) h
  part_below t (Form.list w) (Selector.item i) u lt h e = subst (λ n. n < length table) (Some_inj e) h
  part_below t (Form.flat_map w) (Selector.key z) u lt h e = subst (λ n. n < length table) (Some_inj e) h
  part_below t (Form.map w) (Selector.key z) u lt h e = subst (λ n. n < length table) (Some_inj e) h
  part_below t (Form.own w) Selector.content u lt h e = subst (λ n. n < length table) (Some_inj e) h
  part_below t (Form.shared w) Selector.content u lt h e = subst (λ n. n < length table) (Some_inj e) h
  part_below t (Form.struct ts) (Selector.field i) u lt h e = let b = place ts i u (λ n. n < t) h.2 e in omega arith
  part_below t Form.i64 (Selector.item i) u lt h e = cc
  part_below t Form.i64 (Selector.field i) u lt h e = cc
  part_below t Form.i64 (Selector.key i) u lt h e = cc
  part_below t Form.i64 Selector.content u lt h e = cc
  part_below t Form.str (Selector.item i) u lt h e = cc
  part_below t Form.str (Selector.field i) u lt h e = cc
  part_below t Form.str (Selector.key i) u lt h e = cc
  part_below t Form.str Selector.content u lt h e = cc
  part_below t (Form.shared w) (Selector.item i) u lt h e = cc
  part_below t (Form.shared w) (Selector.field i) u lt h e = cc
  part_below t (Form.shared w) (Selector.key i) u lt h e = cc
  part_below t k x u lt h e = cc

  pub part_is_entry : (t u : ℕ) (k : Form) (x : Selector) → form_at table t ≡ Some k → part_type x k ≡ Some u → (l : Form) × (form_at table u ≡ Some l)
  part_is_entry t u k x is e = there table u (part_below t k x u (below_length table t k is) (forms t k is) e)
