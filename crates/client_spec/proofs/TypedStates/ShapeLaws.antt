-- The label of a value, by the form of its type, and the shapes of lists of values.
use Rattle.std.proofs.Common.{◌≡◌, ℕ, zero, suc, List, [], ◌∷◌, length, Some, refl, ap}
use Rattle.seg_spec.specs.Types.{Form, Table, form_at}
use Rattle.seg_spec.specs.Value.{Value, node, Values, nil, cons, count, append, copies, types_inside}
use Rattle.seg_spec.specs.Items.{without_last, insert_nth, remove_nth}
use Rattle.client_spec.specs.Shape.{IsLabel, HasShape, HaveShapes, AllHaveShape}
use Rattle.client_spec.proofs.TypedStates.ValueLaws.{shape_parts}

-- the value is of this form
abbrev pub IsOf : Table → Form → Value → Type 0
IsOf table k (node label vs) = IsLabel k label (count vs) × HaveShapes table (types_inside k (count vs)) vs

pub form_of_value : (table : Table) (t : ℕ) (k : Form) → form_at table t ≡ Some k → (v : Value) → HasShape table t v → IsOf table k v
form_of_value table t k is (node label vs) h = shape_parts table t k is label vs h

pub value_of_form : (table : Table) (t : ℕ) (k : Form) (v : Value) → form_at table t ≡ Some k → IsOf table k v → HasShape table t v
unfolding HasShape
value_of_form table t k (node label vs) is h = (k, is, h.0, h.1)

pub has_form : (table : Table) (t : ℕ) (v : Value) → HasShape table t v → (k : Form) × (form_at table t ≡ Some k)
unfolding HasShape
has_form table t (node label vs) h = (h.0, h.1)

-- ---- lists of values of one type

pub all_copies : (table : Table) (t n : ℕ) (v : Value) → HasShape table t v → AllHaveShape table t (copies n v)
unfolding HasShape
all_copies table t zero v h = tt
all_copies table t (suc n) v h = (h, all_copies table t n v h)

pub all_append_one : (table : Table) (t : ℕ) (vs : Values) (v : Value) → AllHaveShape table t vs → HasShape table t v → AllHaveShape table t (append vs (cons v nil))
unfolding HasShape
all_append_one table t nil v h g = (g, tt)
all_append_one table t (cons w vs) v h g = (h.0, all_append_one table t vs v h.1 g)

pub all_cons : (table : Table) (t : ℕ) (v : Value) (vs : Values) → HasShape table t v → AllHaveShape table t vs → AllHaveShape table t (cons v vs)
unfolding HasShape
all_cons table t v vs h g = (h, g)

pub all_tail : (table : Table) (t : ℕ) (v : Value) (vs : Values) → AllHaveShape table t (cons v vs) → AllHaveShape table t vs
unfolding HasShape
all_tail table t v vs h = h.1

pub all_without_last : (table : Table) (t : ℕ) (vs : Values) → AllHaveShape table t vs → AllHaveShape table t (without_last vs)
unfolding HasShape
all_without_last table t nil h = tt
all_without_last table t (cons v nil) h = tt
all_without_last table t (cons v (cons w ws)) h = (h.0, all_without_last table t (cons w ws) h.1)

pub all_insert : (table : Table) (t : ℕ) (vs : Values) (i : ℕ) (v : Value) → AllHaveShape table t vs → HasShape table t v → AllHaveShape table t (insert_nth vs i v)
unfolding HasShape
all_insert table t nil zero v h g = (g, tt)
all_insert table t nil (suc i) v h g = (g, tt)
all_insert table t (cons w vs) zero v h g = (g, h)
all_insert table t (cons w vs) (suc i) v h g = (h.0, all_insert table t vs i v h.1 g)

pub all_remove : (table : Table) (t : ℕ) (vs : Values) (i : ℕ) → AllHaveShape table t vs → AllHaveShape table t (remove_nth vs i)
unfolding HasShape
all_remove table t nil i h = tt
all_remove table t (cons w vs) zero h = h.1
all_remove table t (cons w vs) (suc i) h = (h.0, all_remove table t vs i h.1)

-- a struct has as many fields as types
pub same_fields : (table : Table) (Ts : List ℕ) (vs : Values) → HaveShapes table Ts vs → count vs ≡ length Ts
unfolding HasShape
same_fields table [] nil h = refl
same_fields table [] (cons v vs) h = absurd h
same_fields table (T ∷ Ts) nil h = absurd h
same_fields table (T ∷ Ts) (cons v vs) h = ap suc (same_fields table Ts vs h.1)
