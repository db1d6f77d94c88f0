-- The form of a value, from what its type needs, and the positions of keys.
use Rattle.std.proofs.Common.{◌≡◌, ℕ, zero, suc, ◌+◌, ◌<◌, ℤ, pos, negsuc, List, [], ◌∷◌, ◌++◌, length, Option, Some, None, refl, sym, ◌∙◌, ap, subst, arith, inl, inr, cond, true, false, Bool, length-append, length-take, length-drop}
use Rattle.std.specs.Prelude.{◌⊎◌, ⊤, slice_get, option_and_then, ◌&&◌, not, if◌then◌else◌, nat_lt, int_lt, nat_le, insert, remove, Ok}
use Rattle.std.specs.List.{position_or_len, prefix_len}
use Rattle.std.proofs.lemmas.Bool.{ltb-true, lt-ltb}
use Rattle.seg_spec.specs.Value.{Label, Value, node, Text, Seq, Map, Empty, Full, Struct, Values, nil, cons, count, append, nth, Selector, same_int, copies, selected}
use Rattle.seg_spec.specs.Types.{Form, Table}
use Rattle.client_spec.specs.Machine.{part_type, ◌>>=◌}
use Rattle.client_spec.specs.Shape.{HasShape, AllHaveShape}
use Rattle.client_spec.specs.Answer.{index_below, object_count, content_in, length_in, vec_or_list_item, list_item, map_value, owned_type, constant_text}
use Rattle.client_spec.specs.Typed.{is_str, is_map, has_length, field_type, Class, RegisterType, Reason, reference_needed, required, text_needed, can_pop, can_shrink, item_known}
use Rattle.client_spec.proofs.TypedStates.ValueLaws.{Some_inj}
use Rattle.client_spec.proofs.TypedStates.ShapeLaws.{IsOf, same_fields}
use Rattle.client_spec.proofs.Rows.RuleRowLaws.{nth_at, Ok_inj, nth_below}
use Rattle.seg_spec.specs.Block.{has_buffer}
use Rattle.seg_spec.specs.Items.{key_place, insert_nth, remove_nth}
use Rattle.client_spec.specs.Syntax.{Constant}

-- the form of a value whose type has passed a test
pub text_value : (types : Table) (k : Form) (v : Value) (u : ⊤) → is_str k ≡ Some u → IsOf types k v → (bytes : List ℕ) × (v ≡ Text bytes)
text_value types Form.str (node (Label.text bytes) nil) u e f = (bytes, refl)
text_value types Form.str (node (Label.text bytes) (cons w ws)) u e f = let g = f.0 in absurd (omega arith)
text_value types Form.str v u e f = absurd f.0
text_value types k v u e f = cc

pub items_value : (types : Table) (k : Form) (v : Value) (t : ℕ) → vec_or_list_item k ≡ Some t → IsOf types k v → (vs : Values) × (v ≡ Seq vs) × AllHaveShape types t vs × ((ws : Values) → AllHaveShape types t ws → IsOf types k (Seq ws))
items_value types (Form.vec t) (node Label.seq vs) u e f = (vs, refl, subst (λ n. AllHaveShape types n vs) (Some_inj e) f.1, λ ws g. (tt, subst (λ n. AllHaveShape types n ws) (sym (Some_inj e)) g))
items_value types (Form.list t) (node Label.seq vs) u e f = (vs, refl, subst (λ n. AllHaveShape types n vs) (Some_inj e) f.1, λ ws g. (tt, subst (λ n. AllHaveShape types n ws) (sym (Some_inj e)) g))
items_value types (Form.vec t) v u e f = absurd f.0
items_value types (Form.list t) v u e f = absurd f.0
items_value types k v u e f = cc

pub entries_value : (types : Table) (k : Form) (v : Value) (t : ℕ)
    → map_value k ≡ Some t → IsOf types k v → (keys : List ℤ) × (vs : Values) × (v ≡ Map keys vs) × AllHaveShape types t vs × (length keys ≡ count vs)
    × ((ks : List ℤ) (ws : Values) → AllHaveShape types t ws → length ks ≡ count ws → IsOf types k (Map ks ws))
entries_value types (Form.flat_map t) (node (Label.map keys) vs) u e f = (keys, vs, refl, subst (λ n. AllHaveShape types n vs) (Some_inj e) f.1, f.0, λ ks ws g l. (l, subst (λ n. AllHaveShape types n ws) (sym (Some_inj e)) g))
entries_value types (Form.map t) (node (Label.map keys) vs) u e f = (keys, vs, refl, subst (λ n. AllHaveShape types n vs) (Some_inj e) f.1, f.0, λ ks ws g l. (l, subst (λ n. AllHaveShape types n ws) (sym (Some_inj e)) g))
entries_value types (Form.flat_map t) v u e f = absurd f.0
entries_value types (Form.map t) v u e f = absurd f.0
entries_value types k v u e f = cc

-- an item of a list is one of a vec or list, and a map has a type of values
pub list_is_item : (k : Form) (t : ℕ) → list_item k ≡ Some t → vec_or_list_item k ≡ Some t
list_is_item (Form.list t) u e = e
list_is_item k u e = cc

pub map_has_value : (k : Form) (u : ⊤) → is_map k ≡ Some u → (t : ℕ) × (map_value k ≡ Some t)
map_has_value (Form.flat_map t) u e = (t, refl)
map_has_value (Form.map t) u e = (t, refl)
map_has_value k u e = cc

pub own_value : (types : Table) (k : Form) (v : Value) (t : ℕ) → owned_type k ≡ Some t → IsOf types k v → (content_in v ≡ Some None) ⊎ ((w : Value) × (v ≡ Full w) × HasShape types t w)
unfolding HasShape
own_value types (Form.own t) (node Label.opt nil) u e f = inl refl
own_value types (Form.own t) (node Label.opt (cons w nil)) u e f = inr (w, refl, subst (λ n. HasShape types n w) (Some_inj e) f.1.0)
own_value types (Form.own t) (node Label.opt (cons w (cons x xs))) u e f = let g = f.0 in absurd (omega arith)
own_value types (Form.own t) v u e f = absurd f.0
own_value types k v u e f = cc

pub own_fits : (types : Table) (k : Form) (t : ℕ) → owned_type k ≡ Some t → IsOf types k Empty × ((w : Value) → HasShape types t w → IsOf types k (Full w))
unfolding HasShape
own_fits types (Form.own t) u e = ((omega arith, tt), λ w f. (omega arith, (subst (λ n. HasShape types n w) (sym (Some_inj e)) f, tt)))
own_fits types k u e = cc

pub text_fits : (types : Table) (k : Form) (u : ⊤) (bytes : List ℕ) → is_str k ≡ Some u → IsOf types k (Text bytes)
unfolding HasShape
text_fits types Form.str u bytes e = (refl, tt)
text_fits types k u bytes e = cc

-- a valid count is above 0
pub count_positive : (x : ℤ) (n : ℕ) → object_count x ≡ Some n → 0 < n
count_positive (negsuc m) n e = cc
count_positive (pos m) n e = choose (nat_lt 0 m) (nat_le m 65535) refl e
  where
    choose : (p q : Bool) → nat_lt 0 m ≡ p → (if p && q then Some m else None) ≡ Some n → 0 < n
    choose true true f g = subst (λ j. 0 < j) (Some_inj g) (ltb-true 0 m f)
    choose true false f g = cc
    choose false q f g = cc

-- a part of a type's entry has this type
pub item_part : (k : Form) (t n : ℕ) → vec_or_list_item k ≡ Some t → part_type (Selector.item n) k ≡ Some t
item_part (Form.vec u) t n e = e
item_part (Form.list u) t n e = e
item_part k t n e = cc

pub key_part : (k : Form) (t : ℕ) (z : ℤ) → map_value k ≡ Some t → part_type (Selector.key z) k ≡ Some t
key_part (Form.flat_map u) t z e = e
key_part (Form.map u) t z e = e
key_part k t z e = cc

pub content_part : (k : Form) (t : ℕ) → owned_type k ≡ Some t → part_type Selector.content k ≡ Some t
content_part (Form.own u) t e = e
content_part k t e = cc

pub last_item : (vs : Values) (v : Value) → nth (append vs (cons v nil)) (count vs) ≡ Some v
last_item nil v = refl
last_item (cons w vs) v = last_item vs v

-- a field that a rule has found exists in the value
pub field_value : (types : Table) (k : Form) (v : Value) (t : ℕ) (number : ℤ) → field_type number k ≡ Some t → IsOf types k v → (vs : Values) × (i : ℕ)
    × (w : Value) × (v ≡ Struct vs) × (index_below (count vs) number ≡ Some i) × (nth vs i ≡ Some w) × (part_type (Selector.field i) k ≡ Some t)
field_value types (Form.struct ts) (node Label.struct vs) t number e f =
    let l = same_fields types ts vs f.1 in
    let i = index_of (index_below (length ts) number) ts t e in
    let at : index_below (count vs) number ≡ Some i.0 = ap (λ n. index_below n number) l ∙ i.1 in
    let w = nth_at vs number i.0 at in
    (vs, i.0, w.0, refl, at, w.1, i.2)
  where
    index_of : (o : Option ℕ) (ts : List ℕ) (t : ℕ) → option_and_then (slice_get ts) o ≡ Some t → (i : ℕ) × (o ≡ Some i) × (slice_get ts i ≡ Some t)
    index_of None ts t e = cc
    index_of (Some i) ts t e = (i, refl, e)
field_value types (Form.struct ts) v t number e f = absurd f.0
field_value types k v t number e f = cc

pub length_value : (types : Table) (k : Form) (v : Value) (u : ⊤) → has_length k ≡ Some u → IsOf types k v → (n : ℕ) × (length_in v ≡ Some n)
length_value types Form.str (node (Label.text bytes) nil) u e f = (length bytes, refl)
length_value types Form.str (node (Label.text bytes) (cons w ws)) u e f = let g = f.0 in absurd (omega arith)
length_value types (Form.vec t) (node Label.seq vs) u e f = (count vs, refl)
length_value types (Form.list t) (node Label.seq vs) u e f = (count vs, refl)
length_value types (Form.flat_map t) (node (Label.map keys) vs) u e f = (count vs, refl)
length_value types (Form.map t) (node (Label.map keys) vs) u e f = (count vs, refl)
length_value types Form.i64 v u e f = cc
length_value types (Form.own t) v u e f = cc
length_value types (Form.struct t) v u e f = cc
length_value types (Form.shared t) v u e f = cc
length_value types k v u e f = absurd f.0

-- the position of a key is below the number of keys
pub place_below : (keys : List ℤ) (k : ℤ) (i : ℕ) → key_place keys k ≡ Some i → i < length keys
place_below keys k i e = choose (nat_lt (position_or_len (same_int k) keys) (length keys)) refl e
  where
    choose : (b : Bool) → nat_lt (position_or_len (same_int k) keys) (length keys) ≡ b → cond b (Some (position_or_len (same_int k) keys)) None ≡ Some i → i < length keys
    choose true f g = subst (λ j. j < length keys) (Some_inj g) (ltb-true _ _ f)
    choose false f g = cc

pub nat_not_below : (n : ℕ) → nat_lt n n ≡ false
nat_not_below n = choose (nat_lt n n) refl
  where
    choose : (b : Bool) → nat_lt n n ≡ b → b ≡ false
    choose true e = let l = ltb-true n n e in absurd (omega arith)
    choose false e = refl

pub not_below : (k : ℤ) → int_lt k k ≡ false
not_below (pos n) = nat_not_below n
not_below (negsuc n) = nat_not_below n

pub same_int_refl : (k : ℤ) → same_int k k ≡ true
same_int_refl k = ap (λ b. not b && not b) (not_below k)

-- a search that ends at an item of the list ends within the list
pub stops : {X : Type 0} (q : X → Bool) (xs : List X) (y : X) (ys : List X) → q y ≡ false → prefix_len q (xs ++ y ∷ ys) < length (xs ++ y ∷ ys)
stops q [] y ys e = subst (λ b. cond b (1 + prefix_len q ys) 0 < suc (length ys)) (sym e) (omega arith)
stops q (x ∷ xs) y ys e = one_more (q x) (prefix_len q (xs ++ y ∷ ys)) (length (xs ++ y ∷ ys)) (stops q xs y ys e)
  where
    one_more : (b : Bool) (m n : ℕ) → m < n → cond b (1 + m) 0 < suc n
    one_more true m n h = omega arith
    one_more false m n h = omega arith

pub key_in : (xs ys : List ℤ) (k : ℤ) → (j : ℕ) × (key_place (xs ++ k ∷ ys) k ≡ Some j)
key_in xs ys k =
    let all = xs ++ k ∷ ys in
    let lt = stops (λ x. not (same_int k x)) xs k ys (ap not (same_int_refl k)) in
    (position_or_len (same_int k) all, ap (λ b. cond b (Some (position_or_len (same_int k) all)) None) (lt-ltb _ _ lt))

pub count_insert : (vs : Values) (i : ℕ) (v : Value) → count (insert_nth vs i v) ≡ suc (count vs)
count_insert nil zero v = refl
count_insert nil (suc i) v = refl
count_insert (cons w vs) zero v = refl
count_insert (cons w vs) (suc i) v = ap suc (count_insert vs i v)

pub length_insert : (keys : List ℤ) (i : ℕ) (k : ℤ) → length (insert keys i k) ≡ suc (length keys)
length_insert keys i k = simp (length-append, length-take, length-drop) (omega arith)

-- after one entry is removed, keys and values are still equally many
pub remove_length : (keys : List ℤ) (vs : Values) (i : ℕ) → length keys ≡ count vs → length (remove keys i) ≡ count (remove_nth vs i)
remove_length [] nil i e = simp (length-append, length-take, length-drop) (omega arith)
remove_length [] (cons v vs) i e = absurd (omega arith)
remove_length (k ∷ keys) nil i e = absurd (omega arith)
remove_length (k ∷ keys) (cons v vs) zero e = omega arith
remove_length (k ∷ keys) (cons v vs) (suc i) e = ap suc (remove_length keys vs i (omega arith))

pub reference_is : (k : RegisterType) (x : Class × ℕ) → reference_needed k ≡ Ok x → k ≡ RegisterType.Reference x.0 x.1
reference_is RegisterType.Undefined x e = cc
reference_is RegisterType.Int x e = cc
reference_is (RegisterType.Reference c t) x e = ap (λ (p : Class × ℕ). RegisterType.Reference p.0 p.1) (Ok_inj e)
reference_is (RegisterType.Owner t) x e = cc

pub text_found : (o : Option Constant) (u : ⊤) → text_needed o ≡ Ok u → (bytes : List ℕ) × ((o >>= constant_text) ≡ Some bytes)
text_found None u e = cc
text_found (Some (Constant.Text bytes)) u e = (bytes, refl)
text_found (Some (Constant.Name name)) u e = cc
text_found (Some (Constant.Family prefix)) u e = cc

-- the first of n equal values exists if n isn't 0
pub first_of_many : (n : ℕ) (v : Value) → 0 < n → (w : Value) × (nth (copies n v) 0 ≡ Some w)
first_of_many zero v lt = absurd (omega arith)
first_of_many (suc n) v lt = (v, refl)

-- a type that can be popped is a str, vec or list
pub popped : (k : Form) (u : ⊤) → can_pop k ≡ Some u → (is_str k ≡ Some tt) ⊎ ((t : ℕ) × (vec_or_list_item k ≡ Some t))
popped Form.str u e = inl refl
popped (Form.vec t) u e = inr (t, refl)
popped (Form.list t) u e = inr (t, refl)
popped k u e = cc

pub required_is : (b : Bool) (r : Reason) (u : ⊤) → required b r ≡ Ok u → b ≡ true
required_is true r u e = refl
required_is false r u e = cc

pub not_is : (b : Bool) → not b ≡ true → b ≡ false
not_is true e = cc
not_is false e = refl

-- a value that AT can read is a text or a sequence
pub at_value : (types : Table) (class : Class) (k : Form) (v : Value) (x : RegisterType)
    → item_known class k ≡ Some x → IsOf types k v → ((x ≡ RegisterType.Int) × ((bytes : List ℕ) × (v ≡ Text bytes)))
    ⊎ ((t : ℕ) × (vs : Values) × (x ≡ RegisterType.Reference class t) × (v ≡ Seq vs) × (vec_or_list_item k ≡ Some t))
at_value types class Form.str (node (Label.text bytes) nil) x e f = inl (sym (Some_inj e), (bytes, refl))
at_value types class Form.str (node (Label.text bytes) (cons w ws)) x e f = let g = f.0 in absurd (omega arith)
at_value types class (Form.vec t) (node Label.seq vs) x e f = inr (t, vs, sym (Some_inj e), refl, refl)
at_value types class (Form.list t) (node Label.seq vs) x e f = inr (t, vs, sym (Some_inj e), refl, refl)
at_value types class Form.str v x e f = absurd f.0
at_value types class (Form.vec t) v x e f = absurd f.0
at_value types class (Form.list t) v x e f = absurd f.0
at_value types class k v x e f = cc

-- an existing key has a value
pub value_at_key : (keys : List ℤ) (vs : Values) (z : ℤ) (i : ℕ) → length keys ≡ count vs → key_place keys z ≡ Some i → (w : Value) × (selected (Map keys vs) (Selector.key z) ≡ Some w)
value_at_key keys vs z i l e =
    let w = nth_below vs i (let p = place_below keys z i e in omega arith) in
    (w.0, ap (λ o. option_and_then (λ i. nth vs i) o) e ∙ w.1)

pub shrinks : (k : Form) (u : ⊤) → can_shrink k ≡ Some u → has_buffer (Some k) ≡ true
shrinks k u e = choose (has_buffer (Some k)) e
  where
    choose : (b : Bool) → (if b then Some tt else None) ≡ Some u → b ≡ true
    choose true f = refl
    choose false f = cc
