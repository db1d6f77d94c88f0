-- PUSH and PUSHF add a default value to a vector or a list, and PUTK adds one to a map. The new value has no shared cells.
use Rattle.std.proofs.Common.{◌≡◌, ℕ, zero, suc, ◌≤◌, ◌⊎◌, inl, inr, ℤ, Bool, true, false, List, [], ◌∷◌, ◌++◌, Option, Some, None, refl, sym, ap, ◌∙◌, subst, arith}
use Rattle.std.specs.Prelude.{⊤, ◌+◌, pos, get_or, length, insert}
use Rattle.std.specs.List.{AllByRecursion}
use Rattle.std.specs.Option.{option_map_or}
use Rattle.seg_spec.specs.Types.{Form, Table, built}
use Rattle.seg_spec.specs.Value.{Label, Value, Values, node, nil, cons, count, append, nth, Int, Seq, default_of, default_by, field_defaults, value_at, with_value_at}
use Rattle.seg_spec.specs.Items.{key_place, keys_below, insert_nth, with_entry}
use Rattle.seg_spec.specs.Reads.{Place}
use Rattle.seg_spec.specs.Frozen.{Frozen}
use Rattle.seg_spec.specs.Shared.{names_in, names_each, AreDistinct, IsBelow, replaced, replaced_each, meaning, owner_by}
use Rattle.seg_spec.proofs.Frozen.UnfoldedTreeLaws.{found}
use Rattle.seg_spec.proofs.Values.PathSplitLaws.{nth-append}
use Rattle.seg_spec.proofs.Values.PlaceFrameLaws.{each_left, each_right}
use Rattle.client_spec.specs.declared.table.Operation.{Operation}
use Rattle.client_spec.specs.Syntax.{Constant}
use Rattle.client_spec.specs.Machine.{◌>>=◌, Origin, Path, Register, State, register, set_register, owned_by, at_origin, path_value, put_at}
use Rattle.client_spec.specs.Answer.{Answer, Outcome, success, bad_alloc, answer, with_room, path_of, path_form, integer_at, vec_or_list_item, list_item, map_value, items_in, entries_in}
use Rattle.client_spec.specs.Effect.{effect}
use Rattle.client_spec.proofs.TypedStates.ValueLaws.{Some_inj, bind_some}
use Rattle.client_spec.proofs.TypedStates.StateLaws.{register_set, origin_put_same}
use Rattle.client_spec.proofs.TypedStates.PutLaws.{put_at_is, put_same}
use Rattle.client_spec.proofs.Unfolded.UnfoldedValueLaws.{append_replaced, count_replaced}

-- ---- the state

set_keeps : (s : State) (a : ℕ) (x : Register) (o : Origin) (y : Value × ℕ) → owned_by (register s a) ≡ None → at_origin s o ≡ Some y → at_origin (set_register s a x) o ≡ Some y
set_keeps s a x (Origin.Name name i) y free e = e
set_keeps s a x (Origin.Unique t) y free e = e
set_keeps s a x (Origin.Owned r) y free e = elim (register_set s a r x) [
  | inl p ↦ absurd (let f : None ≡ Some y = sym free ∙ ap (λ n. owned_by (register s n)) p.1 ∙ e in cc)
  | inr p ↦ ap owned_by p ∙ e
]

-- the value that was put is at the path, also after another register was set
pub put_there : (s : State) (p : Path) (old new : Value) (a : ℕ) (x : Register) → path_value s p ≡ Some old → owned_by (register (put_at s p new) a) ≡ None → path_value (set_register (put_at s p new) a x) p ≡ Some new
put_there s p old new a x e free =
    let root = bind_some (at_origin s p.origin) (λ root. value_at root.0 p.selectors) old e in
    let then_is = with_value_at p.selectors new root.0.0 in
    let there : at_origin (put_at s p new) p.origin ≡ Some (then_is, root.0.1) =
    ap (λ z. at_origin z p.origin) (put_at_is s p root.0.0 new root.0.1 root.1) ∙ origin_put_same s p.origin root.0.0 then_is root.0.1 root.1 in
    ap (λ o. o >>= λ (r : Value × ℕ). value_at r.0 p.selectors) (set_keeps (put_at s p new) a x p.origin (then_is, root.0.1) free there) ∙ put_same p.selectors root.0.0 old new root.2

-- an answer that is success
pub answered : (code : Answer) (a : ℕ) (x : Register) (s y : State) → answer code a x s ≡ Some (success, y) → (code ≡ success) × (owned_by (register s a) ≡ None) × (set_register s a x ≡ y)
answered code a x s y e = go (owned_by (register s a)) refl e
  where
    go : (o : Option (Value × ℕ)) → owned_by (register s a) ≡ o → option_map_or {U = Outcome} (λ _. None) o (Some (code, set_register s a x)) ≡ Some (success, y)
        → (code ≡ success) × (owned_by (register s a) ≡ None) × (set_register s a x ≡ y)
    go None f g = (ap (λ (r : Answer × State). r.0) (Some_inj g), f, ap (λ (r : Answer × State). r.1) (Some_inj g))
    go (Some z) f g = absurd (let h : None ≡ Some (success, y) = g in cc)

-- it succeeds only with room
roomy : (room : Bool) (a : ℕ) (s y : State) (o : Outcome) → with_room room a s o ≡ Some (success, y) → o ≡ Some (success, y)
roomy true a s y o e = e
roomy false a s y o e = absurd (let codes : bad_alloc ≡ success = (answered bad_alloc a _ s y e).0 in cc)

-- the outcome without an item
if_none : {A B : Type 0} (f : A → B) (o : Option A) (d : B) → o ≡ None → option_map_or f o d ≡ d
if_none f None d e = refl
if_none f (Some x) d e = absurd (let g : None ≡ Some x = sym e in cc)

abbrev pub IsAdding : Operation → Type 0
IsAdding o = (o ≡ Operation.PushBack) ⊎ (o ≡ Operation.PushFront) ⊎ (o ≡ Operation.PutKey)

-- a vector, a list or a map
abbrev pub IsContainer : Form → Type 0
IsContainer (Form.vec U) = ⊤
IsContainer (Form.list U) = ⊤
IsContainer (Form.flat_map U) = ⊤
IsContainer (Form.map U) = ⊤
IsContainer form = ⊥

-- the index of the new item
abbrev pub IndexBy : Operation → (c : ℕ) → State → Path → Values → ℕ → Type 0
IndexBy Operation.PushBack c X p was at = at ≡ count was
IndexBy Operation.PushFront c X p was at = at ≡ 0
IndexBy Operation.PutKey c X p was at = (k : ℤ) (es : List ℤ × Values) → integer_at X c ≡ Some k → (path_value X p >>= entries_in) ≡ Some es → at ≡ keys_below es.0 k
IndexBy operation c X p was at = ⊥

-- PUTK finds no entry
abbrev pub AbsentBy : Operation → (c : ℕ) → State → Path → Type 0
AbsentBy Operation.PutKey c X p = (k : ℤ) (es : List ℤ × Values) → integer_at X c ≡ Some k → (path_value X p >>= entries_in) ≡ Some es → key_place es.0 k ≡ None
AbsentBy operation c X p = ⊤

pub record Added (op : Operation) (c : ℕ) (X Y : State) (p : Path) : Type 0 where
  pub form : Form
  pub form_is : path_form X p ≡ Some form
  pub container : IsContainer form
  pub was_label : Label
  pub was : Values
  pub was_there : path_value X p ≡ Some (node was_label was)
  pub type : ℕ
  pub label : Label
  pub now : Values
  pub there : path_value Y p ≡ Some (node label now)
  pub longer : count now ≡ count was + 1
  pub at : ℕ
  pub at_is : IndexBy op c X p was at
  pub new_is : at ≤ count was → nth now at ≡ Some (default_of X.types type)

item_form : (form : Form) (t : ℕ) → vec_or_list_item form ≡ Some t → IsContainer form
item_form (Form.vec U) t e = tt
item_form (Form.list U) t e = tt
item_form form t e = absurd (let f : None ≡ Some t = e in cc)

list_form : (form : Form) (t : ℕ) → list_item form ≡ Some t → IsContainer form
list_form (Form.list U) t e = tt
list_form form t e = absurd (let f : None ≡ Some t = e in cc)

map_form : (form : Form) (t : ℕ) → map_value form ≡ Some t → IsContainer form
map_form (Form.flat_map U) t e = tt
map_form (Form.map U) t e = tt
map_form form t e = absurd (let f : None ≡ Some t = e in cc)

pub items_value : (v : Value) (vs : Values) → items_in v ≡ Some vs → v ≡ Seq vs
items_value (Seq ws) vs e = ap Seq (Some_inj e)
items_value v vs e = absurd (let f : None ≡ Some vs = e in cc)

pub entries_value : (v : Value) (es : List ℤ × Values) → entries_in v ≡ Some es → v ≡ node (Label.map es.0) es.1
entries_value (node (Label.map keys) ws) es e = ap (λ (z : List ℤ × Values). node (Label.map z.0) z.1) (Some_inj e)
entries_value v es e = absurd (let f : None ≡ Some es = e in cc)

count_append : (vs ws : Values) → count (append vs ws) ≡ count vs + count ws
count_append nil ws = omega arith
count_append (cons v vs) ws = (let rest = count_append vs ws in omega arith)

count_inserted : (vs : Values) (i : ℕ) (w : Value) → count (insert_nth vs i w) ≡ count vs + 1
count_inserted vs zero w = omega arith
count_inserted nil (suc i) w = omega arith
count_inserted (cons v vs) (suc i) w = (let rest = count_inserted vs i w in omega arith)

nth_inserted : (vs : Values) (i : ℕ) (w : Value) → i ≤ count vs → nth (insert_nth vs i w) i ≡ Some w
nth_inserted vs zero w l = refl
nth_inserted nil (suc i) w l = absurd (omega (arith, l))
nth_inserted (cons v vs) (suc i) w l = nth_inserted vs i w (omega (arith, l))

pub one_path : (X : State) (b : ℕ) (p q : Path) → path_of X b ≡ Some p → path_of X b ≡ Some q → q ≡ p
one_path X b p q e f = Some_inj (sym f ∙ e)

module _ (constants : List Constant) (a b c : ℕ) (number : ℤ) (room : Bool) (X Y : State) (p : Path) (is : path_of X b ≡ Some p) where
  back : effect constants Operation.PushBack a b c number room X ≡ Some (success, Y) → Added Operation.PushBack c X Y p
  unfolding effect
  back e =
      let q = bind_some (path_of X b) _ (success, Y) e in
      let t = bind_some (path_form X q.0 >>= vec_or_list_item) _ (success, Y) q.2 in
      let vs = bind_some (path_value X q.0 >>= items_in) _ (success, Y) t.2 in
      let form = bind_some (path_form X q.0) vec_or_list_item t.0 t.1 in
      let old = bind_some (path_value X q.0) items_in vs.0 vs.1 in
      let now = append vs.0 (cons (default_of X.types t.0) nil) in
      let given = answered success a _ (put_at X q.0 (Seq now)) Y (roomy room a X Y _ vs.2) in
      subst (Added Operation.PushBack c X Y) (one_path X b p q.0 is q.1) (record {
        form = form.0;
        form_is = form.1;
        container = item_form form.0 t.0 form.2;
        was_label = Label.seq;
        was = vs.0;
        was_there = old.1 ∙ ap Some (items_value old.0 vs.0 old.2);
        type = t.0;
        label = Label.seq;
        now = now;
        there = ap (λ z. path_value z q.0) (sym given.2) ∙ put_there X q.0 old.0 (Seq now) a _ old.1 given.1;
        longer = (let n = count_append vs.0 (cons (default_of X.types t.0) nil) in omega (arith, n));
        at = count vs.0;
        at_is = refl;
        new_is = λ l. nth-append vs.0 nil (default_of X.types t.0);
      })

  front : effect constants Operation.PushFront a b c number room X ≡ Some (success, Y) → Added Operation.PushFront c X Y p
  unfolding effect
  front e =
      let q = bind_some (path_of X b) _ (success, Y) e in
      let t = bind_some (path_form X q.0 >>= list_item) _ (success, Y) q.2 in
      let vs = bind_some (path_value X q.0 >>= items_in) _ (success, Y) t.2 in
      let form = bind_some (path_form X q.0) list_item t.0 t.1 in
      let old = bind_some (path_value X q.0) items_in vs.0 vs.1 in
      let now = cons (default_of X.types t.0) vs.0 in
      let given = answered success a _ (put_at X q.0 (Seq now)) Y (roomy room a X Y _ vs.2) in
      subst (Added Operation.PushFront c X Y) (one_path X b p q.0 is q.1) (record {
        form = form.0;
        form_is = form.1;
        container = list_form form.0 t.0 form.2;
        was_label = Label.seq;
        was = vs.0;
        was_there = old.1 ∙ ap Some (items_value old.0 vs.0 old.2);
        type = t.0;
        label = Label.seq;
        now = now;
        there = ap (λ z. path_value z q.0) (sym given.2) ∙ put_there X q.0 old.0 (Seq now) a _ old.1 given.1;
        longer = omega arith;
        at = 0;
        at_is = refl;
        new_is = λ l. refl;
      })

  put : AbsentBy Operation.PutKey c X p → effect constants Operation.PutKey a b c number room X ≡ Some (success, Y) → Added Operation.PutKey c X Y p
  unfolding effect
  put absent e =
      let q = bind_some (path_of X b) _ (success, Y) e in
      let k = bind_some (integer_at X c) _ (success, Y) q.2 in
      let t = bind_some (path_form X q.0 >>= map_value) _ (success, Y) k.2 in
      let es = bind_some (path_value X q.0 >>= entries_in) _ (success, Y) t.2 in
      let form = bind_some (path_form X q.0) map_value t.0 t.1 in
      let old = bind_some (path_value X q.0) entries_in es.0 es.1 in
      let same = one_path X b p q.0 is q.1 in
      let at = keys_below es.0.0 k.0 in
      let now = insert_nth es.0.1 at (default_of X.types t.0) in
      let none : key_place es.0.0 k.0 ≡ None = absent k.0 es.0 k.1 (ap (λ (z : Path). path_value X z >>= entries_in) (sym same) ∙ es.1) in
      let given = answered success a _ (put_at X q.0 (with_entry es.0 k.0 (default_of X.types t.0))) Y (roomy room a X Y _ (sym (if_none _ (key_place es.0.0 k.0) _ none) ∙ es.2)) in
      subst (Added Operation.PutKey c X Y) same (record {
        form = form.0;
        form_is = form.1;
        container = map_form form.0 t.0 form.2;
        was_label = Label.map es.0.0;
        was = es.0.1;
        was_there = old.1 ∙ ap Some (entries_value old.0 es.0 old.2);
        type = t.0;
        label = Label.map (insert es.0.0 at k.0);
        now = now;
        there = ap (λ z. path_value z q.0) (sym given.2) ∙ put_there X q.0 old.0 (with_entry es.0 k.0 (default_of X.types t.0)) a _ old.1 given.1;
        longer = count_inserted es.0.1 at (default_of X.types t.0);
        at = at;
        at_is = λ j fs f g. (
            let keys : k.0 ≡ j = Some_inj (sym k.1 ∙ f) in
            let entries : es.0 ≡ fs = Some_inj (sym es.1 ∙ g) in
            λ x. keys_below (entries x).0 (keys x));
        new_is = nth_inserted es.0.1 at (default_of X.types t.0);
      })

  pub adds : (op : Operation) → IsAdding op → AbsentBy op c X p → effect constants op a b c number room X ≡ Some (success, Y) → Added op c X Y p
  adds op (inl e) absent f = subst (λ o. Added o c X Y p) (sym e) (back (subst (λ o. effect constants o a b c number room X ≡ Some (success, Y)) e f))
  adds op (inr (inl e)) absent f = subst (λ o. Added o c X Y p) (sym e) (front (subst (λ o. effect constants o a b c number room X ≡ Some (success, Y)) e f))
  adds op (inr (inr e)) absent f =
      subst (λ o. Added o c X Y p) (sym e) (put (subst (λ o. AbsentBy o c X p) e absent) (subst (λ o. effect constants o a b c number room X ≡ Some (success, Y)) e f))

-- ---- values in which no owner is full

mutual
  pub data NoContent : Value → Type 0 where
    no_content : {label : Label} {vs : Values} → (label ≡ Label.opt → vs ≡ nil) → NoneFull vs → NoContent (node label vs)

  pub data NoneFull : Values → Type 0 where
    none_full : NoneFull nil
    none_more : {v : Value} {vs : Values} → NoContent v → NoneFull vs → NoneFull (cons v vs)

bare : (label : Label) → NoContent (node label nil)
bare label = no_content (λ e. refl) none_full

get_empty : (vs : List Value) (T : ℕ) → AllByRecursion NoContent vs → NoContent (get_or vs T (Int (pos 0)))
get_empty [] T a = bare (Label.int (pos 0))
get_empty (v ∷ vs) zero a = a.0
get_empty (v ∷ vs) (suc T) a = get_empty vs T a.1

fields_empty : (before : List Value) (Us : List ℕ) → AllByRecursion NoContent before → NoneFull (field_defaults before Us)
fields_empty before [] a = none_full
fields_empty before (U ∷ Us) a = none_more (get_empty before U a) (fields_empty before Us a)

form_empty : (T : ℕ) (before : List Value) (form : Form) → AllByRecursion NoContent before → NoContent (default_by T before form)
form_empty T before Form.i64 a = bare (Label.int (pos 0))
form_empty T before Form.str a = bare (Label.text [])
form_empty T before (Form.vec U) a = bare Label.seq
form_empty T before (Form.list U) a = bare Label.seq
form_empty T before (Form.flat_map U) a = bare (Label.map [])
form_empty T before (Form.map U) a = bare (Label.map [])
form_empty T before (Form.own U) a = bare Label.opt
form_empty T before (Form.struct Us) a = no_content (λ e. cc) (fields_empty before Us a)
form_empty T before (Form.shared U) a = bare Label.opt

joined : (xs ys : List Value) → AllByRecursion NoContent xs → AllByRecursion NoContent ys → AllByRecursion NoContent (xs ++ ys)
joined [] ys a b = b
joined (x ∷ xs) ys a b = (a.0, joined xs ys a.1 b)

built_empty : (before : List Value) (table : Table) → AllByRecursion NoContent before → AllByRecursion NoContent (built default_by before table)
built_empty before [] a = a
built_empty before (form ∷ table) a =
    built_empty (before ++ default_by (length before) before form ∷ []) table (joined before (default_by (length before) before form ∷ []) a (form_empty (length before) before form a, tt))

pub default_empty : (table : Table) (T : ℕ) → NoContent (default_of table T)
unfolding default_of
default_empty table T = get_empty (built default_by [] table) T (built_empty [] table tt)

-- ---- shared cells

full_not : (u : Value) → NoContent (node Label.opt (cons u nil)) → ⊥
full_not u (no_content f g) = absurd (let e : cons u nil ≡ nil = f refl in cc)

inside_none : (label : Label) (vs : Values) → NoContent (node label vs) → NoneFull vs
inside_none label vs (no_content f g) = g

no_names : (xs ys : List Place) → xs ≡ [] → ys ≡ [] → xs ++ ys ≡ []
no_names xs ys e f = λ i. e i ++ f i

-- the copy for a cell is a full owner
abbrev pub FullAt : (ℕ → Value) → Place → Type 0
FullAt m q = (u : Value) × (m q.at ≡ node Label.opt (cons u nil))

module _ (m : ℕ → Value) where
  mutual
    unfolding replaced names_in

    -- if no owner is full in the copy, the value has no shared cells
    pub no_cells : (v : Value) → NoContent (replaced m v) → AllByRecursion (FullAt m) (names_in v) → names_in v ≡ []
    no_cells (node (Label.shared T p) vs) none full = absurd (full_not full.0.0 (subst NoContent full.0.1 none))
    no_cells (node (Label.int k) vs) none full = no_cells_each vs (inside_none (Label.int k) (replaced_each m vs) none) full
    no_cells (node (Label.text bytes) vs) none full = no_cells_each vs (inside_none (Label.text bytes) (replaced_each m vs) none) full
    no_cells (node Label.seq vs) none full = no_cells_each vs (inside_none Label.seq (replaced_each m vs) none) full
    no_cells (node (Label.map keys) vs) none full = no_cells_each vs (inside_none (Label.map keys) (replaced_each m vs) none) full
    no_cells (node Label.opt vs) none full = no_cells_each vs (inside_none Label.opt (replaced_each m vs) none) full
    no_cells (node Label.struct vs) none full = no_cells_each vs (inside_none Label.struct (replaced_each m vs) none) full

    no_cells_each : (vs : Values) → NoneFull (replaced_each m vs) → AllByRecursion (FullAt m) (names_each vs) → names_each vs ≡ []
    no_cells_each nil none full = refl
    no_cells_each (cons v vs) (none_more n ns) full =
        no_names (names_in v) (names_each vs) (no_cells v n (each_left (FullAt m) (names_in v) (names_each vs) full)) (no_cells_each vs ns (each_right (FullAt m) (names_in v) (names_each vs) full))

module _ (fs : List Frozen) (distinct : AreDistinct fs) (falling : AllByRecursion (λ (f : Frozen). AllByRecursion (IsBelow f.number fs) (names_in f.value)) fs) where
  none_below : (gs : List Frozen) (q : Place) → IsBelow zero gs q → ⊥
  none_below [] q b = b
  none_below (g ∷ gs) q (inl b) = absurd (omega (arith, b.2))
  none_below (g ∷ gs) q (inr b) = none_below gs q b

  pub full_at : (n : ℕ) (q : Place) → IsBelow n fs q → FullAt (meaning n fs) q
  unfolding meaning
  full_at zero q b = absurd (none_below fs q b)
  full_at (suc n) q b =
      let f = found (suc n) fs q distinct falling b in
      (replaced (meaning n fs) f.object.value, ap (owner_by (λ v. replaced (meaning n fs) v)) f.value_is)

-- ---- the new value among the others

-- after as many values, the next one is the same
pub next_one : (xs ys zs ws : Values) (x y : Value) → count xs ≡ count ys → append xs (cons x zs) ≡ append ys (cons y ws) → x ≡ y
next_one nil nil zs ws x y l e = cc
next_one nil (cons v ys) zs ws x y l e = absurd (omega (arith, l))
next_one (cons v xs) nil zs ws x y l e = absurd (omega (arith, l))
next_one (cons v xs) (cons w ys) zs ws x y l e = next_one xs ys zs ws x y (omega (arith, l)) (let more : append xs (cons x zs) ≡ append ys (cons y ws) = cc in more)

-- the item at the index of the new one
pub item_is : (m : ℕ → Value) (left right : Values) (v : Value) (now : Values) (at : ℕ) (new : Value) → count left ≡ at → nth now at ≡ Some new → replaced_each m (append left (cons v right)) ≡ now → replaced m v ≡ new
unfolding replaced
item_is m left right v now at new long there e =
    let values : append (replaced_each m left) (cons (replaced m v) (replaced_each m right)) ≡ now = sym (append_replaced m left (cons v right)) ∙ e in
    let index : count (replaced_each m left) ≡ at = count_replaced m left ∙ long in
    Some_inj (sym (nth-append (replaced_each m left) (replaced_each m right) (replaced m v)) ∙ (λ j. nth (values j) (index j)) ∙ there)

-- the cells of one of several values
pub cells_between : (P : Place → Type 0) (left right : Values) (v : Value) → AllByRecursion P (names_each (append left (cons v right))) → AllByRecursion P (names_in v)
unfolding names_in
cells_between P nil right v a = each_left P (names_in v) (names_each right) a
cells_between P (cons u left) right v a = cells_between P left right v (each_right P (names_in u) (names_each (append left (cons v right))) a)

-- with a value without cells between them, the values have the cells that they had
pub cells_with : (P : Place → Type 0) (left right : Values) (v : Value) → names_in v ≡ [] → AllByRecursion P (names_each (append left right)) → AllByRecursion P (names_each (append left (cons v right)))
unfolding names_in
cells_with P nil right v none a = subst (λ qs. AllByRecursion P (qs ++ names_each right)) (sym none) a
cells_with P (cons u left) right v none a =
    both (names_in u) (names_each (append left (cons v right))) (each_left P (names_in u) (names_each (append left right)) a) (cells_with P left right v none (each_right P (names_in u) (names_each (append left right)) a))
  where
    both : (xs ys : List Place) → AllByRecursion P xs → AllByRecursion P ys → AllByRecursion P (xs ++ ys)
    both [] ys a b = b
    both (x ∷ xs) ys a b = (a.0, both xs ys a.1 b)

-- ---- labels of containers

-- The label stays in the state that clients see, and it is no shared cell.
pub record SeenLabel (label : Label) : Type 0 where
  pub trees : (m : ℕ → Value) (vs : Values) → replaced m (node label vs) ≡ node label (replaced_each m vs)
  pub cells : (vs : Values) → names_in (node label vs) ≡ names_each vs

pub seq_seen : SeenLabel Label.seq
unfolding replaced names_in
seq_seen = record { trees = λ m vs. refl; cells = λ vs. refl }

pub map_seen : (keys : List ℤ) → SeenLabel (Label.map keys)
unfolding replaced names_in
map_seen keys = record { trees = λ m vs. refl; cells = λ vs. refl }

pub values_in : {a b : Label} {vs ws : Values} → node a vs ≡ node b ws → vs ≡ ws
values_in e = cc

pub label_in : {a b : Label} {vs ws : Values} → node a vs ≡ node b ws → a ≡ b
label_in e = cc
