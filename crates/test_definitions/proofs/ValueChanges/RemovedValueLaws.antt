-- POP, POPF and DELK remove one value from a vector, a list or a map, or POP the last byte of a text.
use Rattle.std.proofs.Common.{◌≡◌, ℕ, zero, suc, ◌+◌, ◌≤◌, ◌⊎◌, inl, inr, ℤ, Bool, List, Option, Some, None, refl, sym, ap, ◌∙◌, subst, arith}
use Rattle.std.specs.Prelude.{⊤, pos, length, remove}
use Rattle.std.specs.Option.{option_map_or}
use Rattle.std.proofs.lemmas.List.Quantifiers.{position-Some}
use Rattle.seg_spec.specs.Types.{Form, Table}
use Rattle.seg_spec.specs.Value.{Label, Value, Values, node, nil, cons, count, Text, Seq, Map, same_int}
use Rattle.seg_spec.specs.Items.{without_last, key_place, remove_nth, without_entry}
use Rattle.seg_spec.proofs.Frozen.ValueCellLaws.{count_without_last}
use Rattle.client_spec.specs.declared.table.Operation.{Operation}
use Rattle.client_spec.specs.Syntax.{Constant}
use Rattle.client_spec.specs.Machine.{◌>>=◌, Path, State, path_value, put_at}
use Rattle.client_spec.specs.Answer.{Outcome, success, null_or_none, path_of, path_form, integer_at, list_item, text_in, items_in, entries_in, give_count}
use Rattle.client_spec.specs.Effect.{effect, pop_bytes, pop_last, pop_first}
use Rattle.client_spec.proofs.TypedStates.ShapeLaws.{IsOf}
use Rattle.client_spec.proofs.TypedStates.ValueLaws.{bind_some}
use Rattle.test_definitions.proofs.ValueChanges.AddedValueLaws.{IsContainer, put_there, answered, one_path, items_value, entries_value}

abbrev pub IsRemoving : Operation → Type 0
IsRemoving o = (o ≡ Operation.PopBack) ⊎ (o ≡ Operation.PopFront) ⊎ (o ≡ Operation.DeleteKey)

-- what follows for each of the three
pub by_three : (P : Operation → Type 0) (o : Operation) → IsRemoving o → P Operation.PopBack → P Operation.PopFront → P Operation.DeleteKey → P o
by_three P o (inl e) a b c = subst P (sym e) a
by_three P o (inr (inl e)) a b c = subst P (sym e) b
by_three P o (inr (inr e)) a b c = subst P (sym e) c

-- DELK finds the key
abbrev pub PresentBy : Operation → (c : ℕ) → State → Path → Type 0
PresentBy Operation.DeleteKey c X p = (j : ℕ) × ((k : ℤ) (es : List ℤ × Values) → integer_at X c ≡ Some k → (path_value X p >>= entries_in) ≡ Some es → key_place es.0 k ≡ Some j)
PresentBy op c X p = ⊤

-- a vector, a list or a map with one value less
pub record Fewer (X Y : State) (p : Path) (form : Form) : Type 0 where
  pub container : IsContainer form
  pub was_label : Label
  pub was : Values
  pub was_there : path_value X p ≡ Some (node was_label was)
  pub label : Label
  pub now : Values
  pub there : path_value Y p ≡ Some (node label now)
  pub shorter : count was ≡ count now + 1

text_form : (table : Table) (form : Form) (bytes : List ℕ) → IsOf table form (Text bytes) → form ≡ Form.str
text_form table Form.str bytes is = refl
text_form table form bytes is = absurd is.0

items_form : (table : Table) (form : Form) (vs : Values) → IsOf table form (Seq vs) → IsContainer form
items_form table (Form.vec U) vs is = tt
items_form table (Form.list U) vs is = tt
items_form table form vs is = absurd is.0

entries_form : (table : Table) (form : Form) (keys : List ℤ) (vs : Values) → IsOf table form (Map keys vs) → IsContainer form × (length keys ≡ count vs)
entries_form table (Form.flat_map U) keys vs is = (tt, is.0)
entries_form table (Form.map U) keys vs is = (tt, is.0)
entries_form table form keys vs is = absurd is.0

count_removed : (vs : Values) (i : ℕ) → i + 1 ≤ count vs → count vs ≡ count (remove_nth vs i) + 1
count_removed nil i l = absurd (omega (arith, l))
count_removed (cons v vs) zero l = omega arith
count_removed (cons v vs) (suc i) l = (let rest = count_removed vs i (omega (arith, l)) in omega (arith, rest))

-- the outcome with an item
if_some : {A B : Type 0} (f : A → B) (o : Option A) (d : B) (x : A) → o ≡ Some x → option_map_or f o d ≡ f x
if_some f o d x e = ap (λ o. option_map_or f o d) e

module _ (constants : List Constant) (a b c : ℕ) (number : ℤ) (room : Bool) (X Y : State) (p : Path) (is : path_of X b ≡ Some p) (form : Form) (typed : (v : Value) → path_value X p ≡ Some v → IsOf X.types form v) where
  module _ (q : Path) (same : q ≡ p) where
    its_type : (v : Value) → path_value X q ≡ Some v → IsOf X.types form v
    its_type v e = typed v (ap (λ (z : Path). path_value X z) (sym same) ∙ e)

    -- items without one
    fewer_items : (was now : Values) → path_value X q ≡ Some (Seq was) → count was ≡ count now + 1 → give_count a (count now) (put_at X q (Seq now)) ≡ Some (success, Y) → Fewer X Y q form
    fewer_items was now e shorter f =
        let given = answered success a _ (put_at X q (Seq now)) Y f in
        record {
          container = items_form X.types form was (its_type (Seq was) e);
          was_label = Label.seq;
          was = was;
          was_there = e;
          label = Label.seq;
          now = now;
          there = ap (λ z. path_value z q) (sym given.2) ∙ put_there X q (Seq was) (Seq now) a _ e given.1;
          shorter = shorter;
        }

    last_gone : (vs : Values) → path_value X q ≡ Some (Seq vs) → pop_last a q vs X ≡ Some (success, Y) → Fewer X Y q form
    last_gone nil e f = absurd (let codes : null_or_none ≡ success = (answered null_or_none a _ X Y f).0 in cc)
    last_gone (cons v vs) e f =
        let left = count_without_last (cons v vs) in
        let shorter : count vs ≡ count (without_last (cons v vs)) = omega (arith, left) in
        fewer_items (cons v vs) (without_last (cons v vs)) e (omega (arith, left)) (ap (λ n. give_count a n (put_at X q (Seq (without_last (cons v vs))))) (sym shorter) ∙ f)

    first_gone : (vs : Values) → path_value X q ≡ Some (Seq vs) → pop_first a q vs X ≡ Some (success, Y) → Fewer X Y q form
    first_gone nil e f = absurd (let codes : null_or_none ≡ success = (answered null_or_none a _ X Y f).0 in cc)
    first_gone (cons v vs) e f = fewer_items (cons v vs) vs e (omega arith) f

    byte_or_item : (v : Value) → path_value X q ≡ Some v → option_map_or {U = Outcome} (λ bytes. pop_bytes a q bytes X) (text_in v) (items_in v >>= λ vs. pop_last a q vs X) ≡ Some (success, Y) → (form ≡ Form.str) ⊎ Fewer X Y q form
    byte_or_item (Text bytes) e f = inl (text_form X.types form bytes (its_type (Text bytes) e))
    byte_or_item (Seq vs) e f = inr (last_gone vs e f)
    byte_or_item v e f = absurd (let g : None ≡ Some (success, Y) = f in cc)

    key_gone : (es : List ℤ × Values) (k : ℤ) (j : ℕ) → path_value X q ≡ Some (node (Label.map es.0) es.1) → key_place es.0 k ≡ Some j → give_count a 1 (put_at X q (without_entry es j)) ≡ Some (success, Y) → Fewer X Y q form
    key_gone es k j e there_is f =
        let given = answered success a _ (put_at X q (without_entry es j)) Y f in
        let typed_as = entries_form X.types form es.0 es.1 (its_type (Map es.0 es.1) e) in
        let below = (position-Some (same_int k) es.0 j (pos 0) there_is).0 in
        record {
          container = typed_as.0;
          was_label = Label.map es.0;
          was = es.1;
          was_there = e;
          label = Label.map (remove es.0 j);
          now = remove_nth es.1 j;
          there = ap (λ z. path_value z q) (sym given.2) ∙ put_there X q (Map es.0 es.1) (without_entry es j) a _ e given.1;
          shorter = count_removed es.1 j (omega (arith, below, typed_as.1));
        }

  back : effect constants Operation.PopBack a b c number room X ≡ Some (success, Y) → (form ≡ Form.str) ⊎ Fewer X Y p form
  unfolding effect
  back e =
      let q = bind_some (path_of X b) _ (success, Y) e in
      let v = bind_some (path_value X q.0) _ (success, Y) q.2 in
      let same = one_path X b p q.0 is q.1 in
      subst (λ z. (form ≡ Form.str) ⊎ Fewer X Y z form) same (byte_or_item q.0 same v.0 v.1 v.2)

  front : effect constants Operation.PopFront a b c number room X ≡ Some (success, Y) → Fewer X Y p form
  unfolding effect
  front e =
      let q = bind_some (path_of X b) _ (success, Y) e in
      let t = bind_some (path_form X q.0 >>= list_item) _ (success, Y) q.2 in
      let vs = bind_some (path_value X q.0 >>= items_in) _ (success, Y) t.2 in
      let old = bind_some (path_value X q.0) items_in vs.0 vs.1 in
      let same = one_path X b p q.0 is q.1 in
      subst (λ z. Fewer X Y z form) same (first_gone q.0 same vs.0 (old.1 ∙ ap Some (items_value old.0 vs.0 old.2)) vs.2)

  delete : PresentBy Operation.DeleteKey c X p → effect constants Operation.DeleteKey a b c number room X ≡ Some (success, Y) → Fewer X Y p form
  unfolding effect
  delete present e =
      let q = bind_some (path_of X b) _ (success, Y) e in
      let k = bind_some (integer_at X c) _ (success, Y) q.2 in
      let es = bind_some (path_value X q.0 >>= entries_in) _ (success, Y) k.2 in
      let old = bind_some (path_value X q.0) entries_in es.0 es.1 in
      let same = one_path X b p q.0 is q.1 in
      let there_is : key_place es.0.0 k.0 ≡ Some present.0 = present.1 k.0 es.0 k.1 (ap (λ (z : Path). path_value X z >>= entries_in) (sym same) ∙ es.1) in
      subst (λ z. Fewer X Y z form) same
      (key_gone q.0 same es.0 k.0 present.0 (old.1 ∙ ap Some (entries_value old.0 es.0 old.2)) there_is (sym (if_some _ (key_place es.0.0 k.0) _ present.0 there_is) ∙ es.2))

  pub loses : (op : Operation) → IsRemoving op → PresentBy op c X p → effect constants op a b c number room X ≡ Some (success, Y) → ((op ≡ Operation.PopBack) × (form ≡ Form.str)) ⊎ Fewer X Y p form
  loses op (inl e) present f = elim (back (subst (λ o. effect constants o a b c number room X ≡ Some (success, Y)) e f)) [ inl text ↦ inl (e, text) | inr fewer ↦ inr fewer ]
  loses op (inr (inl e)) present f = inr (front (subst (λ o. effect constants o a b c number room X ≡ Some (success, Y)) e f))
  loses op (inr (inr e)) present f = inr (delete (subst (λ o. PresentBy o c X p) e present) (subst (λ o. effect constants o a b c number room X ≡ Some (success, Y)) e f))
