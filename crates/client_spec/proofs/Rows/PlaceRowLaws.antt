-- The rows of operations on the value that a reference refers to.
use Rattle.std.proofs.Common.{◌≡◌, ◌≢◌, ℕ, suc, ℤ, pos, List, [], ◌∷◌, ◌++◌, length, Option, Some, None, refl, sym, ◌∙◌, ap, subst, inl, inr, true, false, Bool}
use Rattle.std.specs.Prelude.{⊤, Ok, slice_get, slice_set, slice_index, ◌==◌, ◌&&◌, not, int_lt, nat_abs, filter, take, drop, insert, remove}
use Rattle.std.specs.Option.{option_map_or}
use Rattle.std.proofs.lemmas.Bool.{eqb-true, eq-eqb}
use Rattle.seg_spec.specs.Value.{Value, Text, Seq, Map, Empty, Full, Struct, Values, nil, cons, count, append, nth, default_of, Selector, selected}
use Rattle.seg_spec.specs.Types.{Form, Table, form_at}
use Rattle.seg_spec.specs.Items.{keys_below, key_place, insert_nth, remove_nth, with_entry, without_entry}
use Rattle.client_spec.specs.declared.table.Operation.{Operation}
use Rattle.client_spec.specs.Syntax.{Constant}
use Rattle.client_spec.specs.Machine.{◌>>=◌, Origin, Path, extend, Register, State, register, set_register, owned_by, path_value, put_at, part_type}
use Rattle.client_spec.specs.Shape.{HasShape, AllHaveShape}
use Rattle.client_spec.specs.Answer.{Answer, success, bad_alloc, absent, out_of_range, null_or_none, Outcome, integer_in, path_in, fail, refer, give_count, proceed, index_below, byte_of}
use Rattle.client_spec.specs.Answer.{text_in, items_in, entries_in, content_in, fields_in, length_in, vec_or_list_item, list_item, map_value, owned_type, provided, with_room, begins_at}
use Rattle.client_spec.specs.Effect.{item_of_value, pop_bytes, pop_last, pop_first, set_text, first_key, effect}
use Rattle.client_spec.specs.Typed.{Class, RegisterType, Reason, RegisterTypes, known, integer_needed, reference_needed, owner_needed, required, text_needed, form_needed, is_str, is_map}
use Rattle.client_spec.specs.Typed.{can_pop, has_length, can_shrink, item_known, field_type, Rule, known_after, gives, opens, same_class, sharing, ended, others_ended, rule}
use Rattle.client_spec.specs.Typed as typed
use Rattle.client_spec.specs.Meaning.{BeginsIn, Meets, IsAsKnown}
use Rattle.client_spec.proofs.TypedStates.DefaultLaws.{default_has, part_is_entry}
use Rattle.client_spec.proofs.TypedStates.ShapeLaws.{IsOf, value_of_form, has_form, all_append_one, all_cons, all_tail, all_without_last, all_insert, all_remove}
use Rattle.client_spec.proofs.TypedStates.PutLaws.{has_leads, agrees_put, IsLeaf, text_leaf, leads_leaf, leads_here, leads_extend, put_at_types}
use Rattle.client_spec.proofs.TypedStates.ClassLaws.{OneEach, agrees_others}
use Rattle.client_spec.proofs.TypedStates.KnowledgeChangeLaws.{agrees_put_others, agrees_release}
use Rattle.client_spec.proofs.Rows.RuleRowLaws.{bind_ok, nth_at, Goes, goes_along, stays_known, integer_found, reference_found, gives_goes, opens_give, opens_fail}
use Rattle.client_spec.proofs.TypedStates.ValueFormLaws.{text_value, items_value, entries_value, list_is_item, map_has_value, own_value, own_fits, text_fits, item_part, key_part, content_part, last_item, field_value}
use Rattle.client_spec.proofs.TypedStates.ValueFormLaws.{length_value, key_in, count_insert, length_insert, remove_length, text_found, popped, not_is, required_is, at_value, value_at_key, shrinks, reference_is}
use Rattle.client_spec.proofs.Rows.RowPartLaws.{goes_bind, Found, found, Row, code_goes, count_goes, room_goes, number_goes, own_goes, owner_found}

module _ (types : Table) (constants : List Constant) (one : OneEach constants) (ks : RegisterTypes) (s : State) (h : IsAsKnown types constants ks s) where
  -- a value is put at a reference, after the class's other references have ended
  module _ {A : Type 0} (f : Form → Option A) (g : Class × ℕ → A → Rule) (b : ℕ) (good bad : RegisterTypes) (r : Found types constants one ks s h f g b good bad) where
    others_known : IsAsKnown types constants (others_ended r.class b ks) s
    others_known = agrees_others types constants one r.class b ks s h

    pub put_known : (new : Value) → IsOf s.types r.entry new → IsAsKnown types constants (others_ended r.class b ks) (put_at s r.refers.path new)
    put_known new fits = agrees_put_others types constants one r.class b r.type ks s h r.known_as r.refers new (value_of_form s.types r.type r.entry new r.entry_is fits)

    -- a value that replaces a leaf keeps what is known
    leaf_known : (new : Value) → IsLeaf r.refers.leads.value → IsOf s.types r.entry new → IsAsKnown types constants ks (put_at s r.refers.path new)
    leaf_known new leaf fits = agrees_put types constants ks s r.refers.path r.type new h r.refers.leads (value_of_form s.types r.type r.entry new r.entry_is fits)
        (λ q c u e p k l. leads_leaf s r.refers.path p r.type u new r.refers.leads leaf l)

    -- the reference to a part is of the value's class
    part_known : (x : Selector) (t : ℕ) (w : Value) → part_type x r.entry ≡ Some t → selected r.refers.leads.value x ≡ Some w → Meets constants s (RegisterType.Reference r.class t) (Register.Reference (extend r.refers.path x))
    part_known x t w e p = record {
      path = extend r.refers.path x;
      is = refl;
      within = r.refers.within;
      leads = leads_extend s r.refers.path r.type t x r.entry w r.refers.leads r.entry_is e p;
    }

    -- the reference to a part of the new value is of the value's class
    new_part_known : (new : Value) (x : Selector) (t : ℕ) (w : Value) → part_type x r.entry ≡ Some t → selected new x ≡ Some w
        → Meets constants (put_at s r.refers.path new) (RegisterType.Reference r.class t) (Register.Reference (extend r.refers.path x))
    new_part_known new x t w e p =
        let l = leads_here s r.refers.path r.type new r.refers.leads in
        let s' = put_at s r.refers.path new in
        record {
          path = extend r.refers.path x;
          is = refl;
          within = r.refers.within;
          leads = leads_extend s' r.refers.path r.type t x r.entry w l.0 (ap (λ (ts : Table). form_at ts r.type) (put_at_types s r.refers.path r.type new r.refers.leads) ∙ r.entry_is) e (ap (λ v. selected v x) l.1 ∙ p);
        }

    value_is : {B : Type 0} (see : Value → Option B) (y : B) (v : Value) → r.refers.leads.value ≡ v → see v ≡ Some y → (path_value s r.refers.path >>= see) ≡ Some y
    value_is see y v e p = ap (λ o. o >>= see) r.refers.leads.there ∙ ap see e ∙ p

  pub clear_goes : Row types constants one ks s h Operation.Clear
  unfolding rule effect
  clear_goes a b c number good bad room e =
      let p = bind_ok (reference_needed (known ks b)) (λ x. known_after (others_ended x.0 b ks)) (good, bad) e in
      let r = reference_found types constants ks s h b p.0.0 p.0.1 p.1 in
      let k = has_form s.types p.0.1 r.leads.value (has_leads s r.path p.0.1 h.typed r.leads) in
      let d = default_of s.types p.0.1 in
      goes_bind types constants one ks s h good bad _ _ _ (ap path_in r.is) (goes_bind types constants one ks s h good bad _ _ _ r.leads.typed (goes_bind types constants one ks s h good bad _ _ _ r.leads.there
      (stays_known types constants (others_ended p.0.0 b ks) good bad (put_at s r.path d) p.2
      (agrees_put_others types constants one p.0.0 b p.0.1 ks s h (reference_is (known ks b) p.0 p.1) r d (default_has s.types h.typed.forms p.0.1 k.0 k.1)))))

  pub field_goes : Row types constants one ks s h Operation.Field
  unfolding rule effect
  field_goes a b c number good bad room e =
      let g = λ (x : Class × ℕ) (t : ℕ). gives a (RegisterType.Reference x.0 t) ks in
      let r = found types constants one ks s h (field_type number) g b good bad e in
      let v = field_value s.types r.entry r.refers.leads.value r.what number r.is r.fits in
      goes_bind types constants one ks s h good bad _ _ _ r.path_is (goes_bind types constants one ks s h good bad _ _ _ (value_is (field_type number) g b good bad r fields_in v.0 (Struct v.0) v.3 refl)
      (goes_bind types constants one ks s h good bad _ _ _ v.4
      (gives_goes types constants ks s h a (RegisterType.Reference r.class r.what) (Register.Reference (extend r.refers.path (Selector.field v.1))) good bad r.rest refl
      (part_known (field_type number) g b good bad r (Selector.field v.1) r.what v.2 v.6 (ap (λ w. selected w (Selector.field v.1)) v.3 ∙ v.5)))))

  pub len_goes : Row types constants one ks s h Operation.Len
  unfolding rule effect
  len_goes a b c number good bad room e =
      let g = λ (x : Class × ℕ) (u : ⊤). gives a RegisterType.Int ks in
      let r = found types constants one ks s h has_length g b good bad e in
      let n = length_value s.types r.entry r.refers.leads.value r.what r.is r.fits in
      goes_bind types constants one ks s h good bad _ _ _ r.path_is (goes_bind types constants one ks s h good bad _ _ _ (value_is has_length g b good bad r length_in n.0 r.refers.leads.value refl n.1)
      (number_goes types constants one ks s h ks s a n.0 good bad h r.rest))

  part_default : (t u : ℕ) (k : Form) (x : Selector) → form_at s.types t ≡ Some k → part_type x k ≡ Some u → HasShape s.types u (default_of s.types u)
  part_default t u k x e f = let l = part_is_entry s.types h.typed.forms t u k x e f in default_has s.types h.typed.forms u l.0 l.1

  -- a row may put other items, and give a reference to one of them
  items_put : (vs : Values) (i : ℕ) (w : Value) (a b t : ℕ) (class : Class) (good bad : RegisterTypes)
      (f : Form → Option ℕ) (g : Class × ℕ → ℕ → Rule) (r : Found types constants one ks s h f g b good bad) → IsOf s.types r.entry (Seq vs) → part_type (Selector.item i) r.entry ≡ Some t
      → nth vs i ≡ Some w → opens a (RegisterType.Reference r.class t) (others_ended r.class b ks) ≡ Ok (good, bad) → (room : Bool)
      → Goes types constants good bad (with_room room a s (refer a (extend r.refers.path (Selector.item i)) (put_at s r.refers.path (Seq vs))))
  items_put vs i w a b t class good bad f g r fits e p o room =
      let new = Seq vs in
      let s' = put_at s r.refers.path new in
      let known = others_known f g b good bad r in
      with_room_goes room
      (opens_give types constants (others_ended r.class b ks) s' (put_known f g b good bad r new fits) a (RegisterType.Reference r.class t) good bad (Register.Reference (extend r.refers.path (Selector.item i))) o refl
      (new_part_known f g b good bad r new (Selector.item i) t w e p))
      (opens_fail types constants (others_ended r.class b ks) s known a (RegisterType.Reference r.class t) good bad bad_alloc (λ q. cc) o)
    where
      with_room_goes : (room : Bool) {x : Outcome} → Goes types constants good bad x → Goes types constants good bad (fail a bad_alloc s) → Goes types constants good bad (with_room room a s x)
      with_room_goes true p q = p
      with_room_goes false p q = q

  pub push_goes : Row types constants one ks s h Operation.PushBack
  unfolding rule effect
  push_goes a b c number good bad room e =
      let g = λ (x : Class × ℕ) (t : ℕ). opens a (RegisterType.Reference x.0 t) (others_ended x.0 b ks) in
      let r = found types constants one ks s h vec_or_list_item g b good bad e in
      let v = items_value s.types r.entry r.refers.leads.value r.what r.is r.fits in
      let d = default_of s.types r.what in
      let part = item_part r.entry r.what (count v.0) r.is in
      let fits = part_default r.type r.what r.entry (Selector.item 0) r.entry_is (item_part r.entry r.what 0 r.is) in
      goes_bind types constants one ks s h good bad _ _ _ r.path_is (goes_bind types constants one ks s h good bad _ _ _ (ap (λ o. o >>= vec_or_list_item) r.form_is ∙ r.is)
      (goes_bind types constants one ks s h good bad _ _ _ (value_is vec_or_list_item g b good bad r items_in v.0 (Seq v.0) v.1 refl)
      (items_put (append v.0 (cons d nil)) (count v.0) d a b r.what r.class good bad vec_or_list_item g r
      (v.3 (append v.0 (cons d nil)) (all_append_one s.types r.what v.0 d v.2 fits)) part (last_item v.0 d) r.rest room)))

  pub pushf_goes : Row types constants one ks s h Operation.PushFront
  unfolding rule effect
  pushf_goes a b c number good bad room e =
      let g = λ (x : Class × ℕ) (t : ℕ). opens a (RegisterType.Reference x.0 t) (others_ended x.0 b ks) in
      let r = found types constants one ks s h list_item g b good bad e in
      let is = list_is_item r.entry r.what r.is in
      let v = items_value s.types r.entry r.refers.leads.value r.what is r.fits in
      let d = default_of s.types r.what in
      let part = item_part r.entry r.what 0 is in
      goes_bind types constants one ks s h good bad _ _ _ r.path_is (goes_bind types constants one ks s h good bad _ _ _ (ap (λ o. o >>= list_item) r.form_is ∙ r.is)
      (goes_bind types constants one ks s h good bad _ _ _ (value_is list_item g b good bad r items_in v.0 (Seq v.0) v.1 refl)
      (items_put (cons d v.0) 0 d a b r.what r.class good bad list_item g r
      (v.3 (cons d v.0) (all_cons s.types r.what d v.0 (part_default r.type r.what r.entry (Selector.item 0) r.entry_is part) v.2)) part refl r.rest room)))

  -- a row may end the class's other references, and give a code or a number
  module _ {A : Type 0} (f : Form → Option A) (g : Class × ℕ → A → Rule) (b : ℕ) (good bad : RegisterTypes) (r : Found types constants one ks s h f g b good bad) (a : ℕ)
      (o : opens a RegisterType.Int (others_ended r.class b ks) ≡ Ok (good, bad)) where
    others_fail : (code : Answer) → code ≢ success → Goes types constants good bad (fail a code s)
    others_fail code n = opens_fail types constants (others_ended r.class b ks) s (others_known f g b good bad r) a RegisterType.Int good bad code n o

    others_count : (new : Value) (n : ℕ) → IsOf s.types r.entry new → Goes types constants good bad (give_count a n (put_at s r.refers.path new))
    others_count new n fits = opens_give types constants (others_ended r.class b ks) (put_at s r.refers.path new) (put_known f g b good bad r new fits) a RegisterType.Int good bad (Register.Int (pos n)) o refl (pos n, refl)

    last_popped : (t : ℕ) → ((ws : Values) → AllHaveShape s.types t ws → IsOf s.types r.entry (Seq ws)) → (vs : Values) → AllHaveShape s.types t vs → Goes types constants good bad (pop_last a r.refers.path vs s)
    last_popped t fits nil all = others_fail null_or_none (λ q. cc)
    last_popped t fits (cons v vs) all = others_count _ (count vs) (fits _ (all_without_last s.types t (cons v vs) all))

    first_popped : (t : ℕ) → ((ws : Values) → AllHaveShape s.types t ws → IsOf s.types r.entry (Seq ws)) → (vs : Values) → AllHaveShape s.types t vs → Goes types constants good bad (pop_first a r.refers.path vs s)
    first_popped t fits nil all = others_fail null_or_none (λ q. cc)
    first_popped t fits (cons v vs) all = others_count _ (count vs) (fits vs (all_tail s.types t v vs all))

    bytes_popped : is_str r.entry ≡ Some tt → (xs : List ℕ) → Goes types constants good bad (pop_bytes a r.refers.path xs s)
    bytes_popped e [] = others_fail null_or_none (λ q. cc)
    bytes_popped e (x ∷ xs) = others_count _ (length xs) (text_fits s.types r.entry tt (take (length xs) (x ∷ xs)) e)

  pub popf_goes : Row types constants one ks s h Operation.PopFront
  unfolding rule effect
  popf_goes a b c number good bad room e =
      let g = λ (x : Class × ℕ) (t : ℕ). opens a RegisterType.Int (others_ended x.0 b ks) in
      let r = found types constants one ks s h list_item g b good bad e in
      let is = list_is_item r.entry r.what r.is in
      let v = items_value s.types r.entry r.refers.leads.value r.what is r.fits in
      goes_bind types constants one ks s h good bad _ _ _ r.path_is (goes_bind types constants one ks s h good bad _ _ _ (ap (λ o. o >>= list_item) r.form_is ∙ r.is)
      (goes_bind types constants one ks s h good bad _ _ _ (value_is list_item g b good bad r items_in v.0 (Seq v.0) v.1 refl)
      (first_popped list_item g b good bad r a r.rest r.what v.3 v.0 v.2)))

  pub pop_goes : Row types constants one ks s h Operation.PopBack
  unfolding rule effect
  pop_goes a b c number good bad room e =
      let g = λ (x : Class × ℕ) (u : ⊤). opens a RegisterType.Int (others_ended x.0 b ks) in
      let r = found types constants one ks s h can_pop g b good bad e in
      let f = λ (v : Value). option_map_or (λ bytes. pop_bytes a r.refers.path bytes s) (text_in v) (items_in v >>= λ vs. pop_last a r.refers.path vs s) in
      goes_bind types constants one ks s h good bad _ _ _ r.path_is (goes_bind types constants one ks s h good bad _ _ _ r.refers.leads.there
      (elim (popped r.entry r.what r.is) [
        | inl is ↦
            let v = text_value s.types r.entry r.refers.leads.value tt is r.fits in
            goes_along types constants good bad (f r.refers.leads.value) _ (ap f v.1) (bytes_popped can_pop g b good bad r a r.rest is v.0)
        | inr is ↦
            let v = items_value s.types r.entry r.refers.leads.value is.0 is.1 r.fits in
            goes_along types constants good bad (f r.refers.leads.value) _ (ap f v.1) (last_popped can_pop g b good bad r a r.rest is.0 v.3 v.0 v.2)
      ]))

  -- TAKE has a row
  pub take_goes : Row types constants one ks s h Operation.Take
  unfolding rule effect
  take_goes a b c number good bad room e =
      let g = λ (x : Class × ℕ) (t : ℕ). opens a (RegisterType.Owner t) (others_ended x.0 b ks) in
      let r = found types constants one ks s h owned_type g b good bad e in
      let ks' = others_ended r.class b ks in
      goes_bind types constants one ks s h good bad _ _ _ r.path_is (goes_bind types constants one ks s h good bad _ _ _ (ap (λ o. o >>= owned_type) r.form_is ∙ r.is)
      (elim (own_value s.types r.entry r.refers.leads.value r.what r.is r.fits) [
        | inl none ↦
            goes_bind types constants one ks s h good bad _ _ _ (value_is owned_type g b good bad r content_in None r.refers.leads.value refl none)
            (opens_fail types constants ks' s (others_known owned_type g b good bad r) a (RegisterType.Owner r.what) good bad null_or_none (λ q. cc) r.rest)
        | inr some ↦
            goes_bind types constants one ks s h good bad _ _ _ (value_is owned_type g b good bad r content_in (Some some.0) (Full some.0) some.1 refl)
            (own_goes types constants one ks s h ks' (put_at s r.refers.path Empty) (put_known owned_type g b good bad r Empty (own_fits s.types r.entry r.what r.is).0) a r.what some.0 good bad r.rest
            (subst (λ ts. HasShape ts r.what some.0) (sym (put_at_types s r.refers.path r.type Empty r.refers.leads)) some.2))
      ]))

  pub content_goes : Row types constants one ks s h Operation.Content
  unfolding rule effect
  content_goes a b c number good bad room e =
      let g = λ (x : Class × ℕ) (t : ℕ). opens a (RegisterType.Reference x.0 t) ks in
      let r = found types constants one ks s h owned_type g b good bad e in
      goes_bind types constants one ks s h good bad _ _ _ r.path_is
      (elim (own_value s.types r.entry r.refers.leads.value r.what r.is r.fits) [
        | inl none ↦
            goes_bind types constants one ks s h good bad _ _ _ (value_is owned_type g b good bad r content_in None r.refers.leads.value refl none)
            (code_goes types constants one ks s h a (RegisterType.Reference r.class r.what) good bad null_or_none (λ q. cc) r.rest)
        | inr some ↦
            goes_bind types constants one ks s h good bad _ _ _ (value_is owned_type g b good bad r content_in (Some some.0) (Full some.0) some.1 refl)
            (opens_give types constants ks s h a (RegisterType.Reference r.class r.what) good bad (Register.Reference (extend r.refers.path Selector.content)) r.rest refl
            (part_known owned_type g b good bad r Selector.content r.what some.0 (content_part r.entry r.what r.is) (ap (λ v. selected v Selector.content) some.1)))
      ])

  -- an origin in a class other than the register's isn't the register
  pub outside : (c : ℕ) (class : Class) (root : Origin) → BeginsIn constants class root → same_class class (Class.Register c) ≡ false → begins_at c root ≡ false
  outside c class (Origin.Name n i) w f = refl
  outside c class (Origin.Unique t) w f = refl
  outside c (Class.Name k) (Origin.Owned q) w f = absurd w
  outside c (Class.Unique t) (Origin.Owned q) w f = absurd w
  outside c (Class.Frozen x) (Origin.Owned q) w f = absurd w
  outside c (Class.Register r) (Origin.Owned q) w f = choose (c == q) refl
    where
      choose : (b : Bool) → (c == q) ≡ b → begins_at c (Origin.Owned q) ≡ false
      choose true e = let same : (r == c) ≡ true = eq-eqb r c (w ∙ sym (eqb-true c q e)) in let x : true ≡ false = sym same ∙ f in cc
      choose false e = e

  pub put_goes : Row types constants one ks s h Operation.Put
  unfolding rule effect
  put_goes a b c number good bad room e =
      let last = λ (x : Class × ℕ). typed.◌>>=◌ (required (not (same_class (sharing x.0) (Class.Register c))) Reason.PutIntoItself)
      (λ _. known_after (slice_set (ended (Class.Register c) (others_ended x.0 b ks)) c RegisterType.Undefined)) in
      let g = λ (x : Class × ℕ) (t : ℕ). typed.◌>>=◌ (owner_needed (known ks c)) (λ u. typed.◌>>=◌ (required (t == u) Reason.WrongOperand) (λ _. last x)) in
      let r = found types constants one ks s h owned_type g b good bad e in
      let p = bind_ok (owner_needed (known ks c)) (λ u. typed.◌>>=◌ (required (r.what == u) Reason.WrongOperand) (λ _. last (r.class, r.type))) (good, bad) r.rest in
      let q = bind_ok (required (r.what == p.0) Reason.WrongOperand) (λ _. last (r.class, r.type)) (good, bad) p.2 in
      let w = bind_ok (required (not (same_class (sharing r.class) (Class.Register c))) Reason.PutIntoItself) (λ _. known_after (slice_set (ended (Class.Register c) (others_ended r.class b ks)) c RegisterType.Undefined)) (good, bad) q.2 in
      let v = (owner_found types constants one ks s h (known ks c) (register s c) p.0 p.1 (h.each c)).1 in
      let same : r.what ≡ p.0 = eqb-true r.what p.0 (required_is _ Reason.WrongOperand q.0 q.1) in
      let apart = outside c (sharing r.class) r.refers.path.origin r.refers.within (not_is _ (required_is _ Reason.PutIntoItself w.0 w.1)) in
      let fits = (own_fits s.types r.entry r.what r.is).1 v.0 (subst (λ n. HasShape s.types n v.0) (sym same) (h.typed.owned c v.0 p.0 v.1)) in
      let s' = put_at s r.refers.path (Full v.0) in
      let test : (r.what == p.0 && not (begins_at c r.refers.path.origin)) ≡ true = ap (λ x. x && not (begins_at c r.refers.path.origin)) (required_is _ Reason.WrongOperand q.0 q.1) ∙ ap not apart in
      let see : (x : Option Value) × ((path_value s r.refers.path >>= content_in) ≡ Some x) = elim (own_value s.types r.entry r.refers.leads.value r.what r.is r.fits) [
        | inl none ↦ (None, value_is owned_type g b good bad r content_in None r.refers.leads.value refl none)
        | inr some ↦ (Some some.0, value_is owned_type g b good bad r content_in (Some some.0) (Full some.0) some.1 refl)
      ] in
      goes_bind types constants one ks s h good bad _ _ _ r.path_is (goes_bind types constants one ks s h good bad _ _ _ (ap (λ o. o >>= owned_type) r.form_is ∙ r.is)
      (goes_bind types constants one ks s h good bad _ _ _ (ap owned_by v.1) (goes_bind types constants one ks s h good bad _ _ _ see.1
      (goes_along types constants good bad _ _ (ap (λ t. provided t (proceed (set_register s' c Register.Undefined))) test)
      (stays_known types constants (slice_set (ended (Class.Register c) (others_ended r.class b ks)) c RegisterType.Undefined) good bad (set_register s' c Register.Undefined) w.2
      (agrees_release types constants one (others_ended r.class b ks) s' c (put_known owned_type g b good bad r (Full v.0) fits)))))))

  byte_goes : (a : ℕ) (p : Path) (bytes : List ℕ) (good bad : RegisterTypes) → opens a RegisterType.Int ks ≡ Ok (good, bad) → (o : Option ℕ)
      → Goes types constants good bad (option_map_or (λ i. give_count a (slice_index bytes i) s) o (fail a out_of_range s))
  byte_goes a p bytes good bad e None = code_goes types constants one ks s h a RegisterType.Int good bad out_of_range (λ q. cc) e
  byte_goes a p bytes good bad e (Some i) = count_goes types constants one ks s h a (slice_index bytes i) good bad e

  item_goes_at : {A : Type 0} (a b t : ℕ) (good bad : RegisterTypes) (f : Form → Option A) (g : Class × ℕ → A → Rule) (r : Found types constants one ks s h f g b good bad) (vs : Values)
      → r.refers.leads.value ≡ Seq vs → vec_or_list_item r.entry ≡ Some t
      → opens a (RegisterType.Reference r.class t) ks ≡ Ok (good, bad) → (o : Option ℕ) (x : ℤ) → index_below (count vs) x ≡ o
      → Goes types constants good bad (option_map_or (λ i. refer a (extend r.refers.path (Selector.item i)) s) o (fail a out_of_range s))
  item_goes_at a b t good bad f g r vs is form_is e None x i = code_goes types constants one ks s h a (RegisterType.Reference r.class t) good bad out_of_range (λ q. cc) e
  item_goes_at a b t good bad f g r vs is form_is e (Some n) x i =
      let w = nth_at vs x n i in
      opens_give types constants ks s h a (RegisterType.Reference r.class t) good bad (Register.Reference (extend r.refers.path (Selector.item n))) e refl
      (part_known f g b good bad r (Selector.item n) t w.0 (item_part r.entry t n form_is) (ap (λ v. selected v (Selector.item n)) is ∙ w.1))

  -- a row may put another text, and give its length
  text_goes : (a b : ℕ) (good bad : RegisterTypes) (g : Class × ℕ → ⊤ → Rule) (r : Found types constants one ks s h is_str g b good bad) (old : List ℕ) → r.refers.leads.value ≡ Text old
      → (new : List ℕ) (room : Bool) → opens a RegisterType.Int ks ≡ Ok (good, bad) → Goes types constants good bad (set_text a r.refers.path new room s)
  text_goes a b good bad g r old is new room e =
      room_goes types constants one ks s h a RegisterType.Int good bad room _ e
      (opens_give types constants ks (put_at s r.refers.path (Text new))
      (leaf_known is_str g b good bad r (Text new) (subst IsLeaf (sym is) (text_leaf old)) (text_fits s.types r.entry r.what new r.is))
      a RegisterType.Int good bad (Register.Int (pos (length new))) e refl (pos (length new), refl))

  added_byte : (a b : ℕ) (good bad : RegisterTypes) (g : Class × ℕ → ⊤ → Rule) (r : Found types constants one ks s h is_str g b good bad) (old : List ℕ)
      → r.refers.leads.value ≡ Text old → (room : Bool) → opens a RegisterType.Int ks ≡ Ok (good, bad) → (o : Option ℕ)
      → Goes types constants good bad (option_map_or (λ byte. set_text a r.refers.path (old ++ byte ∷ []) room s) o (fail a out_of_range s))
  added_byte a b good bad g r old is room e None = code_goes types constants one ks s h a RegisterType.Int good bad out_of_range (λ q. cc) e
  added_byte a b good bad g r old is room e (Some x) = text_goes a b good bad g r old is (old ++ x ∷ []) room e

  got : (a b : ℕ) (good bad : RegisterTypes) (g : Class × ℕ → ℕ → Rule) (r : Found types constants one ks s h map_value g b good bad) (keys : List ℤ) (vs : Values)
      → r.refers.leads.value ≡ Map keys vs
      → length keys ≡ count vs → (z : ℤ) → opens a (RegisterType.Reference r.class r.what) ks ≡ Ok (good, bad) → (o : Option ℕ) → key_place keys z ≡ o
      → Goes types constants good bad (option_map_or (λ _. refer a (extend r.refers.path (Selector.key z)) s) o (fail a absent s))
  got a b good bad g r keys vs is l z e None f = code_goes types constants one ks s h a (RegisterType.Reference r.class r.what) good bad absent (λ q. cc) e
  got a b good bad g r keys vs is l z e (Some i) f =
      let w = value_at_key keys vs z i l f in
      opens_give types constants ks s h a (RegisterType.Reference r.class r.what) good bad (Register.Reference (extend r.refers.path (Selector.key z))) e refl
      (part_known map_value g b good bad r (Selector.key z) r.what w.0 (key_part r.entry r.what z r.is) (ap (λ v. selected v (Selector.key z)) is ∙ w.1))

  -- a row may give the first of some keys
  key_goes : (a : ℕ) (good bad : RegisterTypes) → opens a RegisterType.Int ks ≡ Ok (good, bad) → (keys : List ℤ) → Goes types constants good bad (first_key a keys s)
  key_goes a good bad e [] = code_goes types constants one ks s h a RegisterType.Int good bad null_or_none (λ q. cc) e
  key_goes a good bad e (k ∷ keys) = opens_give types constants ks s h a RegisterType.Int good bad (Register.Int k) e refl (k, refl)

  pub at_goes : Row types constants one ks s h Operation.At
  unfolding rule effect
  at_goes a b c number good bad room e =
      let p = bind_ok (reference_needed (known ks b)) (λ x. typed.◌>>=◌ (form_needed (item_known x.0) types x.1) (λ k. typed.◌>>=◌ (integer_needed (known ks c)) (λ _. opens a k ks))) (good, bad) e in
      let f = item_known p.0.0 in
      let g = λ (x : Class × ℕ) (k : RegisterType). typed.◌>>=◌ (integer_needed (known ks c)) (λ _. opens a k ks) in
      let r = found types constants one ks s h f g b good bad (ap (λ o. typed.◌>>=◌ o (λ x. typed.◌>>=◌ (form_needed f types x.1) (λ k. g x k))) p.1 ∙ p.2) in
      let same : r.class ≡ p.0.0 = let q : RegisterType.Reference r.class r.type ≡ RegisterType.Reference p.0.0 p.0.1 = sym r.known_as ∙ reference_is (known ks b) p.0 p.1 in cc in
      let q = bind_ok (integer_needed (known ks c)) (λ _. opens a r.what ks) (good, bad) r.rest in
      let x = integer_found types constants ks s h c q.0 q.1 in
      let o = λ (v : Value). item_of_value a r.refers.path x.0 v s in
      goes_bind types constants one ks s h good bad _ _ _ r.path_is (goes_bind types constants one ks s h good bad _ _ _ (ap integer_in x.1) (goes_bind types constants one ks s h good bad _ _ _ r.refers.leads.there
      (elim (at_value s.types p.0.0 r.entry r.refers.leads.value r.what r.is r.fits) [
        | inl w ↦
            goes_along types constants good bad (o r.refers.leads.value) _ (ap o w.1.1)
            (byte_goes a r.refers.path w.1.0 good bad (subst (λ k. opens a k ks ≡ Ok (good, bad)) w.0 q.2) (index_below (length w.1.0) x.0))
        | inr w ↦
            let is : opens a (RegisterType.Reference r.class w.0) ks ≡ Ok (good, bad) = subst (λ k. opens a k ks ≡ Ok (good, bad)) (w.2 ∙ ap (λ c. RegisterType.Reference c w.0) (sym same)) q.2 in
            goes_along types constants good bad (o r.refers.leads.value) _ (ap o w.3)
            (item_goes_at a b w.0 good bad f g r w.1 w.3 w.4 is (index_below (count w.1) x.0) x.0 refl)
      ])))

  pub sets_goes : Row types constants one ks s h Operation.SetStr
  unfolding rule effect
  sets_goes a b c number good bad room e =
      let t = slice_get constants (nat_abs number) in
      let g = λ (x : Class × ℕ) (u : ⊤). typed.◌>>=◌ (text_needed t) (λ _. opens a RegisterType.Int ks) in
      let r = found types constants one ks s h is_str g b good bad e in
      let q = bind_ok (text_needed t) (λ _. opens a RegisterType.Int ks) (good, bad) r.rest in
      let new = text_found t q.0 q.1 in
      let v = text_value s.types r.entry r.refers.leads.value r.what r.is r.fits in
      goes_bind types constants one ks s h good bad _ _ _ r.path_is (goes_bind types constants one ks s h good bad _ _ _ (value_is is_str g b good bad r text_in v.0 (Text v.0) v.1 refl)
      (goes_bind types constants one ks s h good bad _ _ _ new.1
      (text_goes a b good bad g r v.0 v.1 new.0 room q.2)))

  pub adds_goes : Row types constants one ks s h Operation.AddStr
  unfolding rule effect
  adds_goes a b c number good bad room e =
      let t = slice_get constants (nat_abs number) in
      let g = λ (x : Class × ℕ) (u : ⊤). typed.◌>>=◌ (text_needed t) (λ _. opens a RegisterType.Int ks) in
      let r = found types constants one ks s h is_str g b good bad e in
      let q = bind_ok (text_needed t) (λ _. opens a RegisterType.Int ks) (good, bad) r.rest in
      let new = text_found t q.0 q.1 in
      let v = text_value s.types r.entry r.refers.leads.value r.what r.is r.fits in
      goes_bind types constants one ks s h good bad _ _ _ r.path_is (goes_bind types constants one ks s h good bad _ _ _ (value_is is_str g b good bad r text_in v.0 (Text v.0) v.1 refl)
      (goes_bind types constants one ks s h good bad _ _ _ new.1
      (text_goes a b good bad g r v.0 v.1 (v.0 ++ new.0) room q.2)))

  pub addb_goes : Row types constants one ks s h Operation.AddByte
  unfolding rule effect
  addb_goes a b c number good bad room e =
      let g = λ (x : Class × ℕ) (u : ⊤). typed.◌>>=◌ (integer_needed (known ks c)) (λ _. opens a RegisterType.Int ks) in
      let r = found types constants one ks s h is_str g b good bad e in
      let q = bind_ok (integer_needed (known ks c)) (λ _. opens a RegisterType.Int ks) (good, bad) r.rest in
      let x = integer_found types constants ks s h c q.0 q.1 in
      let v = text_value s.types r.entry r.refers.leads.value r.what r.is r.fits in
      goes_bind types constants one ks s h good bad _ _ _ r.path_is (goes_bind types constants one ks s h good bad _ _ _ (value_is is_str g b good bad r text_in v.0 (Text v.0) v.1 refl)
      (goes_bind types constants one ks s h good bad _ _ _ (ap integer_in x.1)
      (added_byte a b good bad g r v.0 v.1 room q.2 (byte_of x.0))))

  pub shrink_goes : Row types constants one ks s h Operation.Shrink
  unfolding rule effect
  shrink_goes a b c number good bad room e =
      let g = λ (x : Class × ℕ) (u : ⊤). known_after ks in
      let r = found types constants one ks s h can_shrink g b good bad e in
      goes_bind types constants one ks s h good bad _ _ _ r.path_is (goes_bind types constants one ks s h good bad _ _ _ r.form_is (goes_bind types constants one ks s h good bad _ _ _ r.refers.leads.there
      (goes_along types constants good bad _ _ (ap (λ t. provided t (proceed s)) (shrinks r.entry r.what r.is)) (stays_known types constants ks good bad s r.rest h))))

  pub getk_goes : Row types constants one ks s h Operation.GetKey
  unfolding rule effect
  getk_goes a b c number good bad room e =
      let g = λ (x : Class × ℕ) (t : ℕ). typed.◌>>=◌ (integer_needed (known ks c)) (λ _. opens a (RegisterType.Reference x.0 t) ks) in
      let r = found types constants one ks s h map_value g b good bad e in
      let q = bind_ok (integer_needed (known ks c)) (λ _. opens a (RegisterType.Reference r.class r.what) ks) (good, bad) r.rest in
      let x = integer_found types constants ks s h c q.0 q.1 in
      let v = entries_value s.types r.entry r.refers.leads.value r.what r.is r.fits in
      goes_bind types constants one ks s h good bad _ _ _ r.path_is (goes_bind types constants one ks s h good bad _ _ _ (ap integer_in x.1)
      (goes_bind types constants one ks s h good bad _ _ _ (value_is map_value g b good bad r entries_in (v.0, v.1) (Map v.0 v.1) v.2 refl)
      (got a b good bad g r v.0 v.1 v.2 v.4 x.0 q.2 (key_place v.0 x.0) refl)))

  pub firstk_goes : Row types constants one ks s h Operation.FirstKey
  unfolding rule effect
  firstk_goes a b c number good bad room e =
      let g = λ (x : Class × ℕ) (u : ⊤). opens a RegisterType.Int ks in
      let r = found types constants one ks s h is_map g b good bad e in
      let t = map_has_value r.entry r.what r.is in
      let v = entries_value s.types r.entry r.refers.leads.value t.0 t.1 r.fits in
      goes_bind types constants one ks s h good bad _ _ _ r.path_is (goes_bind types constants one ks s h good bad _ _ _ (value_is is_map g b good bad r entries_in (v.0, v.1) (Map v.0 v.1) v.2 refl) (key_goes a good bad r.rest v.0))

  pub nextk_goes : Row types constants one ks s h Operation.NextKey
  unfolding rule effect
  nextk_goes a b c number good bad room e =
      let g = λ (x : Class × ℕ) (u : ⊤). typed.◌>>=◌ (integer_needed (known ks c)) (λ _. opens a RegisterType.Int ks) in
      let r = found types constants one ks s h is_map g b good bad e in
      let q = bind_ok (integer_needed (known ks c)) (λ _. opens a RegisterType.Int ks) (good, bad) r.rest in
      let x = integer_found types constants ks s h c q.0 q.1 in
      let t = map_has_value r.entry r.what r.is in
      let v = entries_value s.types r.entry r.refers.leads.value t.0 t.1 r.fits in
      goes_bind types constants one ks s h good bad _ _ _ r.path_is (goes_bind types constants one ks s h good bad _ _ _ (ap integer_in x.1)
      (goes_bind types constants one ks s h good bad _ _ _ (value_is is_map g b good bad r entries_in (v.0, v.1) (Map v.0 v.1) v.2 refl)
      (key_goes a good bad q.2 (filter (λ z. int_lt x.0 z) v.0))))

  -- a row may put a new key with the default value
  put_key : (a b : ℕ) (good bad : RegisterTypes) (g : Class × ℕ → ℕ → Rule) (r : Found types constants one ks s h map_value g b good bad) (keys : List ℤ) (vs : Values)
      → r.refers.leads.value ≡ Map keys vs → AllHaveShape s.types r.what vs
      → length keys ≡ count vs → ((ks : List ℤ) (ws : Values) → AllHaveShape s.types r.what ws → length ks ≡ count ws → IsOf s.types r.entry (Map ks ws))
      → (z : ℤ) (room : Bool) → opens a (RegisterType.Reference r.class r.what) (others_ended r.class b ks) ≡ Ok (good, bad)
      → (o : Option ℕ) → key_place keys z ≡ o → Goes types constants good bad (option_map_or (λ _. refer a (extend r.refers.path (Selector.key z)) s) o
      (with_room room a s (refer a (extend r.refers.path (Selector.key z)) (put_at s r.refers.path (with_entry (keys, vs) z (default_of s.types r.what))))))
  put_key a b good bad g r keys vs is all l fits z room e (Some i) f =
      let w = value_at_key keys vs z i l f in
      opens_give types constants (others_ended r.class b ks) s (others_known map_value g b good bad r) a (RegisterType.Reference r.class r.what) good bad (Register.Reference (extend r.refers.path (Selector.key z))) e refl
      (part_known map_value g b good bad r (Selector.key z) r.what w.0 (key_part r.entry r.what z r.is) (ap (λ v. selected v (Selector.key z)) is ∙ w.1))
  put_key a b good bad g r keys vs is all l fits z room e None f = roomed room
    where
      m : ℕ
      m = keys_below keys z

      d : Value
      d = default_of s.types r.what

      d_fits : HasShape s.types r.what d
      d_fits = part_default r.type r.what r.entry (Selector.key z) r.entry_is (key_part r.entry r.what z r.is)

      new_keys : List ℤ
      new_keys = insert keys m z

      new_items : Values
      new_items = insert_nth vs m d

      new_fit : AllHaveShape s.types r.what new_items
      new_fit = all_insert s.types r.what vs m d all d_fits

      new_length : length new_keys ≡ count new_items
      new_length = length_insert keys m z ∙ ap suc l ∙ sym (count_insert vs m d)

      roomed : (room : Bool) → Goes types constants good bad (with_room room a s (refer a (extend r.refers.path (Selector.key z)) (put_at s r.refers.path (Map new_keys new_items))))
      roomed false = opens_fail types constants (others_ended r.class b ks) s (others_known map_value g b good bad r) a (RegisterType.Reference r.class r.what) good bad bad_alloc (λ q. cc) e
      roomed true =
          let new = Map new_keys new_items in
          let j = key_in (take m keys) (drop m keys) z in
          let w = value_at_key new_keys new_items z j.0 new_length j.1 in
          opens_give types constants (others_ended r.class b ks) (put_at s r.refers.path new)
          (put_known map_value g b good bad r new (fits new_keys new_items new_fit new_length)) a (RegisterType.Reference r.class r.what) good bad
          (Register.Reference (extend r.refers.path (Selector.key z))) e refl
          (new_part_known map_value g b good bad r new (Selector.key z) r.what w.0 (key_part r.entry r.what z r.is) w.1)

  pub putk_goes : Row types constants one ks s h Operation.PutKey
  unfolding rule effect
  putk_goes a b c number good bad room e =
      let g = λ (x : Class × ℕ) (t : ℕ). typed.◌>>=◌ (integer_needed (known ks c)) (λ _. opens a (RegisterType.Reference x.0 t) (others_ended x.0 b ks)) in
      let r = found types constants one ks s h map_value g b good bad e in
      let q = bind_ok (integer_needed (known ks c)) (λ _. opens a (RegisterType.Reference r.class r.what) (others_ended r.class b ks)) (good, bad) r.rest in
      let x = integer_found types constants ks s h c q.0 q.1 in
      let v = entries_value s.types r.entry r.refers.leads.value r.what r.is r.fits in
      goes_bind types constants one ks s h good bad _ _ _ r.path_is (goes_bind types constants one ks s h good bad _ _ _ (ap integer_in x.1) (goes_bind types constants one ks s h good bad _ _ _ (ap (λ o. o >>= map_value) r.form_is ∙ r.is)
      (goes_bind types constants one ks s h good bad _ _ _ (value_is map_value g b good bad r entries_in (v.0, v.1) (Map v.0 v.1) v.2 refl)
      (put_key a b good bad g r v.0 v.1 v.2 v.3 v.4 v.5 x.0 room q.2 (key_place v.0 x.0) refl))))

  pub delk_goes : Row types constants one ks s h Operation.DeleteKey
  unfolding rule effect
  delk_goes a b c number good bad room e =
      let g = λ (x : Class × ℕ) (u : ⊤). typed.◌>>=◌ (integer_needed (known ks c)) (λ _. gives a RegisterType.Int (others_ended x.0 b ks)) in
      let r = found types constants one ks s h is_map g b good bad e in
      let q = bind_ok (integer_needed (known ks c)) (λ _. gives a RegisterType.Int (others_ended r.class b ks)) (good, bad) r.rest in
      let x = integer_found types constants ks s h c q.0 q.1 in
      let t = map_has_value r.entry r.what r.is in
      let v = entries_value s.types r.entry r.refers.leads.value t.0 t.1 r.fits in
      goes_bind types constants one ks s h good bad _ _ _ r.path_is (goes_bind types constants one ks s h good bad _ _ _ (ap integer_in x.1)
      (goes_bind types constants one ks s h good bad _ _ _ (value_is is_map g b good bad r entries_in (v.0, v.1) (Map v.0 v.1) v.2 refl)
      (deleted g r v.0 v.1 t.0 v.3 v.4 v.5 q.2 (key_place v.0 x.0))))
    where
      deleted : (g : Class × ℕ → ⊤ → Rule) (r : Found types constants one ks s h is_map g b good bad) (keys : List ℤ) (vs : Values) (t : ℕ) → AllHaveShape s.types t vs
          → length keys ≡ count vs → ((ks : List ℤ) (ws : Values) → AllHaveShape s.types t ws → length ks ≡ count ws → IsOf s.types r.entry (Map ks ws))
          → gives a RegisterType.Int (others_ended r.class b ks) ≡ Ok (good, bad) → (o : Option ℕ)
          → Goes types constants good bad (option_map_or (λ i. give_count a 1 (put_at s r.refers.path (without_entry (keys, vs) i))) o (give_count a 0 s))
      deleted g r keys vs t all l fits f None = number_goes types constants one ks s h (others_ended r.class b ks) s a 0 good bad (others_known is_map g b good bad r) f
      deleted g r keys vs t all l fits f (Some i) =
          let new_fit = all_remove s.types t vs i all in
          number_goes types constants one ks s h (others_ended r.class b ks) (put_at s r.refers.path (without_entry (keys, vs) i)) a 1 good bad
          (put_known is_map g b good bad r (without_entry (keys, vs) i) (fits (remove keys i) (remove_nth vs i) new_fit (remove_length keys vs i l))) f
