-- An instruction on a place has a row only if the path in register b begins at an object.
use Rattle.std.proofs.Common.{inl, inr, subst, ◌⊎◌, ◌≡◌, ℕ, zero, suc, ◌+◌, ℤ, Bool, true, false, List, [], ◌∷◌, Option, Some, None, refl, sym, ap, ◌∙◌}
use Rattle.std.specs.Prelude.{slice_get}
use Rattle.seg_spec.specs.Types.{Form, Table, size}
use Rattle.seg_spec.specs.Value.{Label, Value, Selector, index_of, default_of, value_at, with_value_at}
use Rattle.seg_spec.specs.Block.{has_buffer}
use Rattle.seg_spec.specs.Reads.{Place, Opened, Opens, Leads, here, into, places_of, fields}
use Rattle.client_spec.specs.declared.table.Operation.{Operation}
use Rattle.client_spec.specs.Syntax.{Constant}
use Rattle.client_spec.specs.Machine.{◌>>=◌, Path, State, at_origin, path_value, path_type, put_at, part_type, type_along}
use Rattle.client_spec.specs.Answer.{Answer, success, path_of, path_form, integer_at, text_in, items_in, int_in}
use Rattle.client_spec.specs.Effect.{effect}
use Rattle.client_spec.proofs.TypedStates.ValueLaws.{Some_inj, bind_some}
use Rattle.client_spec.proofs.TypedStates.StateLaws.{origin_put_same}
use Rattle.client_spec.proofs.TypedStates.PutLaws.{put_at_is, put_same}

-- the instruction changes the place that register b refers to
abbrev pub at_place : Operation → Bool
at_place Operation.Put = true
at_place Operation.Take = true
at_place Operation.Clear = true
at_place Operation.Store = true
at_place Operation.PushBack = true
at_place Operation.PushFront = true
at_place Operation.PopBack = true
at_place Operation.PopFront = true
at_place Operation.SetStr = true
at_place Operation.AddStr = true
at_place Operation.AddByte = true
at_place Operation.Shrink = true
at_place Operation.PutKey = true
at_place Operation.DeleteKey = true
at_place Operation.Freeze = true
at_place Operation.Share = true
at_place operation = false

module _ (constants : List Constant) (a b c : ℕ) (number : ℤ) (room : Bool) (X : State) (p : Path) (is : path_of X b ≡ Some p) (none : at_origin X p.origin ≡ None) where
  put_nothing : (o : Option ℤ) → integer_at X c ≡ o → effect constants Operation.PutKey a b c number room X ≡ None
  unfolding effect
  put_nothing None e = cc
  put_nothing (Some k) e = cc

  delete_nothing : (o : Option ℤ) → integer_at X c ≡ o → effect constants Operation.DeleteKey a b c number room X ≡ None
  unfolding effect
  delete_nothing None e = cc
  delete_nothing (Some k) e = cc

  nothing : (op : Operation) → at_place op ≡ true → effect constants op a b c number room X ≡ None
  unfolding effect
  nothing Operation.Put e = cc
  nothing Operation.Take e = cc
  nothing Operation.Clear e = cc
  nothing Operation.Store e = cc
  nothing Operation.PushBack e = cc
  nothing Operation.PushFront e = cc
  nothing Operation.PopBack e = cc
  nothing Operation.PopFront e = cc
  nothing Operation.SetStr e = cc
  nothing Operation.AddStr e = cc
  nothing Operation.AddByte e = cc
  nothing Operation.Shrink e = cc
  nothing Operation.PutKey e = put_nothing (integer_at X c) refl
  nothing Operation.DeleteKey e = delete_nothing (integer_at X c) refl
  nothing Operation.Freeze e = cc
  nothing Operation.Share e = cc
  nothing op e = cc

-- the path begins at an object
pub begins_there : (constants : List Constant) (op : Operation) (a b c : ℕ) (number : ℤ) (room : Bool) (X : State) (r : Answer × State) → at_place op ≡ true → effect constants op a b c number room X ≡ Some r
    → (p : Path) → path_of X b ≡ Some p → (found : Value × ℕ) × (at_origin X p.origin ≡ Some found)
begins_there constants op a b c number room X r places e p is = go (at_origin X p.origin) refl
  where
    go : (o : Option (Value × ℕ)) → at_origin X p.origin ≡ o → (found : Value × ℕ) × (at_origin X p.origin ≡ Some found)
    go None none = absurd (let f : None ≡ Some r = sym (nothing constants a b c number room X p is none op places) ∙ e in cc)
    go (Some found) some = (found, some)

-- SHRINK has a row only for a place with a buffer
pub shrinks_buffer : (constants : List Constant) (a b c : ℕ) (number : ℤ) (room : Bool) (X : State) (r : Answer × State) → effect constants Operation.Shrink a b c number room X ≡ Some r
    → (p : Path) (k : Form) → path_of X b ≡ Some p → path_form X p ≡ Some k → has_buffer (Some k) ≡ true
unfolding effect
shrinks_buffer constants a b c number room X r e p k is form = go (has_buffer (Some k)) refl (path_value X p) refl
  where
    go : (t : Bool) → has_buffer (Some k) ≡ t → (o : Option Value) → path_value X p ≡ o → t ≡ true
    go true f o g = refl
    go false f None g = absurd (let h : None ≡ Some r = cc in cc)
    go false f (Some v) g = absurd (let h : None ≡ Some r = cc in cc)

-- CLEAR puts a default value at the path
pub clears_to : (constants : List Constant) (a b c : ℕ) (number : ℤ) (room : Bool) (X : State) (r : Answer × State) → effect constants Operation.Clear a b c number room X ≡ Some r → (p : Path) → path_of X b ≡ Some p
    → (v : Value) × (T : ℕ) × (path_value X p ≡ Some v) × (r.1 ≡ put_at X p (default_of X.types T))
unfolding effect
clears_to constants a b c number room X r e p is = go (path_type X p) refl (path_value X p) refl
  where
    go : (o : Option ℕ) → path_type X p ≡ o → (q : Option Value) → path_value X p ≡ q → (v : Value) × (T : ℕ) × (path_value X p ≡ Some v) × (r.1 ≡ put_at X p (default_of X.types T))
    go None f q g = absurd (let h : None ≡ Some r = cc in cc)
    go (Some T) f None g = absurd (let h : None ≡ Some r = cc in cc)
    go (Some T) f (Some v) g = (v, T, g, (let h : Some (success, put_at X p (default_of X.types T)) ≡ Some r = cc in sym (ap (λ (z : Answer × State). z.1) (Some_inj h))))

-- the value that was put at a path is there
pub put_there : (s : State) (p : Path) (old new : Value) → path_value s p ≡ Some old → path_value (put_at s p new) p ≡ Some new
put_there s p old new e =
    let a = bind_some (at_origin s p.origin) (λ (found : Value × ℕ). value_at found.0 p.selectors) old e in
    ap (λ z. path_value z p) (put_at_is s p a.0.0 new a.0.1 a.1) ∙ ap (λ (o : Option (Value × ℕ)). o >>= λ found. value_at found.0 p.selectors)
    (origin_put_same s p.origin a.0.0 (with_value_at p.selectors new a.0.0) a.0.1 a.1) ∙ put_same p.selectors a.0.0 old new a.2

-- POP has a row only for a text or for items
pub pops_from : (constants : List Constant) (a b c : ℕ) (number : ℤ) (room : Bool) (X : State) (r : Answer × State) → effect constants Operation.PopBack a b c number room X ≡ Some r → (p : Path) → path_of X b ≡ Some p
    → (v : Value) × (path_value X p ≡ Some v) × (text_in v ≡ None → items_in v ≡ None → ⊥)
unfolding effect
pops_from constants a b c number room X r e p is = go (path_value X p) refl
  where
    go : (o : Option Value) → path_value X p ≡ o → (v : Value) × (path_value X p ≡ Some v) × (text_in v ≡ None → items_in v ≡ None → ⊥)
    go None f = absurd (let h : None ≡ Some r = cc in cc)
    go (Some v) f = (v, f, λ no_text no_items. (let h : None ≡ Some r = cc in cc))

-- STORE has a row only for a number
pub stores_in : (constants : List Constant) (a b c : ℕ) (number : ℤ) (room : Bool) (X : State) (r : Answer × State) → effect constants Operation.Store a b c number room X ≡ Some r → (p : Path) → path_of X b ≡ Some p
    → (v : Value) × (path_value X p ≡ Some v) × (int_in v ≡ None → ⊥)
unfolding effect
stores_in constants a b c number room X r e p is = go (path_value X p) refl
  where
    go : (o : Option Value) → path_value X p ≡ o → (v : Value) × (path_value X p ≡ Some v) × (int_in v ≡ None → ⊥)
    go None f = absurd (let h : None ≡ Some r = cc in cc)
    go (Some v) f = (v, f, λ no_number. (let h : None ≡ Some r = cc in cc))

-- SETS, ADDS and ADDB have a row only for a text
pub writes_text : (constants : List Constant) (a b c : ℕ) (number : ℤ) (room : Bool) (X : State) (r : Answer × State) {op : Operation} → (op ≡ Operation.SetStr) ⊎ (op ≡ Operation.AddStr) ⊎ (op ≡ Operation.AddByte)
    → effect constants op a b c number room X ≡ Some r → (p : Path) → path_of X b ≡ Some p → (v : Value) × (path_value X p ≡ Some v) × (text_in v ≡ None → ⊥)
unfolding effect
writes_text constants a b c number room X r (inl is_op) e p is = go (path_value X p) refl (subst (λ o. effect constants o a b c number room X ≡ Some r) is_op e)
  where
    go : (o : Option Value) → path_value X p ≡ o → effect constants Operation.SetStr a b c number room X ≡ Some r → (v : Value) × (path_value X p ≡ Some v) × (text_in v ≡ None → ⊥)
    go None f e = absurd (let h : None ≡ Some r = cc in cc)
    go (Some v) f e = (v, f, λ no_text. (let h : None ≡ Some r = cc in cc))
writes_text constants a b c number room X r (inr (inl is_op)) e p is = go (path_value X p) refl (subst (λ o. effect constants o a b c number room X ≡ Some r) is_op e)
  where
    go : (o : Option Value) → path_value X p ≡ o → effect constants Operation.AddStr a b c number room X ≡ Some r → (v : Value) × (path_value X p ≡ Some v) × (text_in v ≡ None → ⊥)
    go None f e = absurd (let h : None ≡ Some r = cc in cc)
    go (Some v) f e = (v, f, λ no_text. (let h : None ≡ Some r = cc in cc))
writes_text constants a b c number room X r (inr (inr is_op)) e p is = go (path_value X p) refl (subst (λ o. effect constants o a b c number room X ≡ Some r) is_op e)
  where
    go : (o : Option Value) → path_value X p ≡ o → effect constants Operation.AddByte a b c number room X ≡ Some r → (v : Value) × (path_value X p ≡ Some v) × (text_in v ≡ None → ⊥)
    go None f e = absurd (let h : None ≡ Some r = cc in cc)
    go (Some v) f e = (v, f, λ no_text. (let h : None ≡ Some r = cc in cc))

-- ---- the type at the end of a path

places_typed : (U : ℕ) (ps : List ℕ) (i : ℕ) (part : Place) → slice_get (places_of U ps) i ≡ Some part → U ≡ part.type
places_typed U [] i part e = cc
places_typed U (p ∷ ps) zero part e = ap (λ (q : Place). q.type) (Some_inj e)
places_typed U (p ∷ ps) (suc i) part e = places_typed U ps i part e

fields_typed : (table : Table) (at : ℕ) (Us : List ℕ) (i : ℕ) (part : Place) → slice_get (fields table at Us) i ≡ Some part → slice_get Us i ≡ Some part.type
fields_typed table at [] i part e = cc
fields_typed table at (U ∷ Us) zero part e = ap (λ (q : Place). Some q.type) (Some_inj e)
fields_typed table at (U ∷ Us) (suc i) part e = fields_typed table (at + size table U) Us i part e

module _ (bytes : List ℕ) (table : Table) where
  seq_part : (k : Form) (U : ℕ) (ps : List ℕ) (s : Selector) (i : ℕ) (part : Place) → ((j : ℕ) → part_type (Selector.item j) k ≡ Some U) → index_of Label.seq s ≡ Some i → slice_get (places_of U ps) i ≡ Some part
      → part_type s k ≡ Some part.type
  seq_part k U ps (Selector.item j) i part so e f = so j ∙ ap Some (places_typed U ps i part f)
  seq_part k U ps (Selector.field j) i part so e f = cc
  seq_part k U ps (Selector.key j) i part so e f = cc
  seq_part k U ps Selector.content i part so e f = cc

  map_part : (k : Form) (U : ℕ) (keys : List ℤ) (ps : List ℕ) (s : Selector) (i : ℕ) (part : Place) → ((j : ℤ) → part_type (Selector.key j) k ≡ Some U) → index_of (Label.map keys) s ≡ Some i → slice_get (places_of U ps) i ≡ Some part
      → part_type s k ≡ Some part.type
  map_part k U keys ps (Selector.item j) i part so e f = cc
  map_part k U keys ps (Selector.field j) i part so e f = cc
  map_part k U keys ps (Selector.key j) i part so e f = so j ∙ ap Some (places_typed U ps i part f)
  map_part k U keys ps Selector.content i part so e f = cc

  own_part : (U : ℕ) (ps : List ℕ) (s : Selector) (i : ℕ) (part : Place) → index_of Label.opt s ≡ Some i → slice_get (places_of U ps) i ≡ Some part → part_type s (Form.own U) ≡ Some part.type
  own_part U ps (Selector.item j) i part e f = cc
  own_part U ps (Selector.field j) i part e f = cc
  own_part U ps (Selector.key j) i part e f = cc
  own_part U ps Selector.content i part e f = ap Some (places_typed U ps i part f)

  struct_part : (at : ℕ) (Us : List ℕ) (s : Selector) (i : ℕ) (part : Place) → index_of Label.struct s ≡ Some i → slice_get (fields table at Us) i ≡ Some part → part_type s (Form.struct Us) ≡ Some part.type
  struct_part at Us (Selector.item j) i part e f = cc
  struct_part at Us (Selector.field j) i part e f = ap (slice_get Us) (Some_inj e) ∙ fields_typed table at Us i part f
  struct_part at Us (Selector.key j) i part e f = cc
  struct_part at Us Selector.content i part e f = cc

  no_part : (opened : Opened) (i : ℕ) (part : Place) {A : Type 0} → opened.parts ≡ [] → slice_get opened.parts i ≡ Some part → A
  no_part opened i part e f = absurd (let g : None ≡ Some part = sym (ap (λ (ps : List Place). slice_get ps i) e) ∙ f in cc)

  -- the part that a selector selects has the type that the form gives it
  part_typed : (place : Place) (form : Form) (opened : Opened) (s : Selector) (i : ℕ) (part : Place) → Opens bytes table place form opened → index_of opened.label s ≡ Some i → slice_get opened.parts i ≡ Some part
      → part_type s form ≡ Some part.type
  part_typed place Form.i64 opened s i part o e f = no_part opened i part (ap (λ (x : Opened). x.parts) o) f
  part_typed place Form.str opened s i part o e f = no_part opened i part (ap (λ (x : Opened). x.parts) o.opened_is) f
  part_typed place (Form.vec U) opened s i part o e f =
      seq_part (Form.vec U) U _ s i part (λ j. refl) (ap (λ (x : Opened). index_of x.label s) (sym o.opened_is) ∙ e) (ap (λ (x : Opened). slice_get x.parts i) (sym o.opened_is) ∙ f)
  part_typed place (Form.list U) opened s i part o e f =
      seq_part (Form.list U) U _ s i part (λ j. refl) (ap (λ (x : Opened). index_of x.label s) (sym o.opened_is) ∙ e) (ap (λ (x : Opened). slice_get x.parts i) (sym o.opened_is) ∙ f)
  part_typed place (Form.flat_map U) opened s i part o e f =
      map_part (Form.flat_map U) U _ _ s i part (λ j. refl) (ap (λ (x : Opened). index_of x.label s) (sym o.opened_is) ∙ e) (ap (λ (x : Opened). slice_get x.parts i) (sym o.opened_is) ∙ f)
  part_typed place (Form.map U) opened s i part o e f =
      map_part (Form.map U) U _ _ s i part (λ j. refl) (ap (λ (x : Opened). index_of x.label s) (sym o.opened_is) ∙ e) (ap (λ (x : Opened). slice_get x.parts i) (sym o.opened_is) ∙ f)
  part_typed place (Form.own U) opened s i part o e f =
      own_part U _ s i part (ap (λ (x : Opened). index_of x.label s) (sym o.opened_is) ∙ e) (ap (λ (x : Opened). slice_get x.parts i) (sym o.opened_is) ∙ f)
  part_typed place (Form.struct Us) opened s i part o e f =
      struct_part place.at Us s i part (ap (λ (x : Opened). index_of x.label s) (sym o) ∙ e) (ap (λ (x : Opened). slice_get x.parts i) (sym o) ∙ f)
  part_typed place (Form.shared U) opened s i part o e f = no_part opened i part (ap (λ (x : Opened). x.parts) o.opened_is) f

  pub type_led : {place inner : Place} {path : List Selector} → Leads bytes table place path inner → type_along table path place.type ≡ Some inner.type
  type_led here = refl
  type_led {place = place} (into {s = s} {path = path} form opened i part f o e g more) =
      ap (λ k. k >>= λ k. part_type s k >>= type_along table path) f ∙ ap (λ t. t >>= type_along table path) (part_typed place form opened s i part o e g) ∙ type_led more
