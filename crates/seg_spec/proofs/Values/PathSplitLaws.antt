-- A value, split into the part at a path and the rest.
use Rattle.std.proofs.Common.{◌≡◌, ℕ, zero, suc, List, [], ◌∷◌, ◌++◌, length, Some, refl, sym, ap, ◌∙◌}
use Rattle.std.specs.Prelude.{slice_get}
use Rattle.std.proofs.lemmas.List.{append_assoc, append-nil}
use Rattle.seg_spec.specs.Types.{Form, Table, form_at}
use Rattle.seg_spec.specs.Value.{Label, Value, node, Values, nil, cons, count, nth, append, change_nth, Selector, index_of, value_at, with_value_at}
use Rattle.seg_spec.specs.Reads.{Place, Opened, Opens, Holds, holds, HoldsEach, holds_none, holds_more, Leads, here, into}
use Rattle.seg_spec.proofs.Values.AroundLaws.{Around, around_here, around_in}
use Rattle.seg_spec.proofs.Values.OneValueLaws.{Opens-one}

-- ---- values

pub nth-append : (vs ws : Values) (u : Value) → nth (append vs (cons u ws)) (count vs) ≡ Some u
nth-append nil ws u = refl
nth-append (cons v vs) ws u = nth-append vs ws u

pub change_nth-append : (f : Value → Value) (vs ws : Values) (u : Value) → change_nth (Some (count vs)) f (append vs (cons u ws)) ≡ append vs (cons (f u) ws)
change_nth-append f nil ws u = refl
change_nth-append f (cons v vs) ws u = ap (cons v) (change_nth-append f vs ws u)

value_at-middle : (v : Value) (label : Label) (s : Selector) (path : List Selector) (vs ws : Values) (u r : Value) → v ≡ node label (append vs (cons u ws)) → index_of label s ≡ Some (count vs) → value_at u path ≡ Some r
    → value_at v (s ∷ path) ≡ Some r
value_at-middle v label s path vs ws u r v_is index e = rw (v_is, index, nth-append vs ws u) e

-- ---- blocks

outer_blocks : (ob xs ys left its right : List ℕ) → ob ++ (xs ++ ((left ++ (its ++ right)) ++ ys)) ≡ (ob ++ (xs ++ left)) ++ (its ++ (right ++ ys))
outer_blocks ob xs ys left its right = simp append_assoc

module _ (bytes : List ℕ) (table : Table) where
  -- a path to a place and a path from it make one path
  pub Leads-append : {place middle_is inner : Place} {path more : List Selector} → Leads bytes table place path middle_is → Leads bytes table middle_is more inner → Leads bytes table place (path ++ more) inner
  Leads-append here l = l
  Leads-append (into form opened i target f o index part_is rest) l = into form opened i target f o index part_is (Leads-append rest l)

  -- the value and the blocks of a place, by how the place opens
  pub record OpenedAs (opened : Opened) (v : Value) (blocks : List ℕ) : Type 0 where
    pub inside : Values
    pub owned : List ℕ
    pub each : HoldsEach bytes table opened.parts inside owned
    pub value_is : v ≡ node opened.label inside
    pub blocks_are : blocks ≡ opened.blocks ++ owned

  pub opened_as : {place : Place} {v : Value} {blocks : List ℕ} (form : Form) (opened : Opened) → form_at table place.type ≡ Some form → Opens bytes table place form opened → Holds bytes table place v blocks → OpenedAs opened v blocks
  opened_as {place = place} form opened f o (holds form' opened' inside owned f' o' hs v_is blocks_are) =
      let forms : form' ≡ form = cc in
      let same : opened' ≡ opened = Opens-one bytes table place form opened' opened (rw forms at o') o in
      record { inside = inside; owned = owned; each = rw same at hs; value_is = rw same at v_is; blocks_are = rw same at blocks_are }

  pub count_is : {places : List Place} {vs : Values} {blocks : List ℕ} → HoldsEach bytes table places vs blocks → length places ≡ count vs
  count_is holds_none = refl
  count_is (holds_more h hs) = ap suc (count_is hs)

  -- the value at an index, and the values before and after it
  pub record Middle (places : List Place) (i : ℕ) (part : Place) (vs : Values) (blocks : List ℕ) : Type 0 where
    pub before : List Place
    pub after : List Place
    pub places_are : places ≡ before ++ part ∷ after
    pub at_is : length before ≡ i
    pub left : Values
    pub right : Values
    pub value : Value
    pub values_are : vs ≡ append left (cons value right)
    pub xs : List ℕ
    pub ys : List ℕ
    pub zs : List ℕ
    pub lefts : HoldsEach bytes table before left xs
    pub rights : HoldsEach bytes table after right ys
    pub holds_it : Holds bytes table part value zs
    pub blocks_are : blocks ≡ xs ++ (zs ++ ys)

  pub middle : {places : List Place} {vs : Values} {blocks : List ℕ} → HoldsEach bytes table places vs blocks → (i : ℕ) (part : Place) → slice_get places i ≡ Some part → Middle places i part vs blocks
  middle holds_none i part e = cc
  middle (holds_more {places = places} {v = v} {vs = vs} {blocks = blocks} {owned = owned} h hs) zero part e = record {
    before = [];
    after = places;
    places_are = cc;
    at_is = refl;
    left = nil;
    right = vs;
    value = v;
    values_are = refl;
    xs = [];
    ys = owned;
    zs = blocks;
    lefts = holds_none;
    rights = hs;
    holds_it = first e h;
    blocks_are = refl;
  }
    where
      first : {p : Place} {v : Value} {blocks : List ℕ} → Some p ≡ Some part → Holds bytes table p v blocks → Holds bytes table part v blocks
      first {p = p} e h = let same : p ≡ part = cc in rw same at h
  middle (holds_more {place = place} {v = v} {blocks = blocks} {owned = owned} h hs) (suc i) part e =
      let m = middle hs i part e in
      record {
        before = place ∷ m.before;
        after = m.after;
        places_are = ap (λ ps. place ∷ ps) m.places_are;
        at_is = ap suc m.at_is;
        left = cons v m.left;
        right = m.right;
        value = m.value;
        values_are = ap (cons v) m.values_are;
        xs = blocks ++ m.xs;
        ys = m.ys;
        zs = m.zs;
        lefts = holds_more h m.lefts;
        rights = m.rights;
        holds_it = m.holds_it;
        blocks_are = ap (λ zs. blocks ++ zs) m.blocks_are ∙ sym (append_assoc blocks m.xs (m.zs ++ m.ys));
      }

  -- the part of a value at a path, and the rest of the value
  pub record Split (place : Place) (path : List Selector) (inner : Place) (v : Value) (blocks : List ℕ) : Type 0 where
    pub value : Value
    pub its : List ℕ
    pub left : List ℕ
    pub right : List ℕ
    pub holds_it : Holds bytes table inner value its
    pub value_is : value_at v path ≡ Some value
    pub around : Around bytes table place path inner v left right
    pub blocks_are : blocks ≡ left ++ (its ++ right)

  pub split : {place inner : Place} {path : List Selector} {v : Value} {blocks : List ℕ} → Leads bytes table place path inner → Holds bytes table place v blocks → Split place path inner v blocks
  split {v = v} {blocks = blocks} here h = record { value = v; its = blocks; left = []; right = []; holds_it = h; value_is = refl; around = around_here; blocks_are = sym (append-nil blocks) }
  split {v = v} {blocks = blocks} (into {s = s} {path = path} form opened i target f o at part_is more) h =
      let d = opened_as form opened f o h in
      let m = middle d.each i target part_is in
      let r = split more m.holds_it in
      let all : v ≡ node opened.label (append m.left (cons m.value m.right)) = d.value_is ∙ ap (λ vs. node opened.label vs) m.values_are in
      let index : index_of opened.label s ≡ Some (count m.left) = at ∙ ap Some (sym m.at_is ∙ count_is m.lefts) in
      record {
        value = r.value;
        its = r.its;
        left = opened.blocks ++ (m.xs ++ r.left);
        right = r.right ++ m.ys;
        holds_it = r.holds_it;
        value_is = value_at-middle v opened.label s path m.left m.right m.value r.value all index r.value_is;
        around = around_in form opened m.before m.after target m.left m.right m.value m.xs m.ys r.left r.right f o (at ∙ ap Some (sym m.at_is)) m.places_are m.lefts m.rights r.around all refl refl;
        blocks_are = d.blocks_are ∙ ap (λ zs. opened.blocks ++ zs) (m.blocks_are ∙ ap (λ zs. m.xs ++ (zs ++ m.ys)) r.blocks_are) ∙ outer_blocks opened.blocks m.xs m.ys r.left r.its r.right;
      }

  pub each_joined : {before after : List Place} {part : Place} {vs ws : Values} {w : Value} {xs ys zs : List ℕ} → HoldsEach bytes table before vs xs → Holds bytes table part w zs → HoldsEach bytes table after ws ys
      → HoldsEach bytes table (before ++ part ∷ after) (append vs (cons w ws)) (xs ++ (zs ++ ys))
  each_joined holds_none h rs = holds_more h rs
  each_joined (holds_more {blocks = bs} {owned = cs} l ls) h rs = rw append_assoc (holds_more l (each_joined ls h rs))

  -- a part and the rest make a value
  pub join : {place inner : Place} {path : List Selector} {v u : Value} {left right its : List ℕ} → Around bytes table place path inner v left right → Holds bytes table inner u its
      → Holds bytes table place (with_value_at path u v) (left ++ (its ++ right))
  join {its = its} around_here h = rw append-nil h
  join {u = u'} {its = its} (around_in {s = s} {path = path} form opened before after target vs ws u xs ys left right f o at parts_are ls rs more v_is left_is right_is) h =
      let index : index_of opened.label s ≡ Some (count vs) = at ∙ ap Some (count_is ls) in
      holds form opened (append vs (cons (with_value_at path u' u) ws)) (xs ++ ((left ++ (its ++ right)) ++ ys)) f o (rw parts_are (each_joined ls (join more h) rs)) (rw (v_is, index, change_nth-append (with_value_at path u') vs ws u) refl)
      (rw (left_is, right_is) (sym (outer_blocks opened.blocks xs ys left its right)))
