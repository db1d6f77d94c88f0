-- The items of a buffer in order: the item at an index, and the last item.
use Rattle.std.proofs.Common.{◌≡◌, ℕ, zero, suc, ◌+◌, ◌-◌, ◌*◌, ◌<◌, ◌≤◌, List, [], ◌∷◌, ◌++◌, length, Some, refl, sym, ap, ◌∙◌, subst, arith}
use Rattle.std.specs.Prelude.{slice_get}
use Rattle.std.proofs.lemmas.List.{append-nil}
use Rattle.seg_spec.specs.Types.{Form, Table, form_at, size}
use Rattle.seg_spec.specs.Value.{Label, Value, Values, nil, cons, append, Selector}
use Rattle.seg_spec.specs.Items.{without_last}
use Rattle.seg_spec.specs.Block.{Kind, tag_of}
use Rattle.seg_spec.specs.Reads.{Place, Opened, count_at, named, start, items, NamesRoom, Holds, HoldsEach, holds_none, holds_more, Leads, here, into}

module _ (table : Table) (U : ℕ) where
  pub get_item : (at n i : ℕ) → i < n → slice_get (items table at U n) i ≡ Some (record { at = at + i * size table U; type = U })
  get_item at zero i l = absurd (omega arith)
  get_item at (suc n) zero l = let same : at ≡ at + 0 * size table U = omega arith in ap (λ p. Some (record { at = p; type = U })) same
  get_item at (suc n) (suc i) l =
      let same : at + size table U + i * size table U ≡ at + suc i * size table U = grind arith in
      get_item (at + size table U) n i (omega arith) ∙ ap (λ p. Some (record { at = p; type = U })) same

  pub one_more : (at n : ℕ) → items table at U (n + 1) ≡ items table at U n ++ record { at = at + n * size table U; type = U } ∷ []
  one_more at zero = let same : at ≡ at + 0 * size table U = omega arith in ap (λ p. record { at = p; type = U } ∷ []) same
  one_more at (suc n) =
      let same : at + size table U + n * size table U ≡ at + suc n * size table U = grind arith in
      let next : suc n + 1 ≡ suc (n + 1) = omega arith in
      ap (items table at U) next ∙ ap (λ ps. record { at = at; type = U } ∷ ps) (one_more (at + size table U) n ∙ ap (λ p. items table (at + size table U) U n ++ record { at = p; type = U } ∷ []) same)

  pub how_many : (at n : ℕ) → length (items table at U n) ≡ n
  how_many at zero = refl
  how_many at (suc n) = ap suc (how_many (at + size table U) n)

-- the buffer and the items of a vector's cell
module _ (bytes : List ℕ) (table : Table) (place : Place) (U : ℕ) (f : form_at table place.type ≡ Some (Form.vec U)) where
  abbrev pub its_items : Opened
  its_items = record { label = Label.seq; blocks = named bytes place.at; parts = items table (start bytes place.at) U (count_at bytes place.at) }

  pub leads_to_item : (i p : ℕ) → NamesRoom bytes place.at (tag_of Kind.buffer place.type) (size table U) → i < count_at bytes place.at → p ≡ start bytes place.at + i * size table U
      → Leads bytes table place (Selector.item i ∷ []) (record { at = p; type = U })
  leads_to_item i p room l is =
      into {place = place} (Form.vec U) its_items i (record { at = p; type = U }) f (record { named_room = room; ascending = tt; opened_is = refl }) refl
      (get_item table U (start bytes place.at) (count_at bytes place.at) i l ∙ ap (λ q. Some (record { at = q; type = U })) (sym is)) here

-- ---- the last item

pub record Last (bytes : List ℕ) (table : Table) (places : List Place) (last : Place) (vs : Values) (blocks : List ℕ) : Type 0 where
  pub left : Values
  pub value : Value
  pub values_are : vs ≡ append left (cons value nil)
  pub xs : List ℕ
  pub zs : List ℕ
  pub lefts : HoldsEach bytes table places left xs
  pub holds_it : Holds bytes table last value zs
  pub blocks_are : blocks ≡ xs ++ zs

module _ (bytes : List ℕ) (table : Table) where
  one_alone : {last : Place} {vs : Values} {blocks : List ℕ} → HoldsEach bytes table (last ∷ []) vs blocks → Last bytes table [] last vs blocks
  one_alone (holds_more {v = v} {blocks = bs} h holds_none) = record { left = nil; value = v; values_are = refl; xs = []; zs = bs; lefts = holds_none; holds_it = h; blocks_are = append-nil bs }

  pub last_of : (places : List Place) (last : Place) (vs : Values) (blocks : List ℕ) → HoldsEach bytes table (places ++ last ∷ []) vs blocks → Last bytes table places last vs blocks
  last_of [] last vs blocks h = one_alone h
  last_of (p ∷ ps) last nil blocks h = elim h [ ]
  last_of (p ∷ ps) last (cons v vs) blocks (holds_more {blocks = bs} {owned = os} h hs) =
      let m = last_of ps last vs os hs in
      record {
        left = cons v m.left;
        value = m.value;
        values_are = ap (cons v) m.values_are;
        xs = bs ++ m.xs;
        zs = m.zs;
        lefts = holds_more h m.lefts;
        holds_it = m.holds_it;
        blocks_are = ap (λ os. bs ++ os) m.blocks_are ∙ sym (Rattle.std.proofs.Common.append_assoc bs m.xs m.zs);
      }

pub all_but_last : (vs : Values) (v : Value) → without_last (append vs (cons v nil)) ≡ vs
all_but_last nil v = refl
all_but_last (cons u nil) v = refl
all_but_last (cons u (cons w ws)) v = ap (cons u) (all_but_last (cons w ws) v)
