-- An own loses its object.
use Rattle.std.proofs.Common.{◌≡◌, ◌≢◌, ℕ, zero, suc, ◌+◌, ◌*◌, ◌^◌, ◌<◌, ◌≤◌, inl, List, [], ◌∷◌, ◌++◌, length, Option, Some, None, option_to_list, option_map, refl, sym, ap, ◌∙◌, subst, arith, append-nil}
use Rattle.seg_spec.specs.Bytes.{set_word, ChangesOnly}
use Rattle.seg_spec.specs.Pointer.{target, set_pointer}
use Rattle.seg_spec.specs.Types.{Form, Table, form_at, size}
use Rattle.seg_spec.specs.Value.{Label, Value, Values, nil, cons, Empty, Full}
use Rattle.seg_spec.specs.Block.{Kind, tag_of, IsBlock, block_of}
use Rattle.seg_spec.specs.Reads.{Place, Opened, count_at, named, start, items, OpensOwn, Opens, Holds, holds, HoldsEach, holds_none, holds_more}
use Rattle.seg_spec.proofs.BytesLaws.{number-set_same, number-set_other, length-set_number}
use Rattle.seg_spec.proofs.PointerLaws.{target-set_same, target-same}
use Rattle.seg_spec.proofs.Images.RootWriteLaws.{set_number-changes}
use Rattle.seg_spec.proofs.Values.CellChangeLaws.{ChangesOnly-trans, ChangesOnly-wider}

module _ (bytes : List ℕ) (table : Table) where
  -- an own with a value points to the value's object
  pub record FullOwn (place : Place) (U : ℕ) (v : Value) (blocks : List ℕ) : Type 0 where
    pub object : ℕ
    pub inside : List ℕ
    pub names : target bytes place.at ≡ Some object
    pub block : IsBlock bytes object (tag_of Kind.object U) (size table U)
    pub holds_it : Holds bytes table (record { at = object; type = U }) v inside
    pub blocks_are : blocks ≡ block_of object ∷ inside

  one_length : (o : Option ℕ) (n : ℕ) → n ≡ length (option_to_list (option_map block_of o)) → n ≡ 1 → (p : ℕ) × (o ≡ Some p)
  one_length None n e f = absurd (omega arith)
  one_length (Some p) n e f = (p, refl)

  none_length : (o : Option ℕ) (n : ℕ) → n ≡ length (option_to_list (option_map block_of o)) → n ≡ 0 → o ≡ None
  none_length None n e f = refl
  none_length (Some p) n e f = absurd (omega arith)

  same_form : (f g : Form) → Some f ≡ Some g → f ≡ g
  same_form f g e = cc

  values_of : Value → Values
  values_of (Value.node l vs) = vs

  -- a list of one item, whose place begins at a position
  record OneItem (at U n : ℕ) (v : Value) (owned : List ℕ) : Type 0 where
    n_is : n ≡ 1
    holds_it : Holds bytes table (record { at = at; type = U }) v owned

  one_item : (at U n : ℕ) (v : Value) (owned : List ℕ) → HoldsEach bytes table (items table at U n) (cons v nil) owned → OneItem at U n v owned
  one_item at U zero v owned h = elim h [ ]
  one_item at U (suc zero) v owned (holds_more {blocks = bs} {owned = none} first holds_none) = record { n_is = refl; holds_it = subst (λ xs. Holds bytes table (record { at = at; type = U }) v xs) (sym (append-nil bs)) first }
  one_item at U (suc (suc n)) v owned (holds_more first rest) = elim rest [ ]

  no_item : (at U n : ℕ) (owned : List ℕ) → HoldsEach bytes table (items table at U n) nil owned → n ≡ 0
  no_item at U zero owned h = refl
  no_item at U (suc n) owned h = elim h [ ]

  full_by : (place : Place) (U : ℕ) (v : Value) (blocks : List ℕ) (opened : Opened) (inside : Values) (owned : List ℕ) →
      OpensOwn bytes place.at (tag_of Kind.object U) (size table U) opened (record { label = Label.opt; blocks = named bytes place.at; parts = items table (start bytes place.at) U (count_at bytes place.at) })
      → HoldsEach bytes table opened.parts inside owned → inside ≡ cons v nil → blocks ≡ opened.blocks ++ owned → FullOwn place U v blocks
  full_by place U v blocks opened inside owned o hs inside_is blocks_is =
      let parts : opened.parts ≡ items table (start bytes place.at) U (count_at bytes place.at) = ap (λ (r : Opened). r.parts) o.opened_is in
      let hs' : HoldsEach bytes table (items table (start bytes place.at) U (count_at bytes place.at)) (cons v nil) owned = rw (← parts, ← inside_is) hs in
      let one = one_item (start bytes place.at) U (count_at bytes place.at) v owned hs' in
      let p = one_length (target bytes place.at) (count_at bytes place.at) o.counted one.n_is in
      let room : IsBlock bytes p.0 (tag_of Kind.object U) (count_at bytes place.at * size table U) = rw p.1 at o.named_room in
      let one_size : count_at bytes place.at * size table U ≡ size table U = rw one.n_is (omega arith) in
      record {
        object = p.0;
        inside = owned;
        names = p.1;
        block = rw one_size at room;
        holds_it = rw p.1 at one.holds_it;
        blocks_are = blocks_is ∙ ap (λ bs. bs ++ owned) (ap (λ (r : Opened). r.blocks) o.opened_is ∙ ap (λ o. option_to_list (option_map block_of o)) p.1);
      }

  pub full_own : (place : Place) (U : ℕ) (v : Value) (blocks : List ℕ) → form_at table place.type ≡ Some (Form.own U) → Holds bytes table place (Full v) blocks → FullOwn place U v blocks
  unfolding values_of
  full_own place U v blocks f (holds form opened inside owned g o hs v_is blocks_is) =
      let same = same_form form (Form.own U) (sym g ∙ f) in
      let o' : Opens bytes table place (Form.own U) opened = subst (λ h. Opens bytes table place h opened) same o in
      full_by place U v blocks opened inside owned o' hs (sym (ap values_of v_is)) blocks_is

  empty_by : (place : Place) (U : ℕ) (opened : Opened) (inside : Values) (owned : List ℕ) →
      OpensOwn bytes place.at (tag_of Kind.object U) (size table U) opened (record { label = Label.opt; blocks = named bytes place.at; parts = items table (start bytes place.at) U (count_at bytes place.at) })
      → HoldsEach bytes table opened.parts inside owned → inside ≡ nil → target bytes place.at ≡ None
  empty_by place U opened inside owned o hs inside_is =
      let parts : opened.parts ≡ items table (start bytes place.at) U (count_at bytes place.at) = ap (λ (r : Opened). r.parts) o.opened_is in
      let hs' : HoldsEach bytes table (items table (start bytes place.at) U (count_at bytes place.at)) nil owned = rw (← parts, ← inside_is) hs in
      none_length (target bytes place.at) (count_at bytes place.at) o.counted (no_item (start bytes place.at) U (count_at bytes place.at) owned hs')

  pub empty_own : (place : Place) (U : ℕ) (blocks : List ℕ) → form_at table place.type ≡ Some (Form.own U) → Holds bytes table place Empty blocks → target bytes place.at ≡ None
  unfolding values_of
  empty_own place U blocks f (holds form opened inside owned g o hs v_is blocks_is) =
      let same = same_form form (Form.own U) (sym g ∙ f) in
      let o' : Opens bytes table place (Form.own U) opened = subst (λ h. Opens bytes table place h opened) same o in
      empty_by place U opened inside owned o' hs (sym (ap values_of v_is))

  -- an own with a null pointer and the count 0 is empty
  pub null_own : (place : Place) (U : ℕ) → form_at table place.type ≡ Some (Form.own U) → target bytes place.at ≡ None → count_at bytes place.at ≡ 0 → Holds bytes table place Empty []
  null_own place U f none zero_count = holds {place = place} (Form.own U) (record { label = Label.opt; blocks = []; parts = [] }) nil [] f
      (record { named_room = rw none zero_count; counted = rw (none, zero_count) refl; opened_is = rw (none, zero_count) refl }) holds_none refl refl

-- ---- the two words of a cell

pub cell_changes : (old : List ℕ) (at d n : ℕ) → ChangesOnly old (set_word (set_word old at d) (at + 4) n) at 8
cell_changes old at d n = ChangesOnly-trans old (set_word old at d) (set_word (set_word old at d) (at + 4) n) at 8
    (ChangesOnly-wider old (set_word old at d) at 4 at 8 (omega arith) (omega arith) (set_number-changes 4 old at d))
    (ChangesOnly-wider (set_word old at d) (set_word (set_word old at d) (at + 4) n) (at + 4) 4 at 8 (omega arith) (omega arith) (set_number-changes 4 (set_word old at d) (at + 4) n))

pub cell_names : (old : List ℕ) (at n : ℕ) (to : Option ℕ) → at + 8 ≤ length old → at < 2 ^ 31 → ((t : ℕ) → to ≡ Some t → (t < 2 ^ 32) × (t ≢ at + 1)) → target (set_word (set_pointer old at to) (at + 4) n) at ≡ to
cell_names old at n to fits small fine =
    target-same (set_pointer old at to) (set_word (set_pointer old at to) (at + 4) n) at (number-set_other 4 4 (set_pointer old at to) (at + 4) n at (inl (omega arith)))
    ∙ target-set_same old at to (omega arith) small fine

pub cell_counts : (old : List ℕ) (at d n : ℕ) → at + 8 ≤ length old → n < 2 ^ 32 → count_at (set_word (set_word old at d) (at + 4) n) at ≡ n
cell_counts old at d n fits small = number-set_same 4 (set_word old at d) (at + 4) n (rw (length-set_number 4 old at d) (omega arith)) small
