-- The value in a place, by the form of the place's type.
use Rattle.std.proofs.Common.{◌≡◌, ℕ, ◌+◌, ℤ, List, [], length, map, Some, refl, sym, ◌∙◌, ap, subst}
use Rattle.std.proofs.lemmas.List.{length-map}
use Rattle.seg_spec.specs.Types.{Form, Table, form_at}
use Rattle.seg_spec.specs.Value.{Label, Value, node, Values, nil, count, Text, Seq, Map}
use Rattle.seg_spec.specs.Shapes.{nodes_of, tree_words}
use Rattle.seg_spec.specs.Bytes.{slice}
use Rattle.seg_spec.specs.Reads.{Place, Opened, count_at, start, keys_at, map_words, Opens, Holds, holds, HoldsEach, holds_none}
use Rattle.seg_spec.proofs.Values.PathSplitLaws.{count_is}

module _ (bytes : List ℕ) (table : Table) where
  none_inside : {places : List Place} {vs : Values} {blocks : List ℕ} → HoldsEach bytes table places vs blocks → places ≡ [] → vs ≡ nil
  none_inside holds_none e = refl
  none_inside h e = cc

  -- the label and the places of an opened value, in its value
  labelled : (opened : Opened) (label : Label) (v : Value) (inside : Values) → v ≡ node opened.label inside → opened.label ≡ label → v ≡ node label inside
  labelled opened label v inside v_is is = v_is ∙ ap (λ l. node l inside) is

  module _ (place : Place) (v : Value) (blocks : List ℕ) where
    pub text_held : form_at table place.type ≡ Some Form.str → Holds bytes table place v blocks → (xs : List ℕ) × (v ≡ Text xs)
    text_held f (holds form opened inside owned g o each v_is blocks_are) =
        let same : form ≡ Form.str = cc in
        let it = subst (λ k. Opens bytes table place k opened) same o in
        let none = none_inside each (ap (λ (x : Opened). x.parts) it.opened_is) in
        let text = slice bytes (start bytes place.at) (count_at bytes place.at) in
        (text, labelled opened (Label.text text) v inside v_is (ap (λ (x : Opened). x.label) it.opened_is) ∙ ap (λ vs. node (Label.text text) vs) none)

    pub vector_held : (U : ℕ) → form_at table place.type ≡ Some (Form.vec U) → Holds bytes table place v blocks → (vs : Values) × (v ≡ Seq vs)
    vector_held U f (holds form opened inside owned g o each v_is blocks_are) =
        let same : form ≡ Form.vec U = cc in
        let it = subst (λ k. Opens bytes table place k opened) same o in
        (inside, labelled opened Label.seq v inside v_is (ap (λ (x : Opened). x.label) it.opened_is))

    pub list_held : (U : ℕ) → form_at table place.type ≡ Some (Form.list U) → Holds bytes table place v blocks → (vs : Values) × (v ≡ Seq vs)
    list_held U f (holds form opened inside owned g o each v_is blocks_are) =
        let same : form ≡ Form.list U = cc in
        let it = subst (λ k. Opens bytes table place k opened) same o in
        (inside, labelled opened Label.seq v inside v_is (ap (λ (x : Opened). x.label) it.opened_is))

    -- a map has as many keys as values
    pub record MapHeld : Type 0 where
      pub keys : List ℤ
      pub values : Values
      pub value_is : v ≡ Map keys values
      pub as_many : length keys ≡ count values

    pub flat_map_held : (U : ℕ) → form_at table place.type ≡ Some (Form.flat_map U) → Holds bytes table place v blocks → MapHeld
    flat_map_held U f (holds form opened inside owned g o each v_is blocks_are) =
        let same : form ≡ Form.flat_map U = cc in
        let it = subst (λ k. Opens bytes table place k opened) same o in
        record {
          keys = keys_at bytes _;
          values = inside;
          value_is = labelled opened _ v inside v_is (ap (λ (x : Opened). x.label) it.opened_is);
          as_many = length-map _ _ ∙ sym (length-map (map (λ p. p + 8) _) _ ∙ length-map _ _) ∙ ap (λ (x : Opened). length x.parts) (sym it.opened_is) ∙ count_is bytes table each;
        }

    pub map_held : (U : ℕ) → form_at table place.type ≡ Some (Form.map U) → Holds bytes table place v blocks → MapHeld
    map_held U f (holds form opened inside owned g o each v_is blocks_are) =
        let same : form ≡ Form.map U = cc in
        let it = subst (λ k. Opens bytes table place k opened) same o in
        record {
          keys = keys_at bytes (map (λ p. p + tree_words) (nodes_of it.tree));
          values = inside;
          value_is = labelled opened _ v inside v_is (ap (λ (x : Opened). x.label) it.opened_is);
          as_many = length-map (map (λ p. p + tree_words) (nodes_of it.tree)) _ ∙ length-map (nodes_of it.tree) _ ∙ sym (length-map (map (λ p. p + map_words) (nodes_of it.tree)) _ ∙ length-map (nodes_of it.tree) _)
              ∙ ap (λ (x : Opened). length x.parts) (sym it.opened_is) ∙ count_is bytes table each;
        }
