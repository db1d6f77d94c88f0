-- A map of numbers shares no object, also after numbers were put into it.
use Rattle.std.proofs.Common.{◌≡◌, ℕ, zero, suc, ◌+◌, ℤ, List, [], ◌∷◌, ◌++◌, map, Option, Some, None, refl, sym, ap, ◌∙◌, subst}
use Rattle.seg_spec.specs.Bytes.{signed_long}
use Rattle.seg_spec.specs.Types.{Table, Form, form_at, size}
use Rattle.seg_spec.specs.Value.{Values, nil, cons, Int, Map, change_nth}
use Rattle.seg_spec.specs.Items.{key_place, keys_below}
use Rattle.seg_spec.specs.Shapes.{nodes_of}
use Rattle.seg_spec.specs.Reads.{Place, Opened, Opens, count_at, start, spaced, places_of, map_words, Holds, holds, HoldsEach, holds_none, holds_more}
use Rattle.seg_spec.specs.Shared.{names_in, names_each}
use Rattle.seg_spec.proofs.Frozen.PartCountLaws.{names_cons}
use Rattle.seg_spec.proofs.Frozen.ValueCellLaws.{names_int, names_map, front_named, insert_named}
use Rattle.seg_spec.proofs.Images.RootWriteLaws.{number_held}
use Rattle.seg_spec.proofs.Values.OneValueLaws.{Holds-one}
use Rattle.lezgauri.specs.EitherMap.{IsMapOf}
use Rattle.lezgauri.specs.NumberPuts.{with_number_at, with_number, with_numbers}
use Rattle.lezgauri.specs.Pair.{Pair}

-- ---- the values of a map of numbers

module _ (bytes : List ℕ) (table : Table) (U : ℕ) (number : form_at table U ≡ Some Form.i64) where
  each_number : {places : List Place} {vs : Values} {blocks : List ℕ} → HoldsEach bytes table places vs blocks → (positions : List ℕ) → places ≡ places_of U positions → names_each vs ≡ []
  unfolding names_each
  each_number holds_none positions e = refl
  each_number (holds_more h hs) [] e = cc
  each_number (holds_more {place = place} {places = places} {v = v} {vs = vs} h hs) (p ∷ ps) e =
      let first : place ≡ record { at = p; type = U } = cc in
      let rest : places ≡ places_of U ps = cc in
      let is_number : form_at table place.type ≡ Some Form.i64 = ap (λ (q : Place). form_at table q.type) first ∙ number in
      let none : names_in v ≡ [] = ap names_in (Holds-one bytes table h (number_held bytes table place is_number)).0 ∙ names_int (signed_long bytes place.at) in
      front_named v vs none ∙ each_number hs ps rest

  values_share : (place : Place) (keys : List ℤ) (vs : Values) (blocks : List ℕ) → IsMapOf (form_at table place.type) U → Holds bytes table place (Map keys vs) blocks → names_each vs ≡ []
  values_share place keys vs blocks is (holds form opened inside owned f o each v_is blocks_are) = by_form form f o
    where
      none : (positions : List ℕ) → opened.parts ≡ places_of U positions → names_each vs ≡ []
      none positions e = let same : vs ≡ inside = cc in ap names_each same ∙ each_number each positions e

      by_form : (k : Form) → form_at table place.type ≡ Some k → Opens bytes table place k opened → names_each vs ≡ []
      by_form (Form.flat_map V) g it =
          let one : V ≡ U = subst (λ k. IsMapOf k U) g is in
          let positions = map (λ p. p + 8) (spaced (start bytes place.at) (8 + size table V) (count_at bytes place.at)) in
          none positions (ap (λ (x : Opened). x.parts) it.opened_is ∙ ap (λ W. places_of W positions) one)
      by_form (Form.map V) g it =
          let one : V ≡ U = subst (λ k. IsMapOf k U) g is in
          let positions = map (λ p. p + map_words) (nodes_of it.tree) in
          none positions (ap (λ (x : Opened). x.parts) it.opened_is ∙ ap (λ W. places_of W positions) one)
      by_form k g it = absurd (subst (λ k. IsMapOf k U) g is)

-- ---- after numbers were put

none_after : {X : Type 0} (xs ys : List X) → xs ++ ys ≡ [] → ys ≡ []
none_after [] ys e = e
none_after (x ∷ xs) ys e = cc

none_before : {X : Type 0} (xs ys : List X) → xs ++ ys ≡ [] → xs ≡ []
none_before [] ys e = refl
none_before (x ∷ xs) ys e = cc

changed_share : (vs : Values) (i : ℕ) (n : ℤ) → names_each vs ≡ [] → names_each (change_nth (Some i) (λ _. Int n) vs) ≡ []
changed_share nil i n none = none
changed_share (cons v vs) zero n none = front_named (Int n) vs (names_int n) ∙ none_after (names_in v) (names_each vs) (sym (names_cons v vs) ∙ none)
changed_share (cons v vs) (suc i) n none =
    let all = sym (names_cons v vs) ∙ none in
    front_named v (change_nth (Some i) (λ _. Int n) vs) (none_before (names_in v) (names_each vs) all) ∙ changed_share vs i n (none_after (names_in v) (names_each vs) all)

put_share : (o : Option ℕ) (entries : List ℤ × Values) (pair : Pair) → names_each entries.1 ≡ [] → names_each (with_number_at o entries pair).1 ≡ []
put_share None entries pair none = insert_named entries.1 (keys_below entries.0 pair.key) (Int pair.number) (names_int pair.number) ∙ none
put_share (Some i) entries pair none = changed_share entries.1 i pair.number none

all_share : (pairs : List Pair) (entries : List ℤ × Values) → names_each entries.1 ≡ [] → names_each (with_numbers entries pairs).1 ≡ []
all_share [] entries none = none
all_share (p ∷ ps) entries none = all_share ps (with_number entries p) (put_share (key_place entries.0 p.key) entries p none)

pub numbers_share : (bytes : List ℕ) (table : Table) (place : Place) (U : ℕ) (keys : List ℤ) (vs : Values) (blocks : List ℕ) → IsMapOf (form_at table place.type) U → form_at table U ≡ Some Form.i64
    → Holds bytes table place (Map keys vs) blocks → (pairs : List Pair) → names_in (Map keys vs) ≡ names_in (Map (with_numbers (keys, vs) pairs).0 (with_numbers (keys, vs) pairs).1)
numbers_share bytes table place U keys vs blocks is number h pairs =
    let none = values_share bytes table U number place keys vs blocks is h in
    let after = with_numbers (keys, vs) pairs in
    names_map keys vs ∙ none ∙ sym (names_map after.0 after.1 ∙ all_share pairs (keys, vs) none)
