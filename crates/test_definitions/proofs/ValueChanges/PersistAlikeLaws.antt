-- How a place opens is determined by its label, its blocks, and the number of its parts. So values that
-- persist from places that are alike are alike.
use Rattle.std.proofs.Common.{◌≡◌, ℕ, suc, ◌+◌, ◌*◌, ◌≤◌, true, List, ◌++◌, length, map, Option, Some, None, option_map, option_to_list, unwrap_or, MatchOption, refl, sym, ap, ◌∙◌, subst, arith}
use Rattle.std.specs.List.{AllByRecursion}
use Rattle.std.proofs.lemmas.List.{length-map}
use Rattle.seg_spec.specs.Bytes.{slice}
use Rattle.seg_spec.specs.Pointer.{target}
use Rattle.seg_spec.specs.Types.{Form, Table, form_at, size}
use Rattle.seg_spec.specs.Value.{Label, Value, Values}
use Rattle.seg_spec.specs.Heap.{units_at}
use Rattle.seg_spec.specs.Block.{IsBlock, block_of, payload_end}
use Rattle.seg_spec.specs.Shapes.{nodes_of}
use Rattle.seg_spec.specs.Reads.{Place, Opened, Opens, Holds, holds, HoldsEach, holds_none, holds_more, count_at, named, start, spaced, items, places_of, shared_label, map_words}
use Rattle.seg_spec.specs.Parts.{Persists, persists, PersistEach, persist_none, persist_more}
use Rattle.seg_spec.proofs.BytesLaws.{length-slice}
use Rattle.seg_spec.proofs.Values.PlaceFrameLaws.{each_left, each_right}
use Rattle.seg_spec.proofs.Values.OneValueLaws.{Opens-one}
use Rattle.seg_spec.proofs.Values.ValueTypeLaws.{length-spaced}
use Rattle.test_definitions.specs.Alike.{has_count, AlikeAt, opens_alike, AlikeEach, none_alike, more_alike}
use Rattle.test_definitions.proofs.ValueChanges.AlikePlaceLaws.{same_pointer, open_alike}
use Rattle.test_definitions.proofs.Rows.OneReturnLaws.{nodes_one, nodes_above}

-- the block has a size, and ends in the image
abbrev pub Fits : List ℕ → ℕ → Type 0
Fits bytes h = (1 ≤ units_at bytes h) × (payload_end bytes h ≤ length bytes)

opened_is : (a b : Opened) → a.label ≡ b.label → a.blocks ≡ b.blocks → a.parts ≡ b.parts → a ≡ b
opened_is a b l bs ps = λ i. record { label = l i; blocks = bs i; parts = ps i }

places_long : (U : ℕ) (ps : List ℕ) → length (places_of U ps) ≡ length ps
places_long U ps = length-map ps (λ p. record { at = p; type = U })

-- a text whose buffer ends in the image
text_long : (bytes : List ℕ) (o : Option ℕ) (kind n : ℕ) → MatchOption o (n ≡ 0) (λ p. IsBlock bytes p kind (n * 1)) → AllByRecursion (Fits bytes) (option_to_list (option_map block_of o)) → length (slice bytes (unwrap_or o 0) n) ≡ n
text_long bytes None kind n e fits = (let none = length-slice bytes 0 0 (omega arith) in subst (λ k. length (slice bytes 0 k) ≡ k) (sym e) none)
text_long bytes (Some p) kind n b fits = length-slice bytes p n (omega (arith, b.room, b.after_header, fits.0.0, fits.0.1))

shared_target : (U : ℕ) (s t : Option ℕ) → shared_label U s ≡ shared_label U t → t ≡ s
shared_target U None None e = refl
shared_target U None (Some q) e = cc
shared_target U (Some p) None e = cc
shared_target U (Some p) (Some q) e = (let same : p ≡ q = cc in ap (λ n. Some n) (sym same))

module _ (first second : List ℕ) (table : Table) where
  pub record OpenSame (place : Place) (form : Form) (a b : Opened) : Type 0 where
    pub same : a ≡ b
    pub counts : has_count form ≡ true → count_at second place.at ≡ count_at first place.at

  module _ (place : Place) (a b : Opened) (labels : a.label ≡ b.label) (blocks : a.blocks ≡ b.blocks) (long : length a.parts ≡ length b.parts) (fits : AllByRecursion (Fits first) a.blocks)
      (fits_too : AllByRecursion (Fits second) b.blocks) where
    at : ℕ
    at = place.at

    open_same : (form : Form) → Opens first table place form a → Opens second table place form b → OpenSame place form a b
    unfolding at
    open_same Form.i64 o p = record { same = opened_is a b labels blocks (ap (λ (x : Opened). x.parts) o ∙ sym (ap (λ (x : Opened). x.parts) p)); counts = λ e. cc }
    open_same Form.str o p =
        let texts : slice first (start first place.at) (count_at first place.at) ≡ slice second (start second place.at) (count_at second place.at) =
        (let e : Label.text (slice first (start first place.at) (count_at first place.at)) ≡ Label.text (slice second (start second place.at) (count_at second place.at)) =
        sym (ap (λ (x : Opened). x.label) o.opened_is) ∙ labels ∙ ap (λ (x : Opened). x.label) p.opened_is in cc) in
        let mine = text_long first (target first place.at) _ (count_at first place.at) o.named_room (subst (AllByRecursion (Fits first)) (ap (λ (x : Opened). x.blocks) o.opened_is) fits) in
        let theirs = text_long second (target second place.at) _ (count_at second place.at) p.named_room (subst (AllByRecursion (Fits second)) (ap (λ (x : Opened). x.blocks) p.opened_is) fits_too) in
        record {
          same = opened_is a b labels blocks (ap (λ (x : Opened). x.parts) o.opened_is ∙ sym (ap (λ (x : Opened). x.parts) p.opened_is));
          counts = λ e. sym theirs ∙ ap length (sym texts) ∙ mine;
        }
    open_same (Form.vec U) o p =
        let parts = ap (λ (x : Opened). x.parts) o.opened_is in
        let parts_too = ap (λ (x : Opened). x.parts) p.opened_is in
        let n : length a.parts ≡ count_at first place.at = ap length parts ∙ places_long U _ ∙ length-spaced _ _ _ in
        let n_too : length b.parts ≡ count_at second place.at = ap length parts_too ∙ places_long U _ ∙ length-spaced _ _ _ in
        let names : named second place.at ≡ named first place.at = sym (ap (λ (x : Opened). x.blocks) p.opened_is) ∙ sym blocks ∙ ap (λ (x : Opened). x.blocks) o.opened_is in
        let cell = same_pointer first second place.at _ _ _ _ o.named_room p.named_room names (sym n_too ∙ sym long ∙ n) in
        record {
          same = opened_is a b labels blocks (parts ∙ (λ i. items table (unwrap_or (sym cell.pointer i) 0) U (sym cell.count i)) ∙ sym parts_too);
          counts = λ e. cell.count;
        }
    open_same (Form.list U) o p =
        let all : map block_of o.nodes ≡ map block_of p.nodes = sym (ap (λ (x : Opened). x.blocks) o.opened_is) ∙ blocks ∙ ap (λ (x : Opened). x.blocks) p.opened_is in
        let nodes : o.nodes ≡ p.nodes = nodes_one o.nodes p.nodes (nodes_above first _ _ o.nodes o.are_nodes) (nodes_above second _ _ p.nodes p.are_nodes) all in
        record {
          same = opened_is a b labels blocks (ap (λ (x : Opened). x.parts) o.opened_is ∙ ap (λ ns. places_of U (map (λ p. p + 8) ns)) nodes ∙ sym (ap (λ (x : Opened). x.parts) p.opened_is));
          counts = λ e. sym p.counted ∙ ap length (sym nodes) ∙ o.counted;
        }
    open_same (Form.flat_map U) o p =
        let parts = ap (λ (x : Opened). x.parts) o.opened_is in
        let parts_too = ap (λ (x : Opened). x.parts) p.opened_is in
        let entries = spaced (start first place.at) (8 + size table U) (count_at first place.at) in
        let entries_too = spaced (start second place.at) (8 + size table U) (count_at second place.at) in
        let n : length a.parts ≡ count_at first place.at = ap length parts ∙ places_long U _ ∙ length-map entries (λ p. p + 8) ∙ length-spaced _ _ _ in
        let n_too : length b.parts ≡ count_at second place.at = ap length parts_too ∙ places_long U _ ∙ length-map entries_too (λ p. p + 8) ∙ length-spaced _ _ _ in
        let names : named second place.at ≡ named first place.at = sym (ap (λ (x : Opened). x.blocks) p.opened_is) ∙ sym blocks ∙ ap (λ (x : Opened). x.blocks) o.opened_is in
        let cell = same_pointer first second place.at _ _ _ _ o.named_room p.named_room names (sym n_too ∙ sym long ∙ n) in
        record {
          same = opened_is a b labels blocks (parts ∙ (λ i. places_of U (map (λ p. p + 8) (spaced (unwrap_or (sym cell.pointer i) 0) (8 + size table U) (sym cell.count i)))) ∙ sym parts_too);
          counts = λ e. cell.count;
        }
    open_same (Form.map U) o p =
        let ns = nodes_of o.tree in
        let ms = nodes_of p.tree in
        let all : map block_of ns ≡ map block_of ms = sym (ap (λ (x : Opened). x.blocks) o.opened_is) ∙ blocks ∙ ap (λ (x : Opened). x.blocks) p.opened_is in
        let nodes : ns ≡ ms = nodes_one ns ms (nodes_above first _ _ ns o.are_nodes) (nodes_above second _ _ ms p.are_nodes) all in
        record {
          same = opened_is a b labels blocks (ap (λ (x : Opened). x.parts) o.opened_is ∙ ap (λ ns. places_of U (map (λ p. p + map_words) ns)) nodes ∙ sym (ap (λ (x : Opened). x.parts) p.opened_is));
          counts = λ e. sym p.counted ∙ ap length (sym nodes) ∙ o.counted;
        }
    open_same (Form.own U) o p =
        let parts = ap (λ (x : Opened). x.parts) o.opened_is in
        let parts_too = ap (λ (x : Opened). x.parts) p.opened_is in
        let names : named second place.at ≡ named first place.at = sym (ap (λ (x : Opened). x.blocks) p.opened_is) ∙ sym blocks ∙ ap (λ (x : Opened). x.blocks) o.opened_is in
        let cell = same_pointer first second place.at _ _ _ _ o.named_room p.named_room names (p.counted ∙ ap length names ∙ sym o.counted) in
        record {
          same = opened_is a b labels blocks (parts ∙ (λ i. items table (unwrap_or (sym cell.pointer i) 0) U (sym cell.count i)) ∙ sym parts_too);
          counts = λ e. cell.count;
        }
    open_same (Form.struct Us) o p = record { same = opened_is a b labels blocks (ap (λ (x : Opened). x.parts) o ∙ sym (ap (λ (x : Opened). x.parts) p)); counts = λ e. cc }
    open_same (Form.shared U) o p =
        let targets : target second place.at ≡ target first place.at = shared_target U (target first place.at) (target second place.at) (sym (ap (λ (x : Opened). x.label) o.opened_is) ∙ labels ∙ ap (λ (x : Opened). x.label) p.opened_is) in
        record {
          same = opened_is a b labels blocks (ap (λ (x : Opened). x.parts) o.opened_is ∙ sym (ap (λ (x : Opened). x.parts) p.opened_is));
          counts = λ e. p.counted ∙ ap (λ t. length (option_to_list (option_map block_of t))) targets ∙ sym o.counted;
        }

    pub open_as_one : (form : Form) → Opens first table place form a → Opens second table place form b → OpenSame place form a b
    open_as_one = open_same

pub persist_long : (old new : List ℕ) (table : Table) {ps qs : List Place} → PersistEach old new table ps qs → length qs ≡ length ps
persist_long old new table persist_none = refl
persist_long old new table (persist_more one each) = ap suc (persist_long old new table each)

-- Values persist from `old` to `new` and from `other` to `another`.
module _ (old new other another : List ℕ) (table : Table) where
  mutual
    pub persist_alike : {p q : Place} {v w : Value} {xs ys : List ℕ} → AlikeAt old other table p → Persists old new table p q → Persists other another table p q
        → Holds new table q v xs → AllByRecursion (Fits new) xs → Holds another table q w ys → AllByRecursion (Fits another) ys → AlikeAt new another table q
    persist_alike {p = p} {q = q} {xs = xs} {ys = ys} alike (persists form before after f types o n labels blocks each) (persists form' before' after' f' types' o' n' labels' blocks' each')
        (holds form2 opened inside owned f2 o2 hs v_is xs_are) fits (holds form3 opened' inside' owned' f3 o3 ks w_is ys_are) fits_too =
        let forms : form' ≡ form = (let e : Some form' ≡ Some form = sym f' ∙ f in cc) in
        let form_is : form_at table q.type ≡ Some form = ap (form_at table) types ∙ f in
        let forms2 : form2 ≡ form = (let e : Some form2 ≡ Some form = sym f2 ∙ form_is in cc) in
        let forms3 : form3 ≡ form = (let e : Some form3 ≡ Some form = sym f3 ∙ form_is in cc) in
        let two = open_alike old other table form before f o alike in
        let befores : before' ≡ before = Opens-one other table p form before' before (subst (λ (k : Form). Opens other table p k before') forms o') two.opens in
        let there = subst (λ (k : Form). Opens another table q k after') forms n' in
        let opens2 : opened ≡ after = Opens-one new table q form opened after (subst (λ (k : Form). Opens new table q k opened) forms2 o2) n in
        let opens3 : opened' ≡ after' = Opens-one another table q form opened' after' (subst (λ (k : Form). Opens another table q k opened') forms3 o3) there in
        let each_too : PersistEach other another table before.parts after'.parts = subst (λ (k : Opened). PersistEach other another table k.parts after'.parts) befores each' in
        let mine : AllByRecursion (Fits new) (after.blocks ++ owned) = subst (λ (k : Opened). AllByRecursion (Fits new) (k.blocks ++ owned)) opens2 (subst (AllByRecursion (Fits new)) xs_are fits) in
        let theirs : AllByRecursion (Fits another) (after'.blocks ++ owned') = subst (λ (k : Opened). AllByRecursion (Fits another) (k.blocks ++ owned')) opens3 (subst (AllByRecursion (Fits another)) ys_are fits_too) in
        let long : length after.parts ≡ length after'.parts = persist_long old new table each ∙ sym (persist_long other another table each_too) in
        let label_is : after.label ≡ after'.label = labels ∙ ap (λ (k : Opened). k.label) (sym befores) ∙ sym labels' in
        let blocks_are : after.blocks ≡ after'.blocks = blocks ∙ ap (λ (k : Opened). k.blocks) (sym befores) ∙ sym blocks' in
        let one = open_as_one new another table q after after' label_is blocks_are long (each_left _ after.blocks owned mine) (each_left _ after'.blocks owned' theirs) form n there in
        let same : after' ≡ after = sym one.same in
        opens_alike form after form_is n (subst (λ (k : Opened). Opens another table q form k) same there) one.counts
        (persist_each_alike two.parts each (subst (λ (k : Opened). PersistEach other another table before.parts k.parts) same each_too)
        (subst (λ (k : Opened). HoldsEach new table k.parts inside owned) opens2 hs) (each_right _ after.blocks owned mine)
        (subst (λ (k : Opened). HoldsEach another table k.parts inside' owned') (opens3 ∙ same) ks) (each_right _ after'.blocks owned' theirs))

    pub persist_each_alike : {ps qs : List Place} {vs ws : Values} {xs ys : List ℕ} → AlikeEach old other table ps → PersistEach old new table ps qs → PersistEach other another table ps qs
        → HoldsEach new table qs vs xs → AllByRecursion (Fits new) xs → HoldsEach another table qs ws ys → AllByRecursion (Fits another) ys → AlikeEach new another table qs
    persist_each_alike none_alike persist_none persist_none holds_none fits holds_none fits_too = none_alike
    persist_each_alike (more_alike a rest) (persist_more p ps) (persist_more q qs) (holds_more {blocks = xs} {owned = xs'} h hs) fits (holds_more {blocks = ys} {owned = ys'} k ks) fits_too =
        more_alike (persist_alike a p q h (each_left _ xs xs' fits) k (each_left _ ys ys' fits_too)) (persist_each_alike rest ps qs hs (each_right _ xs xs' fits) ks (each_right _ ys ys' fits_too))
