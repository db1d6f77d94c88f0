-- A vec whose buffer is cut to its items, and paths into the vec.
use Rattle.std.proofs.Common.{◌≡◌, ℕ, zero, suc, ◌+◌, ◌*◌, ◌≤◌, ◌⊎◌, inl, inr, true, false, List, [], ◌∷◌, length, Some, refl, sym, ap, ◌∙◌, subst, lit<, lit≤, pos, arith}
use Rattle.std.proofs.lemmas.Bool.{cases_eq}
use Rattle.std.specs.Prelude.{slice_get}
use Rattle.std.specs.List.{AllByRecursion}
use Rattle.seg_spec.specs.Bytes.{slice, put, number, number_of, set_number, signed, signed_long, word}
use Rattle.seg_spec.specs.Pointer.{target}
use Rattle.seg_spec.specs.Types.{Form, form_at, size}
use Rattle.seg_spec.specs.Value.{Label, Int, nil, Selector}
use Rattle.seg_spec.specs.Heap.{span, Tile, Fill, AreHeaders, IsHeap, heap_start, live, room_at}
use Rattle.seg_spec.specs.Block.{Kind, IsOwnable}
use Rattle.seg_spec.specs.Reads.{Place, Opened, Opens, Holds, holds, holds_none, holds_more, count_at, Leads, here, into}
use Rattle.seg_spec.specs.Apart.{KeepsBlockAround, GoesOnAfter}
use Rattle.seg_spec.specs.Sound.{times, positions}
use Rattle.seg_spec.specs.Parts.{Persists, persists, persist_none, persist_more, KeepsAllParts}
use Rattle.seg_spec.specs.Roots.{KeepsPaths, KeepsPathsBeside, ChangesPlace}
use Rattle.seg_spec.specs.Spending.{units_named, item_size, cut_to}
use Rattle.seg_spec.specs.Shrinking.{KeepsPathsInside, ShrinksPlace}
use Rattle.seg_spec.specs.Fixtures.{roomy, cut, unnamed, vec_table, vec_place, vec_value, vec_root}
use Rattle.test_definitions.proofs.WorkedImages.ImageEvaluationLaws.{live_evaluated, heap_evaluated}
use Rattle.seg_spec.proofs.SliceLaws.{IsSame-part}
use Rattle.seg_spec.proofs.Values.PersistenceLaws.{all_parts}
use Rattle.seg_spec.proofs.Heap.LiveBlockLaws.{times-other}

-- ---- the heaps

roomy_tiles : List Tile
roomy_tiles = record { at = 704; units = 2; live = true } ∷ record { at = 736; units = 3; live = true } ∷ record { at = 784; units = 4; live = true } ∷ []

cut_tiles : List Tile
cut_tiles = record { at = 704; units = 2; live = true } ∷ record { at = 736; units = 3; live = true } ∷ record { at = 784; units = 2; live = true } ∷ record { at = 816; units = 2; live = false } ∷ []

roomy_live : live roomy ≡ span 704 2 ∷ span 736 3 ∷ span 784 4 ∷ []
unfolding roomy_tiles roomy slice number number_of
roomy_live = live_evaluated roomy roomy_tiles (refl, lit≤ tt, (refl, lit≤ tt, (refl, lit≤ tt, refl))) (
  record { units_is = refl; live_is = refl; before_is = refl; tag_is = λ e. cc },
  (
    record { units_is = refl; live_is = refl; before_is = refl; tag_is = λ e. cc },
    (record { units_is = refl; live_is = refl; before_is = refl; tag_is = λ e. cc }, tt),
  ),
)

cut_fill : Fill heap_start cut_tiles (length cut)
unfolding cut_tiles cut roomy slice put set_number
cut_fill = (refl, lit≤ tt, (refl, lit≤ tt, (refl, lit≤ tt, (refl, lit≤ tt, refl))))

cut_headers : AreHeaders cut 0 cut_tiles
unfolding cut_tiles cut roomy slice put set_number number number_of
cut_headers = (
  record { units_is = refl; live_is = refl; before_is = refl; tag_is = λ e. cc },
  (
    record { units_is = refl; live_is = refl; before_is = refl; tag_is = λ e. cc },
    (
      record { units_is = refl; live_is = refl; before_is = refl; tag_is = λ e. cc },
      (record { units_is = refl; live_is = refl; before_is = refl; tag_is = λ e. refl }, tt),
    ),
  ),
)

cut_live : live cut ≡ span 704 2 ∷ span 736 3 ∷ span 784 2 ∷ []
unfolding cut_tiles
cut_live = live_evaluated cut cut_tiles cut_fill cut_headers

cut_heap : IsHeap (word roomy 16) cut
unfolding cut_tiles cut roomy slice put set_number number number_of target
cut_heap = heap_evaluated cut cut_tiles cut_fill cut_headers 0 ((λ e. refl), ((λ e. refl), ((λ e. refl), ((λ e. cc), tt)))) (refl, refl) (lit≤ tt)

-- ---- the value of the vec afterwards

holds_number : (at : ℕ) (k : _) → signed (number 8 cut at) ≡ k → Holds cut vec_table (record { at = at; type = 0 }) (Int k) []
holds_number at k e = holds Form.i64 _ nil [] refl refl holds_none (ap Int (sym e)) refl

cut_vec : Holds cut vec_table vec_place vec_value (784 ∷ [])
unfolding cut roomy slice put set_number number number_of signed target size
cut_vec = holds {place = vec_place} (Form.vec 0) _ _ [] refl (record { named_room = record { after_header = lit≤ tt; live = refl; has_tag = refl; room = lit≤ tt }; ascending = tt; opened_is = refl })
    (holds_more (holds_number 800 (pos 1) refl) (holds_more (holds_number 808 (pos 2) refl) holds_none)) refl refl

-- ---- the frame

kept_704 : KeepsBlockAround roomy cut 720 8 704
unfolding cut roomy slice put set_number number number_of
kept_704 = record { solid = lit≤ tt; header = record { live = refl; has_tag = refl; room = lit≤ tt }; payload = λ g m low high apart. IsSame-part roomy cut 720 16 g m low high refl }

kept_736 : KeepsBlockAround roomy cut 720 8 736
unfolding cut roomy slice put set_number number number_of
kept_736 = record { solid = lit≤ tt; header = record { live = refl; has_tag = refl; room = lit≤ tt }; payload = λ g m low high apart. IsSame-part roomy cut 752 32 g m low high refl }

one_of : (h : ℕ) → 1 ≤ times h (704 ∷ 736 ∷ 784 ∷ []) → times h (784 ∷ []) ≡ 0 → (h ≡ 704) ⊎ (h ≡ 736)
one_of h some other = elim (cases_eq h 704) [
  | inl e ↦ inl e
  | inr not_first ↦ (elim (cases_eq h 736) [
    | inl e ↦ inr e
    | inr not_second ↦ absurd (omega (arith, times-other h 704 (736 ∷ 784 ∷ []) (λ e. not_first (sym e)), times-other h 736 (784 ∷ []) (λ e. not_second (sym e))))
  ])
]

pub cut-changes : ChangesPlace roomy cut vec_table vec_place vec_value (784 ∷ []) (span 704 2 ∷ span 736 3 ∷ span 784 2 ∷ []) (784 ∷ []) (784 ∷ [])
unfolding cut roomy slice put set_number number number_of target size
cut-changes = record {
  length_kept = refl;
  front_kept = refl;
  back_kept = refl;
  heap = cut_heap;
  ownable = subst (λ bs. AllByRecursion (λ b. IsOwnable cut vec_table b.at) bs) (sym cut_live) (
    record { kind = Kind.named; type = 1; allowed = lit< tt; tag_is = refl; link_is = refl },
    (
      record { kind = Kind.index_buffer; type = 0; allowed = refl; tag_is = refl; link_is = refl },
      (record { kind = Kind.buffer; type = 1; allowed = refl; tag_is = refl; link_is = refl }, tt),
    ),
  );
  holds_it = cut_vec;
  live_is = cut_live;
  live_are = λ h. ap (λ bs. times h (positions bs) + times h (784 ∷ [])) cut_live ∙ ap (λ bs. times h (positions bs) + times h (784 ∷ [])) (sym roomy_live);
  kept = λ h some other. kept h (subst (λ bs. 1 ≤ times h (positions bs)) roomy_live some) other;
}
  where
    kept : (h : ℕ) → 1 ≤ times h (704 ∷ 736 ∷ 784 ∷ []) → times h (784 ∷ []) ≡ 0 → KeepsBlockAround roomy cut 720 8 h
    kept h some other = elim (one_of h some other) [
      | inl e ↦ subst (KeepsBlockAround roomy cut 720 8) (sym e) kept_704
      | inr e ↦ subst (KeepsBlockAround roomy cut 720 8) (sym e) kept_736
    ]

pub cut-not_whole : ChangesPlace roomy cut vec_table vec_place vec_value (784 ∷ []) (span 704 2 ∷ span 736 3 ∷ span 784 4 ∷ []) (784 ∷ []) (784 ∷ []) → ⊥
cut-not_whole c =
    let e : span 704 2 ∷ span 736 3 ∷ span 784 2 ∷ [] ≡ span 704 2 ∷ span 736 3 ∷ span 784 4 ∷ [] = sym cut_live ∙ c.live_is in
    absurd (omega (arith, ap (λ bs. room_at bs 784) e))

-- ---- paths

no_item : (i : ℕ) (places : List Place) (part : Place) → places ≡ [] → slice_get places i ≡ Some part → ⊥
no_item i [] part e f = cc
no_item i (p ∷ places) part e f = cc

-- no path continues from a number, so each path from one is kept
number_path : (old new : List ℕ) {part inner : Place} {path : List Selector} → part.type ≡ 0 → Leads old vec_table part path inner → Leads new vec_table part path inner
number_path old new t here = here
number_path old new {part = part} t (into form opened i inside f o index is rest) =
    let same : Form.i64 ≡ form = (let e : form_at vec_table 0 ≡ Some form = ap (form_at vec_table) (sym t) ∙ f in cc) in
    let none = subst (λ g. Opens old vec_table part g opened) (sym same) o in
    absurd (no_item i opened.parts inside (ap (λ (x : Opened). x.parts) none) is)

its_items : List Place
its_items = record { at = 800; type = 0 } ∷ record { at = 808; type = 0 } ∷ []

are_numbers : (i : ℕ) (part : Place) → slice_get its_items i ≡ Some part → part.type ≡ 0
unfolding its_items
are_numbers zero part e = let f : record { at = 800; type = 0 } ≡ part = cc in ap (λ (x : Place). x.type) (sym f)
are_numbers (suc zero) part e = let f : record { at = 808; type = 0 } ≡ part = cc in ap (λ (x : Place). x.type) (sym f)
are_numbers (suc (suc i)) part e = cc

opens_roomy : (opened : Opened) → Opens roomy vec_table vec_place (Form.vec 0) opened → (opened.parts ≡ its_items) × Opens cut vec_table vec_place (Form.vec 0) opened
unfolding cut roomy slice put set_number number number_of target size its_items
opens_roomy opened o = (
  ap (λ (x : Opened). x.parts) o.opened_is,
  record { named_room = record { after_header = lit≤ tt; live = refl; has_tag = refl; room = lit≤ tt }; ascending = tt; opened_is = o.opened_is },
)

pub cut-paths : KeepsPathsInside roomy cut vec_table vec_place
cut-paths path inner here = here
cut-paths path inner (into form opened i part f o index is rest) =
    let same : form ≡ Form.vec 0 = (let e : Some (Form.vec 0) ≡ Some form = f in cc) in
    let both = opens_roomy opened (subst (λ g. Opens roomy vec_table vec_place g opened) same o) in
    let t = are_numbers i part (ap (λ xs. slice_get xs i) (sym both.0) ∙ is) in
    into (Form.vec 0) opened i part refl both.1 index is (number_path roomy cut t rest)

units_left : cut_to (live roomy) (length roomy) (target roomy 720) (units_named roomy 720) (count_at roomy 720 * item_size vec_table (Form.vec 0)) ≡ span 704 2 ∷ span 736 3 ∷ span 784 2 ∷ []
unfolding roomy slice number number_of target size
units_left = ap (λ bs. cut_to bs (length roomy) (target roomy 720) (units_named roomy 720) (count_at roomy 720 * item_size vec_table (Form.vec 0))) roomy_live

-- ---- the two items stay

same_number : (at : ℕ) → signed_long cut at ≡ signed_long roomy at → Persists roomy cut vec_table (record { at = at; type = 0 }) (record { at = at; type = 0 })
same_number at e = persists {p = record { at = at; type = 0 }} {q = record { at = at; type = 0 }} Form.i64 (record { label = Label.int (signed_long roomy at); blocks = []; parts = [] })
    (record { label = Label.int (signed_long cut at); blocks = []; parts = [] }) refl refl refl refl (ap (λ n. Label.int n) e) refl persist_none

its_parts : Opened
its_parts = record { label = Label.seq; blocks = 784 ∷ []; parts = record { at = 800; type = 0 } ∷ record { at = 808; type = 0 } ∷ [] }

opens_before : Opens roomy vec_table vec_place (Form.vec 0) its_parts
unfolding its_parts roomy slice number number_of target size
opens_before = record { named_room = record { after_header = lit≤ tt; live = refl; has_tag = refl; room = lit≤ tt }; ascending = tt; opened_is = refl }

cut-parts : KeepsAllParts roomy cut vec_table vec_place
unfolding its_parts its_items cut roomy slice put set_number number number_of
cut-parts =
    let both = opens_roomy its_parts opens_before in
    record {
      form = Form.vec 0;
      form_is = refl;
      before = its_parts;
      opens_before = opens_before;
      after = its_parts;
      opens_after = both.1;
      stay = all_parts roomy cut vec_table (Form.vec 0) its_items its_items (λ e. refl) (persist_more (same_number 800 refl) (persist_more (same_number 808 refl) persist_none));
    }

pub cut-shrinks : ShrinksPlace roomy cut vec_table vec_place (Form.vec 0) vec_value (784 ∷ []) (784 ∷ [])
cut-shrinks = record {
  changes = subst (λ bs. ChangesPlace roomy cut vec_table vec_place vec_value (784 ∷ []) bs (784 ∷ []) (784 ∷ [])) (sym units_left) cut-changes;
  paths = cut-paths;
  parts = cut-parts;
}

pub cut-root_paths : KeepsPaths roomy cut vec_table vec_root
unfolding size
cut-root_paths zero path inner less l = cut-paths path inner l
cut-root_paths (suc i) path inner less l = absurd (omega (arith, less))

second : Place
second = record { at = 808; type = 0 }

leads_to_second : Leads roomy vec_table vec_place (Selector.item 1 ∷ []) second
unfolding roomy slice number number_of target size second
leads_to_second = into {place = vec_place} (Form.vec 0) (record { label = Label.seq; blocks = 784 ∷ []; parts = record { at = 800; type = 0 } ∷ record { at = 808; type = 0 } ∷ [] }) 1 (record { at = 808; type = 0 }) refl
    (record { named_room = record { after_header = lit≤ tt; live = refl; has_tag = refl; room = lit≤ tt }; ascending = tt; opened_is = refl }) refl refl here

no_parts : (opened : Opened) → Opens unnamed vec_table vec_place (Form.vec 0) opened → opened.parts ≡ []
unfolding unnamed roomy slice put number number_of target size
no_parts opened o = ap (λ (x : Opened). x.parts) o.opened_is

nowhere : {s : Selector} {path : List Selector} {inner : Place} → Leads unnamed vec_table vec_place (s ∷ path) inner → ⊥
nowhere (into form opened i part f o index is rest) =
    let same : form ≡ Form.vec 0 = (let e : Some (Form.vec 0) ≡ Some form = f in cc) in
    let none = no_parts opened (subst (λ g. Opens unnamed vec_table vec_place g opened) same o) in
    no_item i opened.parts part none is

pub unnamed-lost_inside : KeepsPathsInside roomy unnamed vec_table vec_place → ⊥
unnamed-lost_inside keeps = nowhere (keeps (Selector.item 1 ∷ []) second leads_to_second)

pub unnamed-lost : KeepsPaths roomy unnamed vec_table vec_root → ⊥
unfolding size
unnamed-lost keeps = nowhere (keeps 0 (Selector.item 1 ∷ []) second (lit< tt) leads_to_second)

pub unnamed-beside : KeepsPathsBeside roomy unnamed vec_table vec_root 0 []
unnamed-beside zero other inner less here = inr here
unnamed-beside zero other inner less (into {s = s} {path = path} form opened i part f o index is rest) = inl (refl, (s, path, refl))
unnamed-beside (suc i) other inner less l = absurd (omega (arith, less))

pub unnamed-not_beside : KeepsPathsBeside roomy unnamed vec_table vec_root 0 (Selector.item 0 ∷ []) → ⊥
unfolding size
unnamed-not_beside keeps = go (keeps 0 (Selector.item 1 ∷ []) second (lit< tt) leads_to_second)
  where
    go : ((zero ≡ zero) × GoesOnAfter (Selector.item 0 ∷ []) (Selector.item 1 ∷ [])) ⊎ Leads unnamed vec_table vec_place (Selector.item 1 ∷ []) second → ⊥
    go (inl b) = let e = b.1.2 in cc
    go (inr l) = nowhere l
