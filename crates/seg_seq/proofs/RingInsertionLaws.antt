-- A ring with one node more.
use Rattle.std.proofs.Common.{◌≡◌, ◌≢◌, ℕ, ◌+◌, ◌%◌, ◌^◌, ◌≤◌, inl, inr, ⊎_elim, min, List, [], ◌∷◌, ◌++◌, length, Some, None, refl, sym, ap, ◌∙◌, subst, arith, length-append}
use Rattle.std.specs.List.{AllByRecursion}
use Rattle.std.proofs.lemmas.Bool.{cases_lt}
use Rattle.seg_spec.specs.Bytes.{set_word, IsSame}
use Rattle.seg_spec.specs.Pointer.{target, distance, set_pointer}
use Rattle.seg_spec.specs.Apart.{Separate}
use Rattle.seg_spec.specs.Reads.{count_at, start}
use Rattle.seg_spec.specs.Shapes.{AreLinked, IsLinked, IsRing}
use Rattle.seg_spec.specs.Sound.{times}
use Rattle.seg_spec.proofs.BytesLaws.{length-set_number, number-set_same}
use Rattle.seg_spec.proofs.Values.PlaceFrameLaws.{IsRing-same, each_weaker}
use Rattle.seg_spec.proofs.Heap.LiveBlockLaws.{times-same, times-more, times-append, there, each_there}
use Rattle.seg_spec.proofs.Deallocation.RingDestructionLaws.{last_of, last_named}
use Rattle.seg_spec.proofs.Images.RootWriteLaws.{set_number-changes}
use Rattle.seg_seq.specs.Rings.{coupled, AreSpread, ChangesAt, HasRing, Relinks}
use Rattle.seg_seq.proofs.Joins.{AreAligned, word_other, target_other, names, joined_next, joined_second, joined_length, joined_linked, linked_to, linked_beside, linked_append, last_among}

-- ---- places that don't overlap

-- of places that don't overlap, some in any order don't overlap either, also in other bytes of the
-- same length
pub spread_part : (old new xs ys : List ℕ) → length new ≡ length old → ((h : ℕ) → times h ys ≤ times h xs) → length ys ≤ length xs → AreSpread old xs → AreSpread new ys
spread_part old new xs ys long fewer short s =
    let small = s.small in
    let few = s.few in
    record {
      small = omega arith;
      few = omega arith;
      fit = each_there (λ p. (p % 8 ≡ 0) × (p + 8 ≤ length new)) ys (λ h some.
          let l = fewer h in
          let f = there (λ p. (p % 8 ≡ 0) × (p + 8 ≤ length old)) h xs s.fit (omega arith) in
          (f.0, omega arith));
      once = λ h. let l = fewer h in let o = s.once h in omega arith;
    }

pub aligned_of : (n : ℕ) (xs : List ℕ) → AllByRecursion (λ p. (p % 8 ≡ 0) × (p + 8 ≤ n)) xs → AreAligned xs
aligned_of n xs h = each_weaker (λ p. (p % 8 ≡ 0) × (p + 8 ≤ n)) (λ p. p % 8 ≡ 0) (λ p f. f.0) xs h

-- a place isn't among the other places
pub first_once : (x : ℕ) (xs : List ℕ) → ((h : ℕ) → times h (x ∷ xs) ≤ 1) → times x xs ≡ 0
first_once x xs once = let o = once x in let s = times-same x xs in omega arith

pub rest_once : (x : ℕ) (xs : List ℕ) → ((h : ℕ) → times h (x ∷ xs) ≤ 1) → (h : ℕ) → times h xs ≤ 1
rest_once x xs once h = let o = once h in let m = times-more h x xs in omega arith

pub not_among : (x y : ℕ) (xs : List ℕ) → times x xs ≡ 0 → 1 ≤ times y xs → x ≢ y
not_among x y xs none some e = let z : times y xs ≡ 0 = subst (λ k. times k xs ≡ 0) e none in absurd (omega arith)

pub changes_none : (old places : List ℕ) → ChangesAt old old places
changes_none old places = record { length_kept = refl; others = λ q m apart. refl }

-- a word is written in the 8 bytes of a place
pub changes_word : (old mid : List ℕ) (p at d : ℕ) (places : List ℕ) → 1 ≤ times p places → p ≤ at → at ≤ p + 4 → ChangesAt old mid places → ChangesAt old (set_word mid at d) places
changes_word old mid p at d places some low high c = record {
  length_kept = length-set_number 4 mid at d ∙ c.length_kept;
  others = λ q m apart. (set_number-changes 4 mid at d).others q m
      (⊎_elim (λ l. inl (omega arith)) (λ r. inr (omega arith)) (there (λ z. Separate q m z 8) p places apart some)) ∙ c.others q m apart;
}

pub changes_joined : (old mid : List ℕ) (x y : ℕ) (places : List ℕ) → 1 ≤ times x places → 1 ≤ times y places → ChangesAt old mid places → ChangesAt old (coupled mid x y) places
changes_joined old mid x y places a b c =
    changes_word old (set_pointer mid x (Some y)) y (y + 4) (distance (y + 4) (Some x)) places b (omega arith) (omega arith)
    (changes_word old mid x x (distance x (Some y)) places a (omega arith) (omega arith) c)

-- ---- the count of a ring

-- the places of nodes are kept if only the cell is written
pub nodes_kept : (mid : List ℕ) (cell at d : ℕ) (others : List ℕ) → AreSpread mid (cell ∷ others) → cell ≤ at → at ≤ cell + 4 → AllByRecursion (λ p. IsSame mid (set_word mid at d) p 8) others
nodes_kept mid cell at d others s low high = each_there (λ p. IsSame mid (set_word mid at d) p 8) others (λ h some.
    let f = there (λ p. (p % 8 ≡ 0) × (p + 8 ≤ length mid)) h others s.fit.1 some in
    let aligned = f.0 in
    let even = s.fit.0.0 in
    let ne = not_among cell h others (first_once cell others s.once) some in
    (set_number-changes 4 mid at d).others h 8 (⊎_elim (λ l. inl (omega arith)) (λ l. inr (omega arith)) (cases_lt h cell)))

pub ring_recounted : (mid : List ℕ) (cell k : ℕ) (others : List ℕ) → AreSpread mid (cell ∷ others) → IsRing mid (target mid cell) others → IsRing (set_word mid (cell + 4) k) (target (set_word mid (cell + 4) k) cell) others
ring_recounted mid cell k others s r =
    let even = s.fit.0.0 in
    let same : target (set_word mid (cell + 4) k) cell ≡ target mid cell = target_other mid (cell + 4) k cell (omega arith) (omega arith) (λ f. omega arith) in
    rw same (IsRing-same mid (set_word mid (cell + 4) k) (target mid cell) others (nodes_kept mid cell (cell + 4) k others s (omega arith) (omega arith)) r)

pub ring_counted : (mid : List ℕ) (cell k : ℕ) (others : List ℕ) → AreSpread mid (cell ∷ others) → IsRing mid (target mid cell) others → k ≡ length others → HasRing (set_word mid (cell + 4) k) cell others
ring_counted mid cell k others s r e =
    let small = s.small in
    let few = s.few in
    let end = s.fit.0.1 in
    record {
      ring = ring_recounted mid cell k others s r;
      counted = sym (number-set_same 4 mid (cell + 4) k (omega arith) (omega arith) ∙ e);
    }

-- the node is coupled to its neighbours, but not counted yet
pub record Inserted (old mid : List ℕ) (cell node : ℕ) (nodes : List ℕ) : Type 0 where
  pub changes : ChangesAt old mid (cell ∷ node ∷ nodes)
  pub ring : IsRing mid (target mid cell) (nodes ++ node ∷ [])
  pub count_kept : count_at mid cell ≡ count_at old cell

pub inserted_counted : (old mid : List ℕ) (cell node : ℕ) (nodes : List ℕ) → AreSpread old (cell ∷ node ∷ nodes) → HasRing old cell nodes → Inserted old mid cell node nodes →
    Relinks old (set_word mid (cell + 4) (min (count_at mid cell + 1) 4294967295)) cell (node ∷ nodes) (nodes ++ node ∷ [])
inserted_counted old mid cell node nodes s r i =
    let long = i.changes.length_kept in
    let few = s.few in
    let small = s.small in
    let counted = r.counted in
    let kept = i.count_kept in
    let n = length-append nodes (node ∷ []) in
    let k = min (count_at mid cell + 1) 4294967295 in
    let is : k ≡ length (nodes ++ node ∷ []) = omega arith in
    record {
      changes = changes_word old mid cell (cell + 4) k (cell ∷ node ∷ nodes) (let t = times-same cell (node ∷ nodes) in omega arith) (omega arith) (omega arith) i.changes;
      ring = ring_counted mid cell k (nodes ++ node ∷ [])
          (spread_part old mid (cell ∷ node ∷ nodes) (cell ∷ (nodes ++ node ∷ [])) long (λ h. let a = times-append h nodes (node ∷ []) in omega arith) (omega arith) s) i.ring is;
    }

-- ---- the node is the only one

pub inserted_first : (old : List ℕ) (cell node : ℕ) (nodes : List ℕ) → AreSpread old (cell ∷ node ∷ nodes) → HasRing old cell nodes → target old cell ≡ None →
    Inserted old (set_pointer (coupled old node node) cell (Some node)) cell node nodes
inserted_first old cell node (x ∷ ys) s r e = let no : IsRing old None (x ∷ ys) = subst (λ t. IsRing old t (x ∷ ys)) e r.ring in absurd no
inserted_first old cell node [] s r e =
    let mid = coupled old node node in
    let small = s.small in
    let at = s.fit.0 in
    let even = at.0 in
    let end = at.1 in
    let its = s.fit.1.0 in
    let aligned = its.0 in
    let fits = its.1 in
    let long = joined_length old node node aligned aligned in
    let t = times-same node [] in
    let ne : cell ≢ node = not_among cell node (node ∷ []) (first_once cell (node ∷ []) s.once) (omega arith) in
    let d = distance cell (Some node) in
    let l = joined_linked old node node aligned aligned small fits fits in
    let named = names mid cell node (omega arith) (omega arith) (omega arith) (omega arith) (omega arith) in
    let linked : AreLinked (set_pointer mid cell (Some node)) node node = record {
      next = target_other mid cell d node (omega arith) (omega arith) ne ∙ l.next;
      previous = target_other mid cell d (node + 4) (omega arith) (omega arith) (λ f. omega arith) ∙ l.previous;
    } in
    record {
      changes = changes_word old mid cell cell d (cell ∷ node ∷ []) (let a = times-same cell (node ∷ []) in omega arith) (omega arith) (omega arith)
          (changes_joined old old node node (cell ∷ node ∷ []) (let m = times-more node cell (node ∷ []) in omega arith) (let m = times-more node cell (node ∷ []) in omega arith) (changes_none old (cell ∷ node ∷ [])));
      ring = rw named (refl, linked);
      count_kept = word_other mid cell d (cell + 4) (omega arith) (omega arith) (λ f. omega arith) ∙ joined_second old node node aligned aligned cell even ne;
    }

-- ---- a node between the last and the first one

module _ (old : List ℕ) (cell node x : ℕ) (ys : List ℕ) (s : AreSpread old (cell ∷ node ∷ x ∷ ys)) (l : IsLinked old x x ys) (e : target old cell ≡ Some x) where
  abbrev last : ℕ
  last = last_of x ys

  abbrev mid : List ℕ
  mid = coupled old (last_of x ys) node

  abbrev new : List ℕ
  new = coupled (coupled old (last_of x ys) node) node x

  once_nodes : (h : ℕ) → times h (x ∷ ys) ≤ 1
  once_nodes = rest_once node (x ∷ ys) (rest_once cell (node ∷ x ∷ ys) s.once)

  node_absent : times node (x ∷ ys) ≡ 0
  node_absent = first_once node (x ∷ ys) (rest_once cell (node ∷ x ∷ ys) s.once)

  cell_other : (q : ℕ) → 1 ≤ times q (node ∷ x ∷ ys) → cell ≢ q
  cell_other q some = not_among cell q (node ∷ x ∷ ys) (first_once cell (node ∷ x ∷ ys) s.once) some

  last_some : 1 ≤ times last (x ∷ ys)
  last_some = last_among x ys

  last_fits : (last % 8 ≡ 0) × (last + 8 ≤ length old)
  last_fits = there (λ p. (p % 8 ≡ 0) × (p + 8 ≤ length old)) last (x ∷ ys) s.fit.1.1 last_some

  x_some : 1 ≤ times x (x ∷ ys)
  x_some = omega (arith, times-same x ys)

  node_some : 1 ≤ times node (node ∷ x ∷ ys)
  node_some = omega (arith, times-same node (x ∷ ys))

  node_other : (q : ℕ) → 1 ≤ times q (x ∷ ys) → node ≢ q
  node_other q some = not_among node q (x ∷ ys) node_absent some

  mid_long : length mid ≡ length old
  mid_long = joined_length old last node last_fits.0 s.fit.1.0.0

  linked_mid : IsLinked mid node x ys
  linked_mid = linked_to old last node last_fits.0 s.fit.1.0.0 s.small last_fits.1 s.fit.1.0.1 x x ys refl (aligned_of (length old) (x ∷ ys) s.fit.1.1) once_nodes (let n = node_absent in let m = times-more node x ys in omega arith) l

  linked_new : IsLinked new node x ys
  linked_new = linked_beside mid node x s.fit.1.0.0 s.fit.1.1.0.0 node x ys s.fit.1.0.0 (aligned_of (length old) (x ∷ ys) s.fit.1.1) node_absent (first_once x ys once_nodes) (node_other x x_some) linked_mid

  node_first : AreLinked new node x
  node_first =
      let long = mid_long in
      let small = s.small in
      let a = s.fit.1.0.1 in
      let b = s.fit.1.1.0.1 in
      joined_linked mid node x s.fit.1.0.0 s.fit.1.1.0.0 (omega arith) (omega arith) (omega arith)

  names_first : target new cell ≡ Some x
  names_first =
      joined_next mid node x s.fit.1.0.0 s.fit.1.1.0.0 cell s.fit.0.0 (cell_other node node_some)
      ∙ joined_next old last node last_fits.0 s.fit.1.0.0 cell s.fit.0.0 (cell_other last (let a = last_some in let m = times-more last node (x ∷ ys) in omega arith))
      ∙ e

  more_places : (q : ℕ) → 1 ≤ times q (node ∷ x ∷ ys) → 1 ≤ times q (cell ∷ node ∷ x ∷ ys)
  more_places q some = let m = times-more q cell (node ∷ x ∷ ys) in omega arith

  more_nodes : (q : ℕ) → 1 ≤ times q (x ∷ ys) → 1 ≤ times q (cell ∷ node ∷ x ∷ ys)
  more_nodes q some = more_places q (let m = times-more q node (x ∷ ys) in omega arith)

  pub inserted_last : Inserted old (coupled (coupled old (last_of x ys) node) node x) cell node (x ∷ ys)
  inserted_last = record {
    changes = changes_joined old mid node x (cell ∷ node ∷ x ∷ ys) (more_places node node_some) (more_nodes x x_some)
        (changes_joined old old last node (cell ∷ node ∷ x ∷ ys) (more_nodes last last_some) (more_places node node_some) (changes_none old (cell ∷ node ∷ x ∷ ys)));
    ring = rw names_first (refl, linked_append new x ys node [] x linked_new node_first);
    count_kept = joined_second mid node x s.fit.1.0.0 s.fit.1.1.0.0 cell s.fit.0.0 (cell_other x (let a = x_some in let m = times-more x node (x ∷ ys) in omega arith))
        ∙ joined_second old last node last_fits.0 s.fit.1.0.0 cell s.fit.0.0 (cell_other node node_some);
  }

-- the same, with the words that the code reads
pub inserted_more : (old : List ℕ) (cell node first at last : ℕ) (nodes : List ℕ) → AreSpread old (cell ∷ node ∷ nodes) → HasRing old cell nodes → target old cell ≡ Some first → at ≡ (first + 4) % 2 ^ 32 →
    last ≡ start old at → Inserted old (coupled (coupled old last node) node first) cell node nodes
inserted_more old cell node first at last [] s r e at_is last_is = let no : IsRing old (Some first) [] = subst (λ t. IsRing old t []) e r.ring in absurd no
inserted_more old cell node first at last (x ∷ ys) s r e at_is last_is =
    let ring : IsRing old (Some first) (x ∷ ys) = subst (λ t. IsRing old t (x ∷ ys)) e r.ring in
    let linked : IsLinked old x x ys = subst (λ p. IsLinked old p x ys) (sym ring.0) ring.1 in
    let small = s.small in
    let end = s.fit.1.1.0.1 in
    let first_is = ring.0 in
    let place : at ≡ x + 4 = omega arith in
    let is : last ≡ last_of x ys = last_is ∙ ap (start old) place ∙ ap (λ t. Rattle.std.specs.Prelude.unwrap_or t 0) (last_named old x x ys linked) in
    rw (is, ← first_is) (inserted_last old cell node x ys s linked (e ∙ ap Some (sym first_is)))
