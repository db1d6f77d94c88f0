-- A ring without one of its nodes.
use Rattle.std.proofs.Common.{◌≡◌, ◌≢◌, ℕ, suc, ◌+◌, ◌-◌, ◌%◌, ◌^◌, ◌≤◌, ◌⊎◌, inl, inr, Bool, true, false, eqb, List, [], ◌∷◌, ◌++◌, length, Option, Some, None, refl, sym, ap, ◌∙◌, subst, arith, length-append, eqb-true}
use Rattle.std.specs.Option.{option_eq}
use Rattle.std.specs.Prelude.{unwrap_or}
use Rattle.std.proofs.lemmas.Bool.Decides.{nat_tests}
use Rattle.seg_spec.specs.Bytes.{set_word}
use Rattle.seg_spec.specs.Pointer.{target, distance, set_pointer}
use Rattle.seg_spec.specs.Reads.{count_at, start}
use Rattle.seg_spec.specs.Shapes.{IsLinked, IsRing}
use Rattle.seg_spec.specs.Sound.{times}
use Rattle.seg_spec.proofs.BytesLaws.{length-set_number, number-set_same}
use Rattle.seg_spec.proofs.PointerLaws.{target-set_same}
use Rattle.seg_spec.proofs.Values.PlaceFrameLaws.{IsRing-same, each_left, each_right}
use Rattle.seg_spec.proofs.Heap.LiveBlockLaws.{times-same, times-more, times-append, there}
use Rattle.seg_spec.proofs.Deallocation.RingDestructionLaws.{last_of, last_named}
use Rattle.seg_seq.specs.Rings.{coupled, AreSpread, ChangesAt, HasRing, Relinks}
use Rattle.seg_seq.proofs.Joins.{word_other, names, joined_next, joined_second, linked_to, linked_beside, linked_append, linked_split, last_among, chain_end}
use Rattle.seg_seq.proofs.RingInsertionLaws.{spread_part, aligned_of, first_once, rest_once, not_among, changes_none, changes_word, changes_joined, nodes_kept, ring_recounted}

-- the cell of a ring with nodes points to the first one
pub ring_first : (bytes : List ℕ) (o : Option ℕ) (x : ℕ) (xs : List ℕ) → IsRing bytes o (x ∷ xs) → (o ≡ Some x) × IsLinked bytes x x xs
ring_first bytes None x xs r = absurd r
ring_first bytes (Some p) x xs r = (ap Some (sym r.0), subst (λ q. IsLinked bytes q x xs) (sym r.0) r.1)

-- the neighbours of a node, and the ring after these neighbours are linked to each other
pub record Unlinked (bytes : List ℕ) (cell node : ℕ) (before after : List ℕ) : Type 0 where
  pub next : ℕ
  pub previous : ℕ
  pub next_is : target bytes node ≡ Some next
  pub previous_is : target bytes (node + 4) ≡ Some previous
  pub next_among : 1 ≤ times next (before ++ node ∷ after)
  pub previous_among : 1 ≤ times previous (before ++ node ∷ after)
  pub cell_kept : target (coupled bytes previous next) cell ≡ target bytes cell
  pub count_kept : count_at (coupled bytes previous next) cell ≡ count_at bytes cell
  pub ring : ((target bytes cell ≡ Some node) × IsRing (coupled bytes previous next) (Some next) (before ++ after))
      ⊎ ((target bytes cell ≢ Some node) × IsRing (coupled bytes previous next) (target bytes cell) (before ++ after))

module _ (bytes : List ℕ) (cell node : ℕ) (nodes : List ℕ) (s : AreSpread bytes (cell ∷ nodes)) where
  fits : (q : ℕ) → 1 ≤ times q nodes → (q % 8 ≡ 0) × (q + 8 ≤ length bytes)
  fits q some = there (λ p. (p % 8 ≡ 0) × (p + 8 ≤ length bytes)) q nodes s.fit.1 some

  cell_other : (q : ℕ) → 1 ≤ times q nodes → cell ≢ q
  cell_other q some = not_among cell q nodes (first_once cell nodes s.once) some

  once : (h : ℕ) → times h nodes ≤ 1
  once = rest_once cell nodes s.once

  module _ (previous next : ℕ) (some_previous : 1 ≤ times previous nodes) (some_next : 1 ≤ times next nodes) where
    cell_names : target (coupled bytes previous next) cell ≡ target bytes cell
    cell_names = joined_next bytes previous next (fits previous some_previous).0 (fits next some_next).0 cell s.fit.0.0 (cell_other previous some_previous)

    cell_counts : count_at (coupled bytes previous next) cell ≡ count_at bytes cell
    cell_counts = joined_second bytes previous next (fits previous some_previous).0 (fits next some_next).0 cell s.fit.0.0 (cell_other next some_next)

-- the node is the first of several
unlinked_first : (bytes : List ℕ) (cell node y : ℕ) (ys : List ℕ) → AreSpread bytes (cell ∷ node ∷ y ∷ ys) → IsRing bytes (target bytes cell) (node ∷ y ∷ ys) → Unlinked bytes cell node [] (y ∷ ys)
unlinked_first bytes cell node y ys s r =
    let f = ring_first bytes (target bytes cell) node (y ∷ ys) r in
    let last = last_of y ys in
    let t = times-same y ys in
    let m = times-more y node (y ∷ ys) in
    let k = last_among y ys in
    let n = times-more (last_of y ys) node (y ∷ ys) in
    let some_next : 1 ≤ times y (node ∷ y ∷ ys) = omega arith in
    let some_last : 1 ≤ times (last_of y ys) (node ∷ y ∷ ys) = omega arith in
    let its = fits bytes cell node (node ∷ y ∷ ys) s last some_last in
    let that = fits bytes cell node (node ∷ y ∷ ys) s y some_next in
    let alone = rest_once node (y ∷ ys) (once bytes cell node (node ∷ y ∷ ys) s) in
    record {
      next = y;
      previous = last_of y ys;
      next_is = f.1.0.next;
      previous_is = last_named bytes node node (y ∷ ys) f.1;
      next_among = some_next;
      previous_among = some_last;
      cell_kept = cell_names bytes cell node (node ∷ y ∷ ys) s last y some_last some_next;
      count_kept = cell_counts bytes cell node (node ∷ y ∷ ys) s last y some_last some_next;
      ring = inl (f.0, (refl, linked_to bytes last y its.0 that.0 s.small its.1 that.1 node y ys refl (aligned_of (length bytes) (y ∷ ys) s.fit.1.1) alone (first_once y ys alone) f.1.1));
    }

module _ (bytes : List ℕ) (cell node x : ℕ) (xs after : List ℕ) (s : AreSpread bytes (cell ∷ x ∷ (xs ++ node ∷ after))) (r : IsRing bytes (target bytes cell) (x ∷ (xs ++ node ∷ after))) where
  abbrev nodes : List ℕ
  nodes = x ∷ (xs ++ node ∷ after)

  first : (target bytes cell ≡ Some x) × IsLinked bytes x x (xs ++ node ∷ after)
  first = ring_first bytes (target bytes cell) x (xs ++ node ∷ after) r

  parts : IsLinked bytes node x xs × IsLinked bytes x node after
  parts = linked_split bytes x xs node after x first.1

  counts : (h : ℕ) → times h nodes ≡ times h (x ∷ xs) + times h (node ∷ after)
  counts h = times-append h (x ∷ xs) (node ∷ after)

  abbrev last : ℕ
  last = last_of x xs

  some_last : 1 ≤ times last nodes
  some_last = let c = counts last in let k = last_among x xs in omega arith

  all_once : (h : ℕ) → times h nodes ≤ 1
  all_once = rest_once cell nodes s.once

  front_once : (h : ℕ) → times h (x ∷ xs) ≤ 1
  front_once h = let c = counts h in let o = all_once h in omega arith

  -- the cell still points to another node, the first
  names_other : target bytes cell ≢ Some node
  names_other e =
      let both : Some x ≡ Some node = sym first.0 ∙ e in
      let same : x ≡ node = cc in
      let c = counts node in
      let o = all_once node in
      let k = times-same node after in
      let m : 1 ≤ times node (x ∷ xs) = subst (λ q. 1 ≤ times q (x ∷ xs)) same (omega (arith, times-same x xs)) in
      absurd (omega arith)

  previous_is : target bytes (node + 4) ≡ Some last
  previous_is = (chain_end bytes node x xs parts.0).previous

  its : (last % 8 ≡ 0) × (last + 8 ≤ length bytes)
  its = fits bytes cell node nodes s last some_last

  front_aligned : Rattle.seg_seq.proofs.Joins.AreAligned (x ∷ xs)
  front_aligned = each_left (λ p. p % 8 ≡ 0) (x ∷ xs) (node ∷ after) (aligned_of (length bytes) nodes s.fit.1)

  back_aligned : Rattle.seg_seq.proofs.Joins.AreAligned (node ∷ after)
  back_aligned = each_right (λ p. p % 8 ≡ 0) (x ∷ xs) (node ∷ after) (aligned_of (length bytes) nodes s.fit.1)

-- the node is the last of several
unlinked_last : (bytes : List ℕ) (cell node x : ℕ) (xs : List ℕ) → AreSpread bytes (cell ∷ x ∷ (xs ++ node ∷ [])) → IsRing bytes (target bytes cell) (x ∷ (xs ++ node ∷ [])) → Unlinked bytes cell node (x ∷ xs) []
unlinked_last bytes cell node x xs s r =
    let t = times-same x (xs ++ node ∷ []) in
    let some_first : 1 ≤ times x (x ∷ (xs ++ node ∷ [])) = omega arith in
    let that = fits bytes cell node (x ∷ (xs ++ node ∷ [])) s x some_first in
    let a = its bytes cell node x xs [] s r in
    let front = front_once bytes cell node x xs [] s r in
    let ring = linked_to bytes (last_of x xs) x a.0 that.0 s.small a.1 that.1 node x xs refl (front_aligned bytes cell node x xs [] s r) front (first_once x xs front) (parts bytes cell node x xs [] s r).0 in
    let named = (first bytes cell node x xs [] s r).0 in
    let none : xs ++ [] ≡ xs = Rattle.std.proofs.Common.append-nil xs in
    record {
      next = x;
      previous = last_of x xs;
      next_is = (parts bytes cell node x xs [] s r).1.next;
      previous_is = previous_is bytes cell node x xs [] s r;
      next_among = some_first;
      previous_among = some_last bytes cell node x xs [] s r;
      cell_kept = cell_names bytes cell node (x ∷ (xs ++ node ∷ [])) s (last_of x xs) x (some_last bytes cell node x xs [] s r) some_first;
      count_kept = cell_counts bytes cell node (x ∷ (xs ++ node ∷ [])) s (last_of x xs) x (some_last bytes cell node x xs [] s r) some_first;
      ring = inr (names_other bytes cell node x xs [] s r, rw (named, none) (refl, ring));
    }

-- the node is between two others
unlinked_between : (bytes : List ℕ) (cell node x : ℕ) (xs : List ℕ) (y : ℕ) (ys : List ℕ) → AreSpread bytes (cell ∷ x ∷ (xs ++ node ∷ y ∷ ys)) → IsRing bytes (target bytes cell) (x ∷ (xs ++ node ∷ y ∷ ys)) →
    Unlinked bytes cell node (x ∷ xs) (y ∷ ys)
unlinked_between bytes cell node x xs y ys s r =
    let nodes = x ∷ (xs ++ node ∷ y ∷ ys) in
    let last = last_of x xs in
    let c = counts bytes cell node x xs (y ∷ ys) s r in
    let all = all_once bytes cell node x xs (y ∷ ys) s r in
    let two = times-more y node (y ∷ ys) in
    let one = times-same y ys in
    let at_y = c y in
    let all_y = all y in
    let some_next : 1 ≤ times y (x ∷ (xs ++ node ∷ y ∷ ys)) = omega arith in
    let that = fits bytes cell node (x ∷ (xs ++ node ∷ y ∷ ys)) s y some_next in
    let a = its bytes cell node x xs (y ∷ ys) s r in
    let front = front_once bytes cell node x xs (y ∷ ys) s r in
    let no_y : times y (x ∷ xs) ≡ 0 = omega arith in
    let no_y_after : times y xs ≡ 0 = let m = times-more y x xs in omega arith in
    let no_more_y : times y ys ≡ 0 = omega arith in
    let k = last_among x xs in
    let at_last = c (last_of x xs) in
    let all_last = all (last_of x xs) in
    let no_last : times (last_of x xs) (y ∷ ys) ≡ 0 = let m = times-more (last_of x xs) node (y ∷ ys) in omega arith in
    let apart : x ≢ y = λ e. let z : times x (x ∷ xs) ≡ 0 = subst (λ q. times q (x ∷ xs) ≡ 0) (sym e) no_y in let u = times-same x xs in absurd (omega arith) in
    let p = parts bytes cell node x xs (y ∷ ys) s r in
    let f = front_aligned bytes cell node x xs (y ∷ ys) s r in
    let b = back_aligned bytes cell node x xs (y ∷ ys) s r in
    let l1 = linked_to bytes (last_of x xs) y a.0 that.0 s.small a.1 that.1 node x xs refl f front no_y_after p.0 in
    let l2 = linked_beside bytes (last_of x xs) y a.0 that.0 x y ys f.0 b.1 no_last no_more_y apart p.1.1 in
    let named = (first bytes cell node x xs (y ∷ ys) s r).0 in
    let ring = linked_append (coupled bytes (last_of x xs) y) x xs y ys x l1 l2 in
    record {
      next = y;
      previous = last_of x xs;
      next_is = p.1.0.next;
      previous_is = previous_is bytes cell node x xs (y ∷ ys) s r;
      next_among = some_next;
      previous_among = some_last bytes cell node x xs (y ∷ ys) s r;
      cell_kept = cell_names bytes cell node (x ∷ (xs ++ node ∷ y ∷ ys)) s (last_of x xs) y (some_last bytes cell node x xs (y ∷ ys) s r) some_next;
      count_kept = cell_counts bytes cell node (x ∷ (xs ++ node ∷ y ∷ ys)) s (last_of x xs) y (some_last bytes cell node x xs (y ∷ ys) s r) some_next;
      ring = inr (names_other bytes cell node x xs (y ∷ ys) s r, rw named (refl, ring));
    }

pub unlinked : (bytes : List ℕ) (cell node : ℕ) (before after : List ℕ) → AreSpread bytes (cell ∷ before ++ node ∷ after) → IsRing bytes (target bytes cell) (before ++ node ∷ after) → 1 ≤ length (before ++ after) →
    Unlinked bytes cell node before after
unlinked bytes cell node [] [] s r some = absurd (omega arith)
unlinked bytes cell node [] (y ∷ ys) s r some = unlinked_first bytes cell node y ys s r
unlinked bytes cell node (x ∷ xs) [] s r some = unlinked_last bytes cell node x xs s r
unlinked bytes cell node (x ∷ xs) (y ∷ ys) s r some = unlinked_between bytes cell node x xs y ys s r

-- ---- the bytes after the writes

option_test : (o : Option ℕ) (n : ℕ) (b : Bool) → b ≡ option_eq eqb o (Some n) → b ≡ true → o ≡ Some n
option_test None n b e t = let f : false ≡ true = sym e ∙ t in absurd (cc)
option_test (Some a) n b e t = ap Some (eqb-true a n (sym e ∙ t))

option_test_false : (n : ℕ) (o : Option ℕ) (b : Bool) → b ≡ option_eq eqb o (Some n) → b ≡ false → o ≢ Some n
option_test_false n o b e f same =
    let t : b ≡ eqb n n = e ∙ ap (λ p. option_eq eqb p (Some n)) same in
    let s : eqb n n ≡ true = grind (arith, nat_tests) in
    let both : false ≡ true = sym f ∙ t ∙ s in
    absurd (cc)

module _ (old : List ℕ) (cell node : ℕ) (before after : List ℕ) (r : HasRing old cell (before ++ node ∷ after)) (s : AreSpread old (cell ∷ before ++ node ∷ after)) (k : ℕ) (k_is : k ≡ count_at old cell - 1) where
  abbrev one : List ℕ
  one = set_word old (cell + 4) k

  lengths : length (before ++ node ∷ after) ≡ suc (length (before ++ after))
  lengths = let a = length-append before (node ∷ after) in let b = length-append before after in omega arith

  count_one : k ≡ length (before ++ after)
  count_one = let c = r.counted in let l = lengths in omega arith

  one_long : length one ≡ length old
  one_long = length-set_number 4 old (cell + 4) k

  one_counts : count_at one cell ≡ k
  one_counts = let c = count_one in let l = lengths in let few = s.few in let small = s.small in let end = s.fit.0.1 in number-set_same 4 old (cell + 4) k (omega arith) (omega arith)

  one_spread : AreSpread one (cell ∷ before ++ node ∷ after)
  one_spread = spread_part old one (cell ∷ before ++ node ∷ after) (cell ∷ before ++ node ∷ after) one_long (λ h. omega arith) (omega arith) s

  one_ring : IsRing one (target one cell) (before ++ node ∷ after)
  one_ring = ring_recounted old cell k (before ++ node ∷ after) s r.ring

  at_cell : 1 ≤ times cell (cell ∷ before ++ node ∷ after)
  at_cell = omega (arith, times-same cell (before ++ node ∷ after))

  one_changes : ChangesAt old one (cell ∷ before ++ node ∷ after)
  one_changes = changes_word old old cell (cell + 4) k (cell ∷ before ++ node ∷ after) at_cell (omega arith) (omega arith) (changes_none old (cell ∷ before ++ node ∷ after))

  -- the node was the only one
  pub removed_only : k ≡ 0 → Relinks old (set_pointer (set_word old (cell + 4) k) cell None) cell (before ++ node ∷ after) (before ++ after)
  removed_only zero_is =
      let c = count_one in
      let end = s.fit.0.1 in
      let small = s.small in
      let long = one_long in
      let even = s.fit.0.0 in
      let none : target (set_pointer one cell None) cell ≡ None = target-set_same one cell None (omega arith) (omega arith) (λ t e. absurd (cc)) in
      let counts : count_at (set_pointer one cell None) cell ≡ k = word_other one cell (distance cell None) (cell + 4) (omega arith) (omega arith) (λ f. omega arith) ∙ one_counts in
      let empty = no_elements (before ++ after) (sym c ∙ zero_is) in
      record {
        changes = changes_word old one cell cell (distance cell None) (cell ∷ before ++ node ∷ after) at_cell (omega arith) (omega arith) one_changes;
        ring = rw empty (record { ring = rw none tt; counted = sym (counts ∙ zero_is) });
      }
    where
      no_elements : (xs : List ℕ) → length xs ≡ 0 → xs ≡ []
      no_elements [] e = refl
      no_elements (x ∷ xs) e = absurd (omega arith)

  module _ (some : k ≢ 0) where
    u : Unlinked one cell node before after
    u = unlinked one cell node before after one_spread one_ring (let c = count_one in omega arith)

    next_same : (next : ℕ) → next ≡ start one node → next ≡ u.next
    next_same next next_is = next_is ∙ ap (λ t. unwrap_or t 0) u.next_is

    previous_same : (previous at : ℕ) → at ≡ (node + 4) % 2 ^ 32 → previous ≡ start one at → previous ≡ u.previous
    previous_same previous at at_is previous_is = previous_is ∙ ap (start one) place ∙ ap (λ t. unwrap_or t 0) u.previous_is
      where
        place : at ≡ node + 4
        place =
            let a = times-append node before (node ∷ after) in
            let t = times-same node after in
            let f = there (λ p. (p % 8 ≡ 0) × (p + 8 ≤ length old)) node (before ++ node ∷ after) s.fit.1 (omega arith) in
            let end = f.1 in
            let small = s.small in
            omega arith

    abbrev two : List ℕ
    two = coupled one u.previous u.next

    more : (q : ℕ) → 1 ≤ times q (before ++ node ∷ after) → 1 ≤ times q (cell ∷ before ++ node ∷ after)
    more q h = let m = times-more q cell (before ++ node ∷ after) in omega arith

    two_changes : ChangesAt old two (cell ∷ before ++ node ∷ after)
    two_changes = changes_joined old one u.previous u.next (cell ∷ before ++ node ∷ after) (more u.previous u.previous_among) (more u.next u.next_among) one_changes

    fewer : (h : ℕ) → times h (cell ∷ before ++ after) ≤ times h (cell ∷ before ++ node ∷ after)
    fewer h = let a = times-append h before (node ∷ after) in let b = times-append h before after in let m = times-more h node after in omega arith

    two_spread : AreSpread two (cell ∷ before ++ after)
    two_spread = let l = lengths in spread_part old two (cell ∷ before ++ node ∷ after) (cell ∷ before ++ after) two_changes.length_kept fewer (omega arith) s

    abbrev ThenRing : Type 0
    ThenRing = ((target one cell ≡ Some node) × IsRing two (Some u.next) (before ++ after)) ⊎ ((target one cell ≢ Some node) × IsRing two (target one cell) (before ++ after))

    by_first : ThenRing → target one cell ≡ Some node → Relinks old (set_pointer two cell (Some u.next)) cell (before ++ node ∷ after) (before ++ after)
    by_first (inr n) e = absurd (n.0 e)
    by_first (inl f) e =
        let d = distance cell (Some u.next) in
        let long = two_changes.length_kept in
        let small = s.small in
        let end = s.fit.0.1 in
        let even = s.fit.0.0 in
        let its = there (λ p. (p % 8 ≡ 0) × (p + 8 ≤ length old)) u.next (before ++ node ∷ after) s.fit.1 u.next_among in
        let its_end = its.1 in
        let its_even = its.0 in
        let names_it : target (set_pointer two cell (Some u.next)) cell ≡ Some u.next = names two cell u.next (omega arith) (omega arith) (omega arith) (omega arith) (omega arith) in
        record {
          changes = changes_word old two cell cell d (cell ∷ before ++ node ∷ after) at_cell (omega arith) (omega arith) two_changes;
          ring = record {
            ring = rw names_it (IsRing-same two (set_pointer two cell (Some u.next)) (Some u.next) (before ++ after) (nodes_kept two cell cell d (before ++ after) two_spread (omega arith) (omega arith)) f.1);
            counted = sym (word_other two cell d (cell + 4) (omega arith) (omega arith) (λ g. omega arith) ∙ u.count_kept ∙ one_counts ∙ count_one);
          };
        }

    by_other : ThenRing → target one cell ≢ Some node → Relinks old two cell (before ++ node ∷ after) (before ++ after)
    by_other (inl f) ne = absurd (ne f.0)
    by_other (inr n) ne = record { changes = two_changes; ring = record { ring = rw u.cell_kept n.1; counted = sym (u.count_kept ∙ one_counts ∙ count_one) } }

    pub removed_first : (next previous at : ℕ) → at ≡ (node + 4) % 2 ^ 32 → next ≡ start (set_word old (cell + 4) k) node → previous ≡ start (set_word old (cell + 4) k) at → (b : Bool) →
        b ≡ option_eq eqb (target (coupled (set_word old (cell + 4) k) previous next) cell) (Some node) → b ≡ true →
        Relinks old (set_pointer (coupled (set_word old (cell + 4) k) previous next) cell (Some next)) cell (before ++ node ∷ after) (before ++ after)
    removed_first next previous at at_is next_is previous_is b b_is on =
        let e = next_same next next_is in
        let f = previous_same previous at at_is previous_is in
        let named = option_test (target (coupled one previous next) cell) node b b_is on in
        let now = subst (λ n. target (coupled one u.previous n) cell ≡ Some node) e (subst (λ p. target (coupled one p next) cell ≡ Some node) f named) in
        let r : Relinks old (set_pointer two cell (Some u.next)) cell (before ++ node ∷ after) (before ++ after) = by_first u.ring (sym u.cell_kept ∙ now) in
        subst (λ n. Relinks old (set_pointer (coupled one previous n) cell (Some n)) cell (before ++ node ∷ after) (before ++ after)) (sym e)
        (subst (λ p. Relinks old (set_pointer (coupled one p u.next) cell (Some u.next)) cell (before ++ node ∷ after) (before ++ after)) (sym f) r)

    pub removed_other : (next previous at : ℕ) → at ≡ (node + 4) % 2 ^ 32 → next ≡ start (set_word old (cell + 4) k) node → previous ≡ start (set_word old (cell + 4) k) at → (b : Bool) →
        b ≡ option_eq eqb (target (coupled (set_word old (cell + 4) k) previous next) cell) (Some node) → b ≡ false →
        Relinks old (coupled (set_word old (cell + 4) k) previous next) cell (before ++ node ∷ after) (before ++ after)
    removed_other next previous at at_is next_is previous_is b b_is off =
        let e = next_same next next_is in
        let f = previous_same previous at at_is previous_is in
        let named = option_test_false node (target (coupled one previous next) cell) b b_is off in
        let both : coupled one u.previous u.next ≡ coupled one previous next = ap (λ p. coupled one p u.next) (sym f) ∙ ap (coupled one previous) (sym e) in
        let r : Relinks old two cell (before ++ node ∷ after) (before ++ after) = by_other u.ring (λ t. named (ap (λ m. target m cell) (sym both) ∙ u.cell_kept ∙ t)) in
        subst (λ m. Relinks old m cell (before ++ node ∷ after) (before ++ after)) both r
