-- Items of a list and their neighbours: each item has one position, and no two items have the same.
use Rattle.std.proofs.Common.{◌≡◌, ◌≢◌, ℕ, zero, suc, ◌+◌, ◌-◌, ◌<◌, ◌≤◌, ⊎_elim, true, false, cond, ltb, leb, List, [], ◌∷◌, length, Some, refl, sym, ap, ◌∙◌, subst, arith}
use Rattle.std.specs.Prelude.{slice_get, nat_lt, nat_le, if◌then◌else◌}
use Rattle.std.proofs.lemmas.Bool.{cases_lt}
use Rattle.std.proofs.lemmas.Bool.Decides.{nat_tests}
use Rattle.seg_spec.specs.Types.{Form, Table, form_at}
use Rattle.seg_spec.specs.Value.{Values, Seq, Selector, count}
use Rattle.seg_spec.specs.Reads.{Place, Leads}
use Rattle.seg_spec.specs.Owning.{Stands}
use Rattle.seg_spec.specs.Sound.{times}
use Rattle.seg_spec.proofs.Heap.LiveBlockLaws.{times-same}
use Rattle.seg_seq.proofs.RingInsertionLaws.{first_once, rest_once}
use Rattle.seg_seq.proofs.Fronts.{its_list, its_spread, its_count, node_of_item}

counted : (xs : List ℕ) (i p : ℕ) → slice_get xs i ≡ Some p → 1 ≤ times p xs
counted [] i p e = cc
counted (x ∷ xs) zero p e = let same : x ≡ p = cc in subst (λ q. 1 ≤ times q (x ∷ xs)) same (omega (arith, times-same x xs))
counted (x ∷ xs) (suc i) p e = let rest = counted xs i p e in omega (arith, rest)

below : (xs : List ℕ) (i p : ℕ) → slice_get xs i ≡ Some p → i < length xs
below [] i p e = cc
below (x ∷ xs) zero p e = omega arith
below (x ∷ xs) (suc i) p e = let rest = below xs i p e in omega arith

-- a number that occurs once has one index
one_index : (xs : List ℕ) (i j p : ℕ) → ((h : ℕ) → times h xs ≤ 1) → slice_get xs i ≡ Some p → slice_get xs j ≡ Some p → i ≡ j
one_index [] i j p once e f = cc
one_index (x ∷ xs) zero zero p once e f = refl
one_index (x ∷ xs) zero (suc j) p once e f =
    let same : x ≡ p = cc in
    let none = first_once x xs once in
    let some : 1 ≤ times x xs = subst (λ q. 1 ≤ times q xs) (sym same) (counted xs j p f) in
    absurd (omega arith)
one_index (x ∷ xs) (suc i) zero p once e f =
    let same : x ≡ p = cc in
    let none = first_once x xs once in
    let some : 1 ≤ times x xs = subst (λ q. 1 ≤ times q xs) (sym same) (counted xs i p e) in
    absurd (omega arith)
one_index (x ∷ xs) (suc i) (suc j) p once e f = ap suc (one_index xs i j p (rest_once x xs once) e f)

-- the index of the item after or before item i of n, around the ring
abbrev pub index_after : ℕ → ℕ → ℕ
index_after n i = if nat_lt (i + 1) n then i + 1 else i + 1 - n

abbrev pub index_before : ℕ → ℕ → ℕ
index_before n i = if nat_le 1 i then i - 1 else i + n - 1

after_on : (n i : ℕ) → i + 1 < n → index_after n i ≡ i + 1
after_on n i h = let t : ltb (i + 1) n ≡ true = grind (arith, nat_tests) in ap (λ b. cond b (i + 1) (i + 1 - n)) t

after_over : (n i : ℕ) → i < n → n ≤ i + 1 → index_after n i ≡ 0
after_over n i less h = let t : ltb (i + 1) n ≡ false = grind (arith, nat_tests) in ap (λ b. cond b (i + 1) (i + 1 - n)) t ∙ (omega arith)

before_on : (n i : ℕ) → 1 ≤ i → index_before n i ≡ i - 1
before_on n i h = let t : leb 1 i ≡ true = grind (arith, nat_tests) in ap (λ b. cond b (i - 1) (i + n - 1)) t

module _ (allocator : ℕ) (bytes : List ℕ) (table : Table) (list : Place) (U : ℕ) (form_is : form_at table list.type ≡ Some (Form.list U)) (vs : Values) (blocks : List ℕ) (stands : Stands allocator bytes table list (Seq vs) blocks) where
  abbrev pub Shows : ℕ → ℕ → Type 0
  Shows i p = Leads bytes table list (Selector.item i ∷ []) (record { at = p; type = U })

  pub item_below : (i p : ℕ) → Shows i p → i < count vs
  item_below i p shows =
      let its = its_list allocator bytes table list U form_is vs blocks stands in
      let n = node_of_item allocator bytes table list U form_is vs blocks stands i p shows in
      let inside = below its.nodes i n.0 n.1 in
      let all = its_count allocator bytes table list U form_is vs blocks stands in
      omega arith

  pub one_position : (i p q : ℕ) → Shows i p → Shows i q → p ≡ q
  one_position i p q shows also =
      let n = node_of_item allocator bytes table list U form_is vs blocks stands i p shows in
      let m = node_of_item allocator bytes table list U form_is vs blocks stands i q also in
      let both : Some n.0 ≡ Some m.0 = sym n.1 ∙ m.1 in
      let same : n.0 ≡ m.0 = cc in
      n.2 ∙ ap (λ k. k + 8) same ∙ sym m.2

  pub one_item : (i j p : ℕ) → Shows i p → Shows j p → i ≡ j
  one_item i j p shows also =
      let its = its_list allocator bytes table list U form_is vs blocks stands in
      let n = node_of_item allocator bytes table list U form_is vs blocks stands i p shows in
      let m = node_of_item allocator bytes table list U form_is vs blocks stands j p also in
      let one = n.2 in
      let two = m.2 in
      let same : m.0 ≡ n.0 = omega arith in
      one_index its.nodes i j n.0 (rest_once list.at its.nodes (its_spread allocator bytes table list U form_is vs blocks stands).once) n.1 (m.1 ∙ ap Some same)

  -- the item after the last one is the first
  pub next_after : (i item next first : ℕ) → Shows i item → Shows (index_after (count vs) i) next → Shows 0 first → next ≢ first → (i + 1 < count vs) × Shows (i + 1) next
  next_after i item next first shows there begins differs =
      let less = item_below i item shows in
      ⊎_elim
      (λ on. (on, subst (λ j. Shows j next) (after_on (count vs) i on) there))
      (λ over. absurd (differs (one_position 0 next first (subst (λ j. Shows j next) (after_over (count vs) i less over) there) begins)))
      (cases_lt (i + 1) (count vs))

  pub next_none : (i item next first : ℕ) → Shows i item → Shows (index_after (count vs) i) next → Shows 0 first → next ≡ first → i + 1 ≡ count vs
  next_none i item next first shows there begins same =
      let less = item_below i item shows in
      ⊎_elim
      (λ on. absurd (let zeroth = one_item (i + 1) 0 first (subst (Shows (i + 1)) same (subst (λ j. Shows j next) (after_on (count vs) i on) there)) begins in omega (arith, zeroth)))
      (λ over. omega (arith, less, over))
      (cases_lt (i + 1) (count vs))

  pub previous_before : (i item previous first : ℕ) → Shows i item → Shows (index_before (count vs) i) previous → Shows 0 first → item ≢ first → (1 ≤ i) × Shows (i - 1) previous
  previous_before i item previous first shows there begins differs =
      ⊎_elim
      (λ none. absurd (let zeroth : i ≡ 0 = omega (arith, none) in differs (one_position 0 item first (subst (λ j. Shows j item) zeroth shows) begins)))
      (λ some. (some, subst (λ j. Shows j previous) (before_on (count vs) i some) there))
      (cases_lt i 1)

  pub previous_none : (i item first : ℕ) → Shows i item → Shows 0 first → item ≡ first → i ≡ 0
  previous_none i item first shows begins same = one_item i 0 first (subst (Shows i) same shows) begins
