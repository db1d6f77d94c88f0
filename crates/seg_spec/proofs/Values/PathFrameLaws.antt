-- If a place and the blocks that it owns are kept, each path from it still reaches the same place.
-- Then the paths that reach a part.
use Rattle.std.proofs.Common.{◌≡◌, ℕ, zero, suc, ◌<◌, ◌⊎◌, inl, inr, true, false, ℤ, pos, negsuc, List, [], ◌∷◌, ◌++◌, length, Some, refl, sym, ap, ◌∙◌, subst, ltb, arith}
use Rattle.std.specs.Prelude.{slice_get, get_or, not, ◌&&◌, nat_lt}
use Rattle.std.specs.List.{AllByRecursion}
use Rattle.std.proofs.lemmas.Bool.{cases_order}
use Rattle.std.proofs.lemmas.Bool.Decides.{nat_tests}
use Rattle.std.proofs.lemmas.List.Quantifiers.{position-Some}
use Rattle.seg_spec.specs.Types.{Table, IsTable}
use Rattle.seg_spec.specs.Value.{Label, Value, Values, Selector, index_of, same_int}
use Rattle.seg_spec.specs.Block.{KeepsBlock}
use Rattle.seg_spec.specs.Reads.{Place, Holds, HoldsEach, Leads, here, into}
use Rattle.seg_spec.proofs.Values.PlaceFrameLaws.{each_left, each_right, SamePlace, Opens-kept}
use Rattle.seg_spec.proofs.Values.PathSplitLaws.{opened_as, middle}
use Rattle.seg_spec.proofs.Tables.TypeSizeLaws.{size-form}

pub each_at : {X : Type 0} (P : X → Type 0) (xs : List X) (i : ℕ) (x : X) → AllByRecursion P xs → slice_get xs i ≡ Some x → P x
each_at P [] i x h e = cc
each_at P (y ∷ xs) zero x h e = subst P (let f : y ≡ x = cc in f) h.0
each_at P (y ∷ xs) (suc i) x h e = each_at P xs i x h.1 e

module _ (old new : List ℕ) (table : Table) (valid : IsTable table) where
  pub Leads-kept : {place inner : Place} {path : List Selector} {v : Value} {blocks : List ℕ} → Leads old table place path inner → Holds old table place v blocks → SamePlace old new table place → AllByRecursion (KeepsBlock old new) blocks
      → Leads new table place path inner
  Leads-kept here h same kept = here
  Leads-kept {place = place} (into form opened i part f o index part_is rest) h same kept =
      let opens_as = opened_as old table form opened f o h in
      let all : AllByRecursion (KeepsBlock old new) (opened.blocks ++ opens_as.owned) = subst (AllByRecursion (KeepsBlock old new)) opens_as.blocks_are kept in
      let stays = Opens-kept old new table valid place form opened (rw (size-form table valid place.type form f) at same) (each_left _ opened.blocks opens_as.owned all) o in
      let m = middle old table opens_as.each i part part_is in
      let following : AllByRecursion (KeepsBlock old new) opens_as.owned = each_right (KeepsBlock old new) opened.blocks opens_as.owned all in
      let inside : AllByRecursion (KeepsBlock old new) (m.xs ++ (m.zs ++ m.ys)) = subst (AllByRecursion (KeepsBlock old new)) m.blocks_are following in
      into form opened i part f stays.opens index part_is
      (Leads-kept rest m.holds_it (each_at (SamePlace old new table) opened.parts i part stays.parts part_is) (each_left _ m.zs m.ys (each_right _ m.xs (m.zs ++ m.ys) inside)))

  -- the same for several places
  pub Leads-each : {places : List Place} {vs : Values} {blocks : List ℕ} {inner : Place} {path : List Selector} (part : Place) (i : ℕ) → HoldsEach old table places vs blocks → slice_get places i ≡ Some part
      → AllByRecursion (SamePlace old new table) places → AllByRecursion (KeepsBlock old new) blocks → Leads old table part path inner → Leads new table part path inner
  Leads-each {places = places} part i h e same kept l =
      let m = middle old table h i part e in
      let inside : AllByRecursion (KeepsBlock old new) (m.xs ++ (m.zs ++ m.ys)) = subst (AllByRecursion (KeepsBlock old new)) m.blocks_are kept in
      Leads-kept l m.holds_it (each_at (SamePlace old new table) places i part same e) (each_left _ m.zs m.ys (each_right _ m.xs (m.zs ++ m.ys) inside))

-- ---- parts by their selectors

same_number : (m n : ℕ) → (not (nat_lt m n) && not (nat_lt n m)) ≡ true → m ≡ n
same_number m n e = go (cases_order m n)
  where
    go : (m ≡ n) ⊎ ((m < n) ⊎ (n < m)) → m ≡ n
    go (inl l) = l
    go (inr (inl l)) = let f : ltb m n ≡ true = grind (arith, nat_tests) in absurd (let k : false ≡ true = sym (ap (λ b. not b && not (nat_lt n m)) f) ∙ e in cc)
    go (inr (inr l)) =
        let f : ltb n m ≡ true = grind (arith, nat_tests) in
        let g : ltb m n ≡ false = grind (arith, nat_tests) in
        absurd (let k : false ≡ true = sym (ap (λ b. not b && not (nat_lt n m)) g ∙ ap not f) ∙ e in cc)

same_int_is : (a b : ℤ) → same_int a b ≡ true → a ≡ b
same_int_is (pos m) (pos n) e = ap pos (same_number m n e)
same_int_is (pos m) (negsuc n) e = absurd (let k : false ≡ true = e in cc)
same_int_is (negsuc m) (pos n) e = absurd (let k : false ≡ true = e in cc)
same_int_is (negsuc m) (negsuc n) e = ap negsuc (sym (same_number n m e))

same_key : (keys : List ℤ) (a b : ℤ) (i : ℕ) → index_of (Label.map keys) (Selector.key a) ≡ Some i → index_of (Label.map keys) (Selector.key b) ≡ Some i → a ≡ b
same_key keys a b i e f =
    let p = position-Some (same_int a) keys i (pos 0) e in
    let q = position-Some (same_int b) keys i (pos 0) f in
    same_int_is a (get_or keys i (pos 0)) p.1 ∙ sym (same_int_is b (get_or keys i (pos 0)) q.1)

-- only one selector selects a part
pub same_selector : (label : Label) (s t : Selector) (i : ℕ) → index_of label s ≡ Some i → index_of label t ≡ Some i → s ≡ t
same_selector Label.seq (Selector.item a) (Selector.item b) i e f = let g : a ≡ b = cc in ap Selector.item g
same_selector Label.struct (Selector.field a) (Selector.field b) i e f = let g : a ≡ b = cc in ap Selector.field g
same_selector (Label.map keys) (Selector.key a) (Selector.key b) i e f = ap Selector.key (same_key keys a b i e f)
same_selector Label.opt Selector.content Selector.content i e f = refl
same_selector label s t i e f = cc

-- an item of a list is before an item, after it, or is this item
pub placed_beside : {X : Type 0} (before : List X) (x : X) (after : List X) (i : ℕ) (y : X) → slice_get (before ++ x ∷ after) i ≡ Some y
    → (slice_get before i ≡ Some y) ⊎ (((i ≡ length before) × (y ≡ x)) ⊎ ((k : ℕ) × (slice_get after k ≡ Some y)))
placed_beside [] x after zero y e = inr (inl (refl, let f : x ≡ y = cc in sym f))
placed_beside [] x after (suc i) y e = inr (inr (i, e))
placed_beside (b ∷ before) x after zero y e = inl e
placed_beside (b ∷ before) x after (suc i) y e = go (placed_beside before x after i y e)
  where
    go : (slice_get before i ≡ Some y) ⊎ (((i ≡ length before) × (y ≡ x)) ⊎ ((k : ℕ) × (slice_get after k ≡ Some y)))
        → (slice_get before i ≡ Some y) ⊎ (((suc i ≡ suc (length before)) × (y ≡ x)) ⊎ ((k : ℕ) × (slice_get after k ≡ Some y)))
    go (inl f) = inl f
    go (inr (inl f)) = inr (inl (ap suc f.0, f.1))
    go (inr (inr f)) = inr (inr f)
