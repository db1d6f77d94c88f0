-- The gap that is picked is the lowest, or the smallest, that is large enough.
use Rattle.std.proofs.Common.{◌≡◌, ℕ, ◌<◌, ◌≤◌, ◌⊎◌, inl, inr, ⊎_elim, true, false, List, [], ◌∷◌, ◌++◌, cond, leb, Option, Some, None, refl, sym, ap, ◌∙◌, subst, arith}
use Rattle.std.proofs.lemmas.Bool.{cases_lt}
use Rattle.std.proofs.lemmas.Bool.Decides.{nat_tests}
use Rattle.std.specs.List.{AllByRecursion}
use Rattle.seg_spec.specs.Heap.{Span, first_fit, best_fit, smaller, IsLowest, IsSmallest}
use Rattle.seg_spec.proofs.Values.PlaceFrameLaws.{each_weaker}

large : (u : ℕ) (g : Span) → u ≤ g.units → leb u g.units ≡ true
large u g l = grind (arith, nat_tests)

small : (u : ℕ) (g : Span) → g.units < u → leb u g.units ≡ false
small u g l = grind (arith, nat_tests)

first_large : (u : ℕ) (g : Span) (gs : List Span) → u ≤ g.units → first_fit (g ∷ gs) u ≡ Some g
first_large u g gs l = ap (λ b. cond b (Some g) (first_fit gs u)) (large u g l)

pub first_small : (u : ℕ) (g : Span) (gs : List Span) → g.units < u → first_fit (g ∷ gs) u ≡ first_fit gs u
first_small u g gs l = ap (λ b. cond b (Some g) (first_fit gs u)) (small u g l)

best_large : (u : ℕ) (g : Span) (gs : List Span) → u ≤ g.units → best_fit (g ∷ gs) u ≡ smaller g (best_fit gs u)
best_large u g gs l = ap (λ b. cond b (smaller g (best_fit gs u)) (best_fit gs u)) (large u g l)

pub best_small : (u : ℕ) (g : Span) (gs : List Span) → g.units < u → best_fit (g ∷ gs) u ≡ best_fit gs u
best_small u g gs l = ap (λ b. cond b (smaller g (best_fit gs u)) (best_fit gs u)) (small u g l)

-- ---- the lowest gap

pub first_fit-none : (gs : List Span) (u : ℕ) → first_fit gs u ≡ None → AllByRecursion (λ h. h.units < u) gs
first_fit-none [] u e = tt
first_fit-none (g ∷ gs) u e = go (cases_lt g.units u) (λ f. first_fit-none gs u f)
  where
    go : (g.units < u) ⊎ (u ≤ g.units) → (first_fit gs u ≡ None → AllByRecursion (λ h. h.units < u) gs) → AllByRecursion (λ h. h.units < u) (g ∷ gs)
    go (inl l) rest = (l, rest (sym (first_small u g gs l) ∙ e))
    go (inr l) rest = let f = first_large u g gs l in cc

pub first_fit-lowest : (gs : List Span) (u : ℕ) (g : Span) → first_fit gs u ≡ Some g → IsLowest gs u g
first_fit-lowest [] u g e = cc
first_fit-lowest (h ∷ gs) u g e = go (cases_lt h.units u) (λ f. first_fit-lowest gs u g f)
  where
    go : (h.units < u) ⊎ (u ≤ h.units) → (first_fit gs u ≡ Some g → IsLowest gs u g) → IsLowest (h ∷ gs) u g
    go (inl l) rest =
        let r = rest (sym (first_small u h gs l) ∙ e) in
        record { before = h ∷ r.before; after = r.after; gaps_are = ap (λ ks. h ∷ ks) r.gaps_are; fits = r.fits; too_small = (l, r.too_small) }
    go (inr l) rest =
        let f = first_large u h gs l in
        let same : h ≡ g = cc in
        record { before = []; after = gs; gaps_are = ap (λ k. k ∷ gs) same; fits = subst (λ (k : Span). u ≤ k.units) same l; too_small = tt }

-- ---- the smallest gap

smaller_some : (g : Span) (o : Option Span) → smaller g o ≡ None → ⊥
smaller_some g None e = cc
smaller_some g (Some h) e = elim (leb g.units h.units) as (λ b. cond b (Some g) (Some h) ≡ None → ⊥) [ true ↦ (λ f. cc) | false ↦ (λ f. cc) ] e

pub best_fit-none : (gs : List Span) (u : ℕ) → best_fit gs u ≡ None → AllByRecursion (λ h. h.units < u) gs
best_fit-none [] u e = tt
best_fit-none (g ∷ gs) u e = go (cases_lt g.units u) (λ f. best_fit-none gs u f)
  where
    go : (g.units < u) ⊎ (u ≤ g.units) → (best_fit gs u ≡ None → AllByRecursion (λ h. h.units < u) gs) → AllByRecursion (λ h. h.units < u) (g ∷ gs)
    go (inl l) rest = (l, rest (sym (best_small u g gs l) ∙ e))
    go (inr l) rest = absurd (smaller_some g (best_fit gs u) (sym (best_large u g gs l) ∙ e))

first_is : (gs : List Span) (u : ℕ) (g : Span) → u ≤ g.units → AllByRecursion (λ h. (h.units < u) ⊎ (g.units ≤ h.units)) gs → IsSmallest (g ∷ gs) u g
first_is gs u g l a = record { before = []; after = gs; gaps_are = refl; fits = l; larger = tt; no_smaller = a }

each_append : (P : Span → Type 0) (xs ys : List Span) → AllByRecursion P xs → AllByRecursion P ys → AllByRecursion P (xs ++ ys)
each_append P [] ys a b = b
each_append P (x ∷ xs) ys a b = (a.0, each_append P xs ys a.1 b)

-- each gap is too small, or at least as large as the smallest one that fits
all_large : (gs : List Span) (u : ℕ) (g : Span) → IsSmallest gs u g → AllByRecursion (λ h. (h.units < u) ⊎ (g.units ≤ h.units)) gs
all_large gs u g s = subst (λ ks. AllByRecursion (λ h. (h.units < u) ⊎ (g.units ≤ h.units)) ks) (sym s.gaps_are)
    (each_append _ s.before (g ∷ s.after) (each_weaker _ _ (λ h e. ⊎_elim (λ l. inl l) (λ l. inr (omega arith)) e) s.before s.larger) (inr (omega arith), s.no_smaller))

one_of : (g h k : Span) (gs : List Span) (u : ℕ) → u ≤ g.units → IsSmallest gs u h → smaller g (Some h) ≡ Some k → IsSmallest (g ∷ gs) u k
one_of g h k gs u l s e = go (cases_lt h.units g.units)
  where
    go : (h.units < g.units) ⊎ (g.units ≤ h.units) → IsSmallest (g ∷ gs) u k
    go (inl m) =
        let f : leb g.units h.units ≡ false = grind (arith, nat_tests) in
        let same : h ≡ k = let r : smaller g (Some h) ≡ Some h = rw f refl in cc in
        subst (λ (x : Span). IsSmallest (g ∷ gs) u x) same (record { before = g ∷ s.before; after = s.after; gaps_are = ap (λ ks. g ∷ ks) s.gaps_are; fits = s.fits; larger = (inr m, s.larger); no_smaller = s.no_smaller })
    go (inr m) =
        let f : leb g.units h.units ≡ true = grind (arith, nat_tests) in
        let same : g ≡ k = let r : smaller g (Some h) ≡ Some g = rw f refl in cc in
        subst (λ (x : Span). IsSmallest (g ∷ gs) u x) same (first_is gs u g l (each_weaker _ _ (λ x d. ⊎_elim (λ n. inl n) (λ n. inr (omega arith)) d) gs (all_large gs u h s)))

pub best_fit-smallest : (gs : List Span) (u : ℕ) (g : Span) → best_fit gs u ≡ Some g → IsSmallest gs u g
best_fit-smallest [] u g e = cc
best_fit-smallest (h ∷ gs) u g e = go (cases_lt h.units u) (best_fit gs u) refl (λ k f. best_fit-smallest gs u k f)
  where
    go : (h.units < u) ⊎ (u ≤ h.units) → (o : Option Span) → best_fit gs u ≡ o → ((k : Span) → best_fit gs u ≡ Some k → IsSmallest gs u k) → IsSmallest (h ∷ gs) u g
    go (inl l) o f rest =
        let s = rest g (sym (best_small u h gs l) ∙ e) in
        record { before = h ∷ s.before; after = s.after; gaps_are = ap (λ ks. h ∷ ks) s.gaps_are; fits = s.fits; larger = (inl l, s.larger); no_smaller = s.no_smaller }
    go (inr l) None f rest =
        let none = best_fit-none gs u f in
        let same : h ≡ g = let r : best_fit (h ∷ gs) u ≡ smaller h None = best_large u h gs l ∙ ap (smaller h) f in cc in
        subst (λ (x : Span). IsSmallest (h ∷ gs) u x) same (first_is gs u h l (each_weaker _ _ (λ x n. inl n) gs none))
    go (inr l) (Some k) f rest = one_of h k g gs u l (rest k f) (sym (best_large u h gs l ∙ ap (smaller h) f) ∙ e)
