-- A name comes before another exactly if it compares as less, and is the same exactly if it compares as equal.
use Rattle.std.proofs.Common.{◌≡◌, ◌≢◌, ℕ, ◌<◌, ◌⊎◌, inl, inr, Bool, true, false, List, [], ◌∷◌, refl, sym, ap, ◌∙◌, arith}
use Rattle.std.specs.Prelude.{◌==◌, ◌&&◌}
use Rattle.std.specs.Ordering.{nat_cmp, ordering_then, ordering_reverse}
use Rattle.std.specs.Cmp.Lexicographic.{slice_cmp, nat_list_cmp_total}
use Rattle.std.specs.declared.cmp.Ordering.{Ordering}
use Rattle.std.specs.declared.cmp.Ordering.TheVariants.{Less, Equal, Greater}
use Rattle.std.proofs.lemmas.Bool.Decides.{nat_tests}
use Rattle.std.proofs.lemmas.Cmp.{ranked}
use Rattle.seg_spec.specs.Index.{Precedes, same_name}
use Rattle.seg_cells.proofs.NameOrder.{ranks, level}

pub less_of_precedes : (xs ys : List ℕ) → Precedes xs ys → slice_cmp nat_cmp xs ys ≡ Less
less_of_precedes [] [] h = absurd h
less_of_precedes [] (y ∷ ys) h = refl
less_of_precedes (x ∷ xs) [] h = absurd h
less_of_precedes (x ∷ xs) (y ∷ ys) (inl l) = ap (λ r. ordering_then r (slice_cmp nat_cmp xs ys)) (ranks x y Less l)
less_of_precedes (x ∷ xs) (y ∷ ys) (inr e) = level x y (slice_cmp nat_cmp xs ys) e.0 ∙ less_of_precedes xs ys e.1

pub precedes_of_less : (xs ys : List ℕ) → slice_cmp nat_cmp xs ys ≡ Less → Precedes xs ys
precedes_of_less [] [] e = cc
precedes_of_less [] (y ∷ ys) e = tt
precedes_of_less (x ∷ xs) [] e = cc
precedes_of_less (x ∷ xs) (y ∷ ys) e = go (nat_cmp x y) refl (precedes_of_less xs ys)
  where
    go : (r : Ordering) → r ≡ nat_cmp x y → (slice_cmp nat_cmp xs ys ≡ Less → Precedes xs ys) → (x < y) ⊎ ((x ≡ y) × Precedes xs ys)
    go Less r_is more = inl (ranked x y Less r_is)
    go Equal r_is more = let same : x ≡ y = ranked x y Equal r_is in inr (same, more (sym (level x y (slice_cmp nat_cmp xs ys) same) ∙ e))
    go Greater r_is more = let both : Greater ≡ Less = ap (λ r. ordering_then r (slice_cmp nat_cmp xs ys)) r_is ∙ e in cc

pub same_of_equal : (xs ys : List ℕ) → slice_cmp nat_cmp xs ys ≡ Equal → xs ≡ ys
same_of_equal [] [] e = refl
same_of_equal [] (y ∷ ys) e = cc
same_of_equal (x ∷ xs) [] e = cc
same_of_equal (x ∷ xs) (y ∷ ys) e = go (nat_cmp x y) refl (same_of_equal xs ys)
  where
    go : (r : Ordering) → r ≡ nat_cmp x y → (slice_cmp nat_cmp xs ys ≡ Equal → xs ≡ ys) → x ∷ xs ≡ y ∷ ys
    go Less r_is more = let both : Less ≡ Equal = ap (λ r. ordering_then r (slice_cmp nat_cmp xs ys)) r_is ∙ e in cc
    go Equal r_is more =
        let same : x ≡ y = ranked x y Equal r_is in
        let rest = more (sym (level x y (slice_cmp nat_cmp xs ys) same) ∙ e) in
        λ i. same i ∷ rest i
    go Greater r_is more = let both : Greater ≡ Equal = ap (λ r. ordering_then r (slice_cmp nat_cmp xs ys)) r_is ∙ e in cc

pub equal_self : (xs : List ℕ) → slice_cmp nat_cmp xs xs ≡ Equal
equal_self [] = refl
equal_self (x ∷ xs) = level x x (slice_cmp nat_cmp xs xs) refl ∙ equal_self xs

pub equal_of_same : (xs ys : List ℕ) → xs ≡ ys → slice_cmp nat_cmp xs ys ≡ Equal
equal_of_same xs ys e = ap (slice_cmp nat_cmp xs) (sym e) ∙ equal_self xs

pub precedes_of_greater : (xs ys : List ℕ) → slice_cmp nat_cmp xs ys ≡ Greater → Precedes ys xs
precedes_of_greater xs ys e = precedes_of_less ys xs (nat_list_cmp_total.antisymm ys xs ∙ ap ordering_reverse e)

pub precedes_trans : (xs ys zs : List ℕ) → Precedes xs ys → Precedes ys zs → Precedes xs zs
precedes_trans xs ys zs h k = precedes_of_less xs zs (nat_list_cmp_total.trans xs ys zs (less_of_precedes xs ys h) (less_of_precedes ys zs k))

-- ---- the test of names

pub same_name_self : (xs : List ℕ) → same_name xs xs ≡ true
same_name_self [] = refl
same_name_self (x ∷ xs) = let e : (x == x) ≡ true = grind (arith, nat_tests) in rw e (same_name_self xs)

pub same_by_test : (xs ys : List ℕ) → same_name xs ys ≡ true → xs ≡ ys
same_by_test [] [] e = refl
same_by_test [] (y ∷ ys) e = cc
same_by_test (x ∷ xs) [] e = cc
same_by_test (x ∷ xs) (y ∷ ys) e = go (x == y) refl (same_by_test xs ys)
  where
    go : (b : Bool) → (x == y) ≡ b → (same_name xs ys ≡ true → xs ≡ ys) → x ∷ xs ≡ y ∷ ys
    go true is more =
        let same : x ≡ y = grind (arith, nat_tests) in
        let rest = more (ap (λ b. b && same_name xs ys) (sym is) ∙ e) in
        λ i. same i ∷ rest i
    go false is more = let both : false ≡ true = ap (λ b. b && same_name xs ys) (sym is) ∙ e in cc

pub differs_by_test : (xs ys : List ℕ) → xs ≢ ys → same_name xs ys ≡ false
differs_by_test xs ys n = go (same_name xs ys) refl
  where
    go : (b : Bool) → same_name xs ys ≡ b → same_name xs ys ≡ false
    go true e = absurd (n (same_by_test xs ys e))
    go false e = e

-- a name that comes before another differs from it
pub precedes_differs : (xs ys : List ℕ) → Precedes xs ys → xs ≢ ys
precedes_differs xs ys h e = let both : Less ≡ Equal = sym (less_of_precedes xs ys h) ∙ equal_of_same xs ys e in cc

pub precedes_test : (xs ys : List ℕ) → Precedes xs ys → same_name xs ys ≡ false
precedes_test xs ys h = differs_by_test xs ys (precedes_differs xs ys h)

pub precedes_test_back : (xs ys : List ℕ) → Precedes xs ys → same_name ys xs ≡ false
precedes_test_back xs ys h = differs_by_test ys xs (λ e. precedes_differs xs ys h (sym e))
