-- Frozen objects after one more cell points to them, and after one more object is added.
use Rattle.std.proofs.Common.{◌≡◌, ◌≢◌, ℕ, suc, ◌+◌, ◌<◌, ◌≤◌, inl, inr, ⊎_elim, Bool, true, false, List, [], ◌∷◌, ◌++◌, map, cond, eqb, refl, sym, ap, ◌∙◌, subst, arith}
use Rattle.std.specs.List.{AllByRecursion}
use Rattle.std.proofs.lemmas.Bool.Decides.{nat_tests}
use Rattle.std.proofs.lemmas.Bool.{cases_eq}
use Rattle.seg_spec.specs.Value.{Value}
use Rattle.seg_spec.specs.Reads.{Place}
use Rattle.seg_spec.specs.Sound.{times}
use Rattle.seg_spec.specs.Frozen.{Frozen}
use Rattle.seg_spec.specs.Shared.{names_in, names_of, times_named, IsBelow, AreDistinct, IsCounted, with_count, raised}
use Rattle.seg_spec.proofs.Heap.LiveBlockLaws.{times-same, times-other}
use Rattle.seg_spec.proofs.Values.PlaceFrameLaws.{each_weaker, each_left, each_right}
use Rattle.seg_spec.proofs.Frozen.SharedLaws.{named-append, elsewhere, wider}

-- ---- one more cell points to an object

raised_each : (P : Frozen → Type 0) → ((f : Frozen) (n : ℕ) → P f → P (with_count f n)) → (p : ℕ) (fs : List Frozen) → AllByRecursion P fs → AllByRecursion P (raised p fs)
raised_each P whatever p [] a = tt
raised_each P whatever p (f ∷ fs) a = (go (eqb f.at p), raised_each P whatever p fs a.1)
  where
    go : (b : Bool) → P (cond b (with_count f (suc f.count)) f)
    go true = whatever f (suc f.count) a.0
    go false = a.0

raised_at : (P : ℕ → Type 0) (f : Frozen) (b : Bool) → P f.at → P (cond b (with_count f (suc f.count)) f).at
raised_at P f true h = h
raised_at P f false h = h

pub distinct_raised : (p : ℕ) (fs : List Frozen) → AreDistinct fs → AreDistinct (raised p fs)
distinct_raised p [] d = tt
distinct_raised p (f ∷ fs) d =
    (raised_at (λ at. AllByRecursion (λ (g : Frozen). g.at ≢ at) (raised p fs)) f (eqb f.at p) (raised_each (λ (g : Frozen). g.at ≢ f.at) (λ g n h. h) p fs d.0), distinct_raised p fs d.1)

pub below_raised : (n p : ℕ) (fs : List Frozen) (q : Place) → IsBelow n fs q → IsBelow n (raised p fs) q
below_raised n p [] q h = h
below_raised n p (f ∷ fs) q (inl h) = inl (go (eqb f.at p))
  where
    go : (b : Bool) → ((cond b (with_count f (suc f.count)) f).at ≡ q.at) × ((cond b (with_count f (suc f.count)) f).type ≡ q.type) × ((cond b (with_count f (suc f.count)) f).number < n)
    go true = h
    go false = h
below_raised n p (f ∷ fs) q (inr h) = inr (below_raised n p fs q h)

names_raised : (p : ℕ) (fs : List Frozen) → names_of (raised p fs) ≡ names_of fs
names_raised p [] = refl
names_raised p (f ∷ fs) = ap (λ ns. ns ++ names_of (raised p fs)) (go (eqb f.at p)) ∙ ap (λ ns. names_in f.value ++ ns) (names_raised p fs)
  where
    go : (b : Bool) → names_in (cond b (with_count f (suc f.count)) f).value ≡ names_in f.value
    go true = refl
    go false = refl

falling_raised : (p : ℕ) (all fs : List Frozen) → AllByRecursion (λ (f : Frozen). AllByRecursion (IsBelow f.number all) (names_in f.value)) fs
    → AllByRecursion (λ (f : Frozen). AllByRecursion (IsBelow f.number (raised p all)) (names_in f.value)) fs
falling_raised p all [] a = tt
falling_raised p all (f ∷ fs) a = (each_weaker (IsBelow f.number all) (IsBelow f.number (raised p all)) (λ q h. below_raised f.number p all q h) (names_in f.value) a.0, falling_raised p all fs a.1)

counts_raised : (q : Place) (cells names : List Place) (fs : List Frozen) → AllByRecursion (λ (f : Frozen). f.count ≡ times_named f.at (cells ++ names)) fs
    → AllByRecursion (λ (f : Frozen). f.count ≡ times_named f.at ((q ∷ cells) ++ names)) (raised q.at fs)
counts_raised q cells names [] a = tt
counts_raised q cells names (f ∷ fs) a = (⊎_elim here there (cases_eq f.at q.at), counts_raised q cells names fs a.1)
  where
    more : List ℕ
    more = map (λ (r : Place). r.at) (cells ++ names)

    Right : Frozen → Type 0
    Right g = g.count ≡ times_named g.at ((q ∷ cells) ++ names)

    here : f.at ≡ q.at → Right (cond (eqb f.at q.at) (with_count f (suc f.count)) f)
    here e =
        let same : eqb f.at q.at ≡ true = grind (arith, nat_tests) in
        let one : times f.at (q.at ∷ more) ≡ 1 + times f.at more = subst (λ p. times f.at (p ∷ more) ≡ 1 + times f.at more) e (times-same f.at more) in
        let now = a.0 in
        subst (λ b. Right (cond b (with_count f (suc f.count)) f)) (sym same) (omega arith)

    there : f.at ≢ q.at → Right (cond (eqb f.at q.at) (with_count f (suc f.count)) f)
    there e =
        let other : eqb f.at q.at ≡ false = grind (arith, nat_tests) in
        let none : times f.at (q.at ∷ more) ≡ times f.at more = times-other f.at q.at more (λ s. e (sym s)) in
        subst (λ b. Right (cond b (with_count f (suc f.count)) f)) (sym other) (a.0 ∙ sym none)

pub shared : (next : ℕ) (fs : List Frozen) (cells : List Place) (q : Place) → IsCounted next fs cells → IsBelow next fs q → IsCounted next (raised q.at fs) (q ∷ cells)
shared next fs cells q c h = record {
  distinct = distinct_raised q.at fs c.distinct;
  numbered = raised_each (λ (f : Frozen). f.number < next) (λ f n a. a) q.at fs c.numbered;
  named = (below_raised next q.at fs q h, each_weaker (IsBelow next fs) (IsBelow next (raised q.at fs)) (λ r k. below_raised next q.at fs r k) cells c.named);
  falling = raised_each (λ (f : Frozen). AllByRecursion (IsBelow f.number (raised q.at fs)) (names_in f.value)) (λ f n a. a) q.at fs (falling_raised q.at fs fs c.falling);
  some = some_raised q.at fs c.some;
  counts = subst (λ ns. AllByRecursion (λ (f : Frozen). f.count ≡ times_named f.at ((q ∷ cells) ++ ns)) (raised q.at fs)) (sym (names_raised q.at fs)) (counts_raised q cells (names_of fs) fs c.counts);
}
  where
    some_raised : (p : ℕ) (gs : List Frozen) → AllByRecursion (λ (f : Frozen). 1 ≤ f.count) gs → AllByRecursion (λ (f : Frozen). 1 ≤ f.count) (raised p gs)
    some_raised p [] a = tt
    some_raised p (g ∷ gs) a = (go (eqb g.at p), some_raised p gs a.1)
      where
        go : (b : Bool) → 1 ≤ (cond b (with_count g (suc g.count)) g).count
        go true = omega arith
        go false = a.0

-- ---- one more object

names_elsewhere : (p : ℕ) (all fs : List Frozen) → AllByRecursion (λ (g : Frozen). g.at ≢ p) all → AllByRecursion (λ (f : Frozen). AllByRecursion (IsBelow f.number all) (names_in f.value)) fs → times_named p (names_of fs) ≡ 0
names_elsewhere p all [] d a = refl
names_elsewhere p all (f ∷ fs) d a =
    named-append p (names_in f.value) (names_of fs)
    ∙ (let first = elsewhere p f.number all (names_in f.value) d a.0 in let rest = names_elsewhere p all fs d a.1 in omega arith)

module _ (next at T : ℕ) (v : Value) (fs : List Frozen) (kept : List Place) (apart : AllByRecursion (λ (g : Frozen). g.at ≢ at) fs) (c : IsCounted next fs (names_in v ++ kept)) where
  abbrev frozen_one : Frozen
  frozen_one = record { at = at; type = T; number = next; count = 1; value = v }

  counts_on : (gs : List Frozen) → AllByRecursion (λ (g : Frozen). g.at ≢ at) gs → AllByRecursion (λ (g : Frozen). g.count ≡ times_named g.at ((names_in v ++ kept) ++ names_of fs)) gs
      → AllByRecursion (λ (g : Frozen). g.count ≡ times_named g.at ((record { at = at; type = T } ∷ kept) ++ (names_in v ++ names_of fs))) gs
  counts_on [] d a = tt
  counts_on (g ∷ gs) d a =
      let all : List Place = kept ++ (names_in v ++ names_of fs) in
      let other = times-other g.at at (map (λ (r : Place). r.at) all) (λ s. d.0 (sym s)) in
      let n1 = named-append g.at (names_in v ++ kept) (names_of fs) in
      let n2 = named-append g.at (names_in v) kept in
      let n3 = named-append g.at kept (names_in v ++ names_of fs) in
      let n4 = named-append g.at (names_in v) (names_of fs) in
      let now = a.0 in
      (omega arith, counts_on gs d.1 a.1)

  alone : 1 ≡ times_named at ((record { at = at; type = T } ∷ kept) ++ (names_in v ++ names_of fs))
  alone =
      let all : List Place = kept ++ (names_in v ++ names_of fs) in
      let mine = times-same at (map (λ (r : Place). r.at) all) in
      let before = elsewhere at next fs (names_in v ++ kept) apart c.named in
      let inside = names_elsewhere at fs fs apart c.falling in
      let n2 = named-append at (names_in v) kept in
      let n3 = named-append at kept (names_in v ++ names_of fs) in
      let n4 = named-append at (names_in v) (names_of fs) in
      omega arith

  falls_on : (gs : List Frozen) → AllByRecursion (λ (g : Frozen). AllByRecursion (IsBelow g.number fs) (names_in g.value)) gs
      → AllByRecursion (λ (g : Frozen). AllByRecursion (IsBelow g.number (frozen_one ∷ fs)) (names_in g.value)) gs
  falls_on [] a = tt
  falls_on (g ∷ gs) a = (each_weaker (IsBelow g.number fs) (IsBelow g.number (frozen_one ∷ fs)) (λ q h. inr h) (names_in g.value) a.0, falls_on gs a.1)

  pub one_frozen : IsCounted (suc next) (frozen_one ∷ fs) (record { at = at; type = T } ∷ kept)
  one_frozen = record {
    distinct = (apart, c.distinct);
    numbered = (omega arith, each_weaker (λ (f : Frozen). f.number < next) (λ (f : Frozen). f.number < suc next) (λ f l. omega arith) fs c.numbered);
    named = (
      inl (refl, refl, omega arith),
      each_weaker (IsBelow next fs) (IsBelow (suc next) (frozen_one ∷ fs)) (λ q h. inr (wider next (suc next) fs q (omega arith) h)) kept (each_right _ (names_in v) kept c.named),
    );
    falling = (each_weaker (IsBelow next fs) (IsBelow next (frozen_one ∷ fs)) (λ q h. inr h) (names_in v) (each_left _ (names_in v) kept c.named), falls_on fs c.falling);
    some = (omega arith, c.some);
    counts = (alone, counts_on fs apart c.counts);
  }
