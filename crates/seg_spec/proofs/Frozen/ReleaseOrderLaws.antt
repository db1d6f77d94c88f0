-- Cells that are released one after the other: the same objects remain, in any order.
use Rattle.std.proofs.Common.{◌≡◌, ◌≢◌, ℕ, zero, suc, ◌+◌, ◌-◌, ◌<◌, ◌≤◌, inl, inr, Bool, true, false, List, [], ◌∷◌, ◌++◌, length, map, cond, eqb, refl, sym, ap, ◌∙◌, subst, arith}
use Rattle.std.specs.List.{AllByRecursion}
use Rattle.std.proofs.lemmas.Bool.Decides.{nat_tests}
use Rattle.std.specs.List.Sorted.{IsPermutation}
use Rattle.std.proofs.lemmas.List.{length-append, append-nil}
use Rattle.std.proofs.lemmas.List.Elements.{All-from_recursion, recursion_from_All}
use Rattle.std.proofs.lemmas.List.Recursion.{is_sum_by}
use Rattle.std.proofs.lemmas.List.Sorted.{All-permutation, sum_by-IsPermutation, length_permutation, IsPermutation-refl}
use Rattle.seg_spec.specs.Reads.{Place}
use Rattle.seg_spec.specs.Frozen.{Frozen}
use Rattle.seg_spec.specs.Shared.{names_in, names_of, times_named, IsBelow, AreDistinct, IsCounted, IsFalling, with_count, kept_with, left}
use Rattle.seg_spec.proofs.Heap.LiveBlockLaws.{times-same, times-other}
use Rattle.seg_spec.proofs.Values.PlaceFrameLaws.{each_weaker, each_left, each_right}
use Rattle.seg_spec.proofs.Images.LooseRootLaws.{each_joined}
use Rattle.seg_spec.specs.Releasing.{lowered, names_with, let_go, Releases, no_turn, one_turn}
use Rattle.seg_spec.proofs.Frozen.SharedLaws.{named-append, NamesLater, names_later, first_unnamed, wider}

named_same : (p : ℕ) (q : Place) (qs : List Place) → q.at ≡ p → times_named p (q ∷ qs) ≡ 1 + times_named p qs
named_same p q qs e = subst (λ x. times_named x (q ∷ qs) ≡ 1 + times_named x qs) e (times-same q.at (map (λ (r : Place). r.at) qs))

named_other : (p : ℕ) (q : Place) (qs : List Place) → q.at ≢ p → times_named p (q ∷ qs) ≡ times_named p qs
named_other p q qs e = times-other p q.at (map (λ (r : Place). r.at) qs) e

-- ---- whether an object remains depends on the number of its cells

abbrev NamedEqually : List Place → List Place → List Frozen → Type 0
NamedEqually xs ys fs = AllByRecursion (λ (f : Frozen). times_named f.at xs ≡ times_named f.at ys) fs

pub everywhere : (xs ys : List Place) (fs : List Frozen) → ((p : ℕ) → times_named p xs ≡ times_named p ys) → NamedEqually xs ys fs
everywhere xs ys [] same = tt
everywhere xs ys (f ∷ fs) same = (same f.at, everywhere xs ys fs same)

kept_same : (f : Frozen) (n m : ℕ) (fs gs hs ks : List Frozen) → n ≡ m → fs ≡ gs → hs ≡ ks → kept_with f n fs hs ≡ kept_with f m gs ks
kept_same f n m fs gs hs ks count goes stays = ap (λ k. kept_with f k fs hs) count ∙ ap (λ rs. kept_with f m rs hs) goes ∙ ap (λ rs. kept_with f m gs rs) stays

counted_anew : (f : Frozen) (n m : ℕ) (fs gs : List Frozen) → kept_with (with_count f n) m fs gs ≡ kept_with f m fs gs
counted_anew f n zero fs gs = refl
counted_anew f n (suc m) fs gs = refl

pub left_same : (xs ys : List Place) (fs : List Frozen) → NamedEqually xs ys fs → left xs fs ≡ left ys fs
left_same xs ys [] a = refl
left_same xs ys (f ∷ fs) a =
    let ns = names_in f.value in
    let more : NamedEqually (xs ++ ns) (ys ++ ns) fs =
    each_weaker _ (λ (g : Frozen). times_named g.at (xs ++ ns) ≡ times_named g.at (ys ++ ns))
    (λ g e. let x = named-append g.at xs ns in let y = named-append g.at ys ns in omega arith) fs a.1 in
    kept_same f (f.count - times_named f.at xs) (f.count - times_named f.at ys) (left (xs ++ ns) fs) (left (ys ++ ns) fs) (left xs fs) (left ys fs)
    (ap (λ n. f.count - n) a.0) (left_same (xs ++ ns) (ys ++ ns) fs more) (left_same xs ys fs a.1)

-- ---- the targets of the objects after a step

-- a sum over the targets of all objects, with one object taken out
pub names_apart : (size : List Place → ℕ) → size [] ≡ 0 → ((xs ys : List Place) → size (xs ++ ys) ≡ size xs + size ys) → (p : ℕ) (fs : List Frozen)
    → size (let_go p fs) + size (names_of (lowered p fs)) ≡ size (names_of fs)
names_apart size none joined p [] = omega arith
names_apart size none joined p (f ∷ fs) = go (eqb f.at p) (names_apart size none joined p fs)
  where
    here : (n : ℕ) → size (names_with f n) + size (names_of (kept_with f n fs fs)) ≡ size (names_of (f ∷ fs))
    here zero = sym (joined (names_in f.value) (names_of fs))
    here (suc n) = omega arith

    go : (b : Bool) → size (let_go p fs) + size (names_of (lowered p fs)) ≡ size (names_of fs)
        → size (cond b (names_with f (f.count - 1)) (let_go p fs)) + size (names_of (cond b (kept_with f (f.count - 1) fs fs) (f ∷ lowered p fs))) ≡ size (names_of (f ∷ fs))
    go true rest = here (f.count - 1)
    go false rest = let x = joined (names_in f.value) (names_of (lowered p fs)) in let y = joined (names_in f.value) (names_of fs) in omega arith

named_apart : (r p : ℕ) (fs : List Frozen) → times_named r (let_go p fs) + times_named r (names_of (lowered p fs)) ≡ times_named r (names_of fs)
named_apart r p fs = names_apart (times_named r) refl (named-append r) p fs

-- ---- a step doesn't change which objects remain

pub turn_same : (q : Place) (rest : List Place) (fs : List Frozen) → AreDistinct fs → NamesLater fs → left (q ∷ rest) fs ≡ left (rest ++ let_go q.at fs) (lowered q.at fs)
unfolding NamesLater
turn_same q rest [] d l = refl
turn_same q rest (f ∷ fs) d l = go (eqb f.at q.at) refl (turn_same q rest fs d.1 l.1) (turn_same q (rest ++ names_in f.value) fs d.1 l.1)
  where
    ns : List Place
    ns = names_in f.value

    apart : f.at ≡ q.at → (xs : List Place) → NamedEqually (q ∷ xs) xs fs
    apart same xs = each_weaker (λ (g : Frozen). g.at ≢ f.at) (λ (g : Frozen). times_named g.at (q ∷ xs) ≡ times_named g.at xs) (λ g other. named_other g.at q xs (λ e. other (sym e ∙ sym same))) fs d.0

    last : f.at ≡ q.at → (n : ℕ) → f.count - 1 ≡ n → left (q ∷ rest) (f ∷ fs) ≡ left (rest ++ names_with f n) (kept_with f n fs fs)
    last same zero e =
        let one = named_same f.at q rest (sym same) in
        ap (λ n. kept_with f n (left ((q ∷ rest) ++ ns) fs) (left (q ∷ rest) fs)) (let none : f.count - times_named f.at (q ∷ rest) ≡ 0 = omega arith in none)
        ∙ left_same (q ∷ (rest ++ ns)) (rest ++ ns) fs (apart same (rest ++ ns))
    last same (suc n) e =
        let one = named_same f.at q rest (sym same) in
        let fewer : f.count - times_named f.at (q ∷ rest) ≡ suc n - times_named f.at rest = omega arith in
        subst (λ xs. left (q ∷ rest) (f ∷ fs) ≡ left xs (with_count f (suc n) ∷ fs)) (sym (append-nil rest))
        (kept_same f (f.count - times_named f.at (q ∷ rest)) (suc n - times_named f.at rest) (left (q ∷ (rest ++ ns)) fs) (left (rest ++ ns) fs) (left (q ∷ rest) fs) (left rest fs)
        fewer (left_same (q ∷ (rest ++ ns)) (rest ++ ns) fs (apart same (rest ++ ns))) (left_same (q ∷ rest) rest fs (apart same rest))
        ∙ sym (counted_anew f (suc n) (suc n - times_named f.at rest) (left (rest ++ ns) fs) (left rest fs)))

    go : (b : Bool) → eqb f.at q.at ≡ b → left (q ∷ rest) fs ≡ left (rest ++ let_go q.at fs) (lowered q.at fs)
        → left (q ∷ (rest ++ ns)) fs ≡ left ((rest ++ ns) ++ let_go q.at fs) (lowered q.at fs)
        → left (q ∷ rest) (f ∷ fs) ≡ left (rest ++ cond b (names_with f (f.count - 1)) (let_go q.at fs)) (cond b (kept_with f (f.count - 1) fs fs) (f ∷ lowered q.at fs))
    go true e stays goes = last (let same : f.at ≡ q.at = grind (arith, nat_tests) in same) (f.count - 1) refl
    go false e stays goes =
        let other : f.at ≢ q.at = grind (arith, nat_tests) in
        let own = first_unnamed f fs d.0 l in
        let parts = named_apart f.at q.at fs in
        let inner = named-append f.at ns (names_of fs) in
        let more = named-append f.at rest (let_go q.at fs) in
        let here = named_other f.at q rest (λ s. other (sym s)) in
        let equal : times_named f.at (q ∷ rest) ≡ times_named f.at (rest ++ let_go q.at fs) = omega arith in
        kept_same f (f.count - times_named f.at (q ∷ rest)) (f.count - times_named f.at (rest ++ let_go q.at fs)) (left (q ∷ (rest ++ ns)) fs) (left ((rest ++ let_go q.at fs) ++ ns) (lowered q.at fs))
        (left (q ∷ rest) fs) (left (rest ++ let_go q.at fs) (lowered q.at fs))
        (ap (λ n. f.count - n) equal)
        (goes ∙ left_same ((rest ++ ns) ++ let_go q.at fs) ((rest ++ let_go q.at fs) ++ ns) (lowered q.at fs) (everywhere _ _ (lowered q.at fs) swapped))
        stays
      where
        swapped : (p : ℕ) → times_named p ((rest ++ ns) ++ let_go q.at fs) ≡ times_named p ((rest ++ let_go q.at fs) ++ ns)
        swapped p =
            let a = named-append p (rest ++ ns) (let_go q.at fs) in
            let b = named-append p rest ns in
            let c = named-append p (rest ++ let_go q.at fs) ns in
            let d = named-append p rest (let_go q.at fs) in
            omega arith

-- ---- one step

module _ (P : Frozen → Type 0) (whatever : (f : Frozen) (n : ℕ) → P f → P (with_count f (suc n))) where
  lowered_each : (p : ℕ) (fs : List Frozen) → AllByRecursion P fs → AllByRecursion P (lowered p fs)
  lowered_each p [] a = tt
  lowered_each p (f ∷ fs) a = go (eqb f.at p) (lowered_each p fs a.1)
    where
      here : (n : ℕ) → AllByRecursion P (kept_with f n fs fs)
      here zero = a.1
      here (suc n) = (whatever f n a.0, a.1)

      go : (b : Bool) → AllByRecursion P (lowered p fs) → AllByRecursion P (cond b (kept_with f (f.count - 1) fs fs) (f ∷ lowered p fs))
      go true rest = here (f.count - 1)
      go false rest = (a.0, rest)

distinct_lowered : (p : ℕ) (fs : List Frozen) → AreDistinct fs → AreDistinct (lowered p fs)
distinct_lowered p [] d = tt
distinct_lowered p (f ∷ fs) d = go (eqb f.at p) (distinct_lowered p fs d.1)
  where
    here : (n : ℕ) → AreDistinct (kept_with f n fs fs)
    here zero = d.1
    here (suc n) = d

    go : (b : Bool) → AreDistinct (lowered p fs) → AreDistinct (cond b (kept_with f (f.count - 1) fs fs) (f ∷ lowered p fs))
    go true rest = here (f.count - 1)
    go false rest = (lowered_each (λ (g : Frozen). g.at ≢ f.at) (λ g n h. h) p fs d.0, rest)

pub falling_lowered : (p : ℕ) (fs : List Frozen) → IsFalling fs → IsFalling (lowered p fs)
falling_lowered p [] d = tt
falling_lowered p (f ∷ fs) d = go (eqb f.at p) (falling_lowered p fs d.1)
  where
    here : (n : ℕ) → IsFalling (kept_with f n fs fs)
    here zero = d.1
    here (suc n) = d

    go : (b : Bool) → IsFalling (lowered p fs) → IsFalling (cond b (kept_with f (f.count - 1) fs fs) (f ∷ lowered p fs))
    go true rest = here (f.count - 1)
    go false rest = (lowered_each (λ (g : Frozen). g.number ≤ f.number) (λ g n h. h) p fs d.0, rest)

some_lowered : (p : ℕ) (fs : List Frozen) → AllByRecursion (λ (f : Frozen). 1 ≤ f.count) fs → AllByRecursion (λ (f : Frozen). 1 ≤ f.count) (lowered p fs)
some_lowered p fs a = lowered_each (λ (f : Frozen). 1 ≤ f.count) (λ f n h. omega arith) p fs a

-- the object at p counts the released cell and each of these cells
abbrev CountsBeside : ℕ → List Place → List Frozen → Type 0
CountsBeside p names fs = AllByRecursion (λ (f : Frozen). f.at ≡ p → 1 + times_named p names ≤ f.count) fs

-- an object with another cell remains
below_lowered : (n p : ℕ) (fs : List Frozen) (q : Place) → AllByRecursion (λ (f : Frozen). f.at ≡ p → q.at ≡ p → 2 ≤ f.count) fs → IsBelow n fs q → IsBelow n (lowered p fs) q
below_lowered n p [] q a h = h
below_lowered n p (f ∷ fs) q a h = go (eqb f.at p) refl h (λ k. below_lowered n p fs q a.1 k)
  where
    here : f.at ≡ p → (k : ℕ) → f.count - 1 ≡ k → IsBelow n (f ∷ fs) q → IsBelow n (kept_with f k fs fs) q
    here same zero e (inl at) = absurd (let two = a.0 same (sym at.0 ∙ same) in omega arith)
    here same zero e (inr later) = later
    here same (suc k) e b = b

    go : (b : Bool) → eqb f.at p ≡ b → IsBelow n (f ∷ fs) q → (IsBelow n fs q → IsBelow n (lowered p fs) q) → IsBelow n (cond b (kept_with f (f.count - 1) fs fs) (f ∷ lowered p fs)) q
    go true e b rest = here (let same : f.at ≡ p = grind (arith, nat_tests) in same) (f.count - 1) refl b
    go false e (inl at) rest = inl at
    go false e (inr later) rest = inr (rest later)

each_lowered : (n p : ℕ) (fs : List Frozen) (qs : List Place) → CountsBeside p qs fs → AllByRecursion (IsBelow n fs) qs → AllByRecursion (IsBelow n (lowered p fs)) qs
each_lowered n p fs [] c a = tt
each_lowered n p fs (q ∷ qs) c a = (
  below_lowered n p fs q (each_weaker _ (λ (f : Frozen). f.at ≡ p → q.at ≡ p → 2 ≤ f.count) (λ f more e s. let one = named_same p q qs s in let beside = more e in omega arith) fs c) a.0,
  each_lowered n p fs qs (each_weaker _ (λ (f : Frozen). f.at ≡ p → 1 + times_named p qs ≤ f.count) (λ f more e. let beside = more e in omega arith) fs c) a.1,
)

fewer_beside : (p : ℕ) (xs ys : List Place) (fs : List Frozen) → times_named p xs ≤ times_named p ys → CountsBeside p ys fs → CountsBeside p xs fs
fewer_beside p xs ys fs fewer c = each_weaker _ (λ (f : Frozen). f.at ≡ p → 1 + times_named p xs ≤ f.count) (λ f more e. let beside = more e in omega arith) fs c

falls_on : (p : ℕ) (all fs : List Frozen) → CountsBeside p (names_of fs) all → AllByRecursion (λ (f : Frozen). AllByRecursion (IsBelow f.number all) (names_in f.value)) fs
    → AllByRecursion (λ (f : Frozen). AllByRecursion (IsBelow f.number (lowered p all)) (names_in f.value)) fs
falls_on p all [] c a = tt
falls_on p all (f ∷ fs) c a =
    let parts = named-append p (names_in f.value) (names_of fs) in
    (each_lowered f.number p all (names_in f.value) (fewer_beside p (names_in f.value) (names_of (f ∷ fs)) all (omega arith) c) a.0, falls_on p all fs (fewer_beside p (names_of fs) (names_of (f ∷ fs)) all (omega arith) c) a.1)

let_go_named : (next p : ℕ) (all fs : List Frozen) → AllByRecursion (λ (f : Frozen). f.number < next) fs → AllByRecursion (λ (f : Frozen). AllByRecursion (IsBelow f.number all) (names_in f.value)) fs
    → AllByRecursion (IsBelow next all) (let_go p fs)
let_go_named next p all [] n a = tt
let_go_named next p all (f ∷ fs) n a = go (eqb f.at p) (let_go_named next p all fs n.1 a.1)
  where
    here : (k : ℕ) → AllByRecursion (IsBelow next all) (names_with f k)
    here zero = each_weaker (IsBelow f.number all) (IsBelow next all) (λ q h. wider f.number next all q (let less = n.0 in omega arith) h) (names_in f.value) a.0
    here (suc k) = tt

    go : (b : Bool) → AllByRecursion (IsBelow next all) (let_go p fs) → AllByRecursion (IsBelow next all) (cond b (names_with f (f.count - 1)) (let_go p fs))
    go true rest = here (f.count - 1)
    go false rest = rest

counts_lowered : (q : Place) (names : List Place) (fs : List Frozen) → AreDistinct fs → AllByRecursion (λ (f : Frozen). f.count ≡ times_named f.at (q ∷ []) + times_named f.at names) fs
    → AllByRecursion (λ (f : Frozen). f.count ≡ times_named f.at names) (lowered q.at fs)
counts_lowered q names [] d a = tt
counts_lowered q names (f ∷ fs) d a = go (eqb f.at q.at) refl (counts_lowered q names fs d.1 a.1)
  where
    Counts : List Frozen → Type 0
    Counts gs = AllByRecursion (λ (g : Frozen). g.count ≡ times_named g.at names) gs

    unchanged : (g : Frozen) → q.at ≢ g.at → g.count ≡ times_named g.at (q ∷ []) + times_named g.at names → g.count ≡ times_named g.at names
    unchanged g other e = let none = named_other g.at q [] other in omega arith

    others : f.at ≡ q.at → (gs : List Frozen) → AllByRecursion (λ (g : Frozen). g.at ≢ f.at) gs → AllByRecursion (λ (g : Frozen). g.count ≡ times_named g.at (q ∷ []) + times_named g.at names) gs → Counts gs
    others same [] apart b = tt
    others same (g ∷ gs) apart b = (unchanged g (λ e. apart.0 (sym e ∙ sym same)) b.0, others same gs apart.1 b.1)

    here : f.at ≡ q.at → (n : ℕ) → f.count - 1 ≡ n → Counts (kept_with f n fs fs)
    here same zero e = others same fs d.0 a.1
    here same (suc n) e = ((let one = named_same f.at q [] (sym same) in let now = a.0 in omega arith), others same fs d.0 a.1)

    go : (b : Bool) → eqb f.at q.at ≡ b → Counts (lowered q.at fs) → Counts (cond b (kept_with f (f.count - 1) fs fs) (f ∷ lowered q.at fs))
    go true e rest = here (let same : f.at ≡ q.at = grind (arith, nat_tests) in same) (f.count - 1) refl
    go false e rest = (unchanged f (let other : q.at ≢ f.at = grind (arith, nat_tests) in other) a.0, rest)

module _ (next : ℕ) (q : Place) (rest kept : List Place) (fs : List Frozen) (c : IsCounted next fs ((q ∷ rest) ++ kept)) where
  abbrev cells : List Place
  cells = (rest ++ let_go q.at fs) ++ kept

  abbrev all_names : List Place
  all_names = cells ++ names_of (lowered q.at fs)

  -- all targets before the step, without the released one
  one_fewer : (r : ℕ) → times_named r (((q ∷ rest) ++ kept) ++ names_of fs) ≡ times_named r (q ∷ []) + times_named r all_names
  one_fewer r =
      let a = named-append r (q ∷ []) ((rest ++ kept) ++ names_of fs) in
      let b = named-append r (rest ++ kept) (names_of fs) in
      let c = named-append r rest kept in
      let d = named-append r cells (names_of (lowered q.at fs)) in
      let e = named-append r (rest ++ let_go q.at fs) kept in
      let f = named-append r rest (let_go q.at fs) in
      let g = named_apart r q.at fs in
      omega arith

  shares : AllByRecursion (λ (f : Frozen). f.count ≡ times_named f.at (q ∷ []) + times_named f.at all_names) fs
  shares = each_weaker _ (λ (f : Frozen). f.count ≡ times_named f.at (q ∷ []) + times_named f.at all_names) (λ f e. e ∙ one_fewer f.at) fs c.counts

  beside : CountsBeside q.at all_names fs
  beside = each_weaker _ (λ (f : Frozen). f.at ≡ q.at → 1 + times_named q.at all_names ≤ f.count)
      (λ f e same. let one = named_same f.at q [] (sym same) in
      subst (λ r. 1 + times_named r all_names ≤ f.count) same (omega arith)) fs shares

  pub counted_next : IsCounted next (lowered q.at fs) cells
  counted_next =
      let parts = named-append q.at cells (names_of (lowered q.at fs)) in
      let joining = let_go_named next q.at fs fs c.numbered c.falling in
      let pending = each_joined (IsBelow next fs) rest (let_go q.at fs) (each_left _ rest kept c.named.1) joining in
      let named = each_joined (IsBelow next fs) (rest ++ let_go q.at fs) kept pending (each_right _ rest kept c.named.1) in
      let falling = lowered_each (λ (f : Frozen). AllByRecursion (IsBelow f.number fs) (names_in f.value)) (λ f n h. h) q.at fs c.falling in
      record {
        distinct = distinct_lowered q.at fs c.distinct;
        numbered = lowered_each (λ (f : Frozen). f.number < next) (λ f n h. h) q.at fs c.numbered;
        named = each_lowered next q.at fs cells (fewer_beside q.at _ all_names fs (omega arith) beside) named;
        falling = falls_on q.at fs (lowered q.at fs) (fewer_beside q.at _ all_names fs (omega arith) beside) falling;
        some = some_lowered q.at fs c.some;
        counts = counts_lowered q all_names fs c.distinct shares;
      }

-- ---- the targets in another order

named_permuted : (p : ℕ) (xs ys : List Place) → IsPermutation xs ys → times_named p ys ≡ times_named p xs
named_permuted p xs ys s =
    let one : Place → ℕ = λ q. cond (eqb q.at p) 1 0 in
    is_sum_by (times_named p) one refl (λ q qs. refl) ys ∙ sum_by-IsPermutation one xs ys s ∙ sym (is_sum_by (times_named p) one refl (λ q qs. refl) xs)

each_permuted : (P : Place → Type 0) (xs ys : List Place) → IsPermutation xs ys → AllByRecursion P xs → AllByRecursion P ys
each_permuted P xs ys s a = recursion_from_All P ys (All-permutation P xs ys s (All-from_recursion P xs a))

counted_permuted : (next : ℕ) (xs ys kept : List Place) (fs : List Frozen) → IsPermutation xs ys → IsCounted next fs (xs ++ kept) → IsCounted next fs (ys ++ kept)
counted_permuted next xs ys kept fs s c = record {
  distinct = c.distinct;
  numbered = c.numbered;
  named = each_joined (IsBelow next fs) ys kept (each_permuted (IsBelow next fs) xs ys s (each_left _ xs kept c.named)) (each_right _ xs kept c.named);
  falling = c.falling;
  some = c.some;
  counts = each_weaker _ (λ (f : Frozen). f.count ≡ times_named f.at ((ys ++ kept) ++ names_of fs)) (λ f e. e ∙ same f.at) fs c.counts;
}
  where
    same : (p : ℕ) → times_named p ((xs ++ kept) ++ names_of fs) ≡ times_named p ((ys ++ kept) ++ names_of fs)
    same p =
        let a = named-append p (xs ++ kept) (names_of fs) in
        let b = named-append p xs kept in
        let c = named-append p (ys ++ kept) (names_of fs) in
        let d = named-append p ys kept in
        let e = named_permuted p xs ys s in
        omega arith

-- ---- all steps

pub none_gone : (fs : List Frozen) → AllByRecursion (λ (f : Frozen). 1 ≤ f.count) fs → left [] fs ≡ fs
none_gone [] a = refl
none_gone (f ∷ fs) a =
    let there = a.0 in
    let whole : f.count - times_named f.at [] ≡ suc (f.count - 1) = omega arith in
    let again : suc (f.count - 1) ≡ f.count = omega arith in
    ap (λ n. kept_with f n (left (names_in f.value) fs) (left [] fs)) whole ∙ ap (λ n. with_count f n ∷ left [] fs) again ∙ ap (λ rs. f ∷ rs) (none_gone fs a.1)

module _ (next : ℕ) (kept gone : List Place) (frozen : List Frozen) (falling : IsFalling frozen) (counted : IsCounted next frozen (gone ++ kept)) where
  pub counted_on : (turns : ℕ) (pending : List Place) (now : List Frozen) → Releases gone frozen turns pending now → IsFalling now × IsCounted next now (pending ++ kept)
  counted_on turns pending now no_turn = (falling, counted)
  counted_on turns pending now (one_turn {turns = before} {pending = names} {rest = rest} {name = q} {now = fs} r s) =
      let known = counted_on before names fs r in
      (falling_lowered q.at fs known.0, counted_next next q rest kept fs (counted_permuted next names (q ∷ rest) kept fs s known.1))

  same_left : (turns : ℕ) (pending : List Place) (now : List Frozen) → Releases gone frozen turns pending now → left pending now ≡ left gone frozen
  same_left turns pending now no_turn = refl
  same_left turns pending now (one_turn {turns = before} {pending = names} {rest = rest} {name = q} {now = fs} r s) =
      let known = counted_on before names fs r in
      sym (turn_same q rest fs known.1.distinct (names_later fs known.0 known.1.falling))
      ∙ left_same (q ∷ rest) names fs (everywhere (q ∷ rest) names fs (λ p. named_permuted p names (q ∷ rest) s)) ∙ same_left before names fs r

  pub left_at_last : (turns : ℕ) (result : List Frozen) → Releases gone frozen turns [] result → result ≡ left gone frozen
  left_at_last turns result r = sym (none_gone result (counted_on turns [] result r).1.some) ∙ same_left turns [] result r

module _ (gone : List Place) (frozen : List Frozen) where
  pub one_name_a_turn : (turns : ℕ) (pending : List Place) (now : List Frozen) → Releases gone frozen turns pending now
      → turns + length pending + length (names_of now) ≡ length gone + length (names_of frozen)
  one_name_a_turn turns pending now no_turn = omega arith
  one_name_a_turn turns pending now (one_turn {turns = before} {pending = names} {rest = rest} {name = q} {now = fs} r s) =
      let earlier = one_name_a_turn before names fs r in
      let picked = length_permutation names (q ∷ rest) s in
      let joined = length-append rest (let_go q.at fs) in
      let parts = names_apart length refl length-append q.at fs in
      omega arith

  go_on : (most turns : ℕ) (pending : List Place) (now : List Frozen) → length pending + length (names_of now) ≤ most → Releases gone frozen turns pending now
      → (all : ℕ) × (result : List Frozen) × Releases gone frozen all [] result
  go_on most turns [] now few r = (turns, now, r)
  go_on zero turns (q ∷ rest) now few r = absurd (omega arith)
  go_on (suc most) turns (q ∷ rest) now few r =
      let joined = length-append rest (let_go q.at now) in
      let parts = names_apart length refl length-append q.at now in
      go_on most (suc turns) (rest ++ let_go q.at now) (lowered q.at now) (omega arith) (one_turn r (IsPermutation-refl (q ∷ rest)))

  pub to_the_end : (turns : ℕ) × (result : List Frozen) × Releases gone frozen turns [] result
  to_the_end = go_on (length gone + length (names_of frozen)) 0 gone frozen (omega arith) no_turn
