-- Gaps in order of size, as in the tree of best fit.
use Rattle.std.proofs.Common.{◌≡◌, ◌≢◌, ℕ, ◌+◌, ◌*◌, ◌<◌, ◌≤◌, ◌⊎◌, inl, inr, ⊎_elim, Bool, true, false, List, [], ◌∷◌, ◌++◌, length, cond, leb, Option, Some, None, refl, sym, ap, ◌∙◌, subst, arith}
use Rattle.std.proofs.lemmas.Bool.{cases_lt, cases_eq}
use Rattle.std.proofs.lemmas.Bool.Decides.{nat_tests}
use Rattle.std.specs.List.{AllByRecursion}
use Rattle.seg_spec.specs.Heap.{Span, Tile, span_of, tiles, Fill, free_of, live, gaps, IsHeap, heap_start, is_smaller, insert_by_size, by_size, first_fit, best_fit, smaller, AreBySize}
use Rattle.seg_spec.specs.Sound.{times, positions}
use Rattle.seg_spec.proofs.Values.PlaceFrameLaws.{each_weaker}
use Rattle.seg_spec.proofs.Heap.HeapFrameLaws.{each_by_size}
use Rattle.seg_spec.proofs.Heap.LiveBlockLaws.{times-more, times-same, times-other, not_there, none_there}
use Rattle.seg_spec.proofs.Heap.TileLaws.{gaps_between-live_of}

-- ---- the order of gaps

abbrev pub IsBefore : Span → Span → Type 0
IsBefore g h = (g.units < h.units) ⊎ ((g.units ≡ h.units) × (g.at < h.at))

pub smaller_is : (g h : Span) → is_smaller g h ≡ true → IsBefore g h
smaller_is g h e = grind (arith, nat_tests)

pub not_smaller_is : (g h : Span) → is_smaller g h ≡ false → (h.units < g.units) ⊎ ((g.units ≡ h.units) × (h.at ≤ g.at))
not_smaller_is g h e = grind (arith, nat_tests)

pub is_smaller_if : (g h : Span) → IsBefore g h → is_smaller g h ≡ true
is_smaller_if g h (inl l) = grind (arith, nat_tests)
is_smaller_if g h (inr l) = let a = l.0 in let b = l.1 in grind (arith, nat_tests)

pub not_smaller_if : (g h : Span) → (h.units < g.units) ⊎ ((g.units ≡ h.units) × (h.at ≤ g.at)) → is_smaller g h ≡ false
not_smaller_if g h (inl l) = grind (arith, nat_tests)
not_smaller_if g h (inr l) = let a = l.0 in let b = l.1 in grind (arith, nat_tests)

before_trans : (f g h : Span) → IsBefore f g → IsBefore g h → IsBefore f h
before_trans f g h (inl a) (inl b) = inl (omega arith)
before_trans f g h (inl a) (inr b) = inl (omega (arith, b.0))
before_trans f g h (inr a) (inl b) = inl (omega (arith, a.0))
before_trans f g h (inr a) (inr b) = inr (a.0 ∙ b.0, omega (arith, a.1, b.1))

same_span : (g h : Span) → g.units ≡ h.units → g.at ≡ h.at → g ≡ h
same_span g h e f = λ i. record { at = f i; units = e i }

-- of two gaps, one is before the other, or both are the same
data Compared (g h : Span) : Type 0 where
  before : IsBefore g h → is_smaller g h ≡ true → is_smaller h g ≡ false → Compared g h
  following : IsBefore h g → is_smaller g h ≡ false → is_smaller h g ≡ true → Compared g h
  equal : g ≡ h → is_smaller g h ≡ false → is_smaller h g ≡ false → Compared g h

compare : (g h : Span) → Compared g h
compare g h = go (cases_lt g.units h.units) (cases_lt h.units g.units) (cases_lt g.at h.at) (cases_lt h.at g.at)
  where
    go : (g.units < h.units) ⊎ (h.units ≤ g.units) → (h.units < g.units) ⊎ (g.units ≤ h.units) → (g.at < h.at) ⊎ (h.at ≤ g.at) → (h.at < g.at) ⊎ (g.at ≤ h.at) → Compared g h
    go (inl l) b c d = before (inl l) (is_smaller_if g h (inl l)) (not_smaller_if h g (inl l))
    go (inr l) (inl m) c d = following (inl m) (not_smaller_if g h (inl m)) (is_smaller_if h g (inl m))
    go (inr l) (inr m) (inl c) d = let e : g.units ≡ h.units = omega arith in before (inr (e, c)) (is_smaller_if g h (inr (e, c))) (not_smaller_if h g (inr (sym e, omega arith)))
    go (inr l) (inr m) (inr c) (inl d) = let e : g.units ≡ h.units = omega arith in following (inr (sym e, d)) (not_smaller_if g h (inr (e, omega arith))) (is_smaller_if h g (inr (sym e, d)))
    go (inr l) (inr m) (inr c) (inr d) = let e : g.units ≡ h.units = omega arith in let f : g.at ≡ h.at = omega arith in equal (same_span g h e f) (not_smaller_if g h (inr (e, omega arith))) (not_smaller_if h g (inr (sym e, omega arith)))

-- ---- insertion

insert_first : (g h : Span) (hs : List Span) → is_smaller g h ≡ true → insert_by_size g (h ∷ hs) ≡ g ∷ h ∷ hs
insert_first g h hs e = ap (λ b. cond b (g ∷ h ∷ hs) (h ∷ insert_by_size g hs)) e

insert_later : (g h : Span) (hs : List Span) → is_smaller g h ≡ false → insert_by_size g (h ∷ hs) ≡ h ∷ insert_by_size g hs
insert_later g h hs e = ap (λ b. cond b (g ∷ h ∷ hs) (h ∷ insert_by_size g hs)) e

-- the order in which two gaps are inserted doesn't matter
both_first : (g h : Span) (hs : List Span) → IsBefore g h → insert_by_size g (insert_by_size h hs) ≡ insert_by_size h (insert_by_size g hs)
both_first g h [] l = insert_first g h [] (is_smaller_if g h l) ∙ sym (insert_later h g [] (not_smaller_if h g (turned l)))
  where
    turned : IsBefore g h → (g.units < h.units) ⊎ ((h.units ≡ g.units) × (g.at ≤ h.at))
    turned (inl a) = inl a
    turned (inr a) = inr (sym a.0, omega (arith, a.1))
both_first g h (x ∷ xs) l = go (compare g x) (compare h x) (both_first g h xs l)
  where
    turned : IsBefore g h → (g.units < h.units) ⊎ ((h.units ≡ g.units) × (g.at ≤ h.at))
    turned (inl a) = inl a
    turned (inr a) = inr (sym a.0, omega (arith, a.1))

    h_after_g : is_smaller h g ≡ false
    h_after_g = not_smaller_if h g (turned l)

    -- both gaps are before x
    front : is_smaller h x ≡ true → is_smaller g x ≡ true → insert_by_size g (insert_by_size h (x ∷ xs)) ≡ insert_by_size h (insert_by_size g (x ∷ xs))
    front a b =
        ap (insert_by_size g) (insert_first h x xs a) ∙ insert_first g h (x ∷ xs) (is_smaller_if g h l)
        ∙ sym (ap (insert_by_size h) (insert_first g x xs b) ∙ insert_later h g (x ∷ xs) h_after_g ∙ ap (λ ys. g ∷ ys) (insert_first h x xs a))

    between : is_smaller h x ≡ false → is_smaller g x ≡ true → insert_by_size g (insert_by_size h (x ∷ xs)) ≡ insert_by_size h (insert_by_size g (x ∷ xs))
    between a b =
        ap (insert_by_size g) (insert_later h x xs a) ∙ insert_first g x (insert_by_size h xs) b
        ∙ sym (ap (insert_by_size h) (insert_first g x xs b) ∙ insert_later h g (x ∷ xs) h_after_g ∙ ap (λ ys. g ∷ ys) (insert_later h x xs a))

    after : is_smaller h x ≡ false → is_smaller g x ≡ false → insert_by_size g (insert_by_size h xs) ≡ insert_by_size h (insert_by_size g xs) → insert_by_size g (insert_by_size h (x ∷ xs)) ≡ insert_by_size h (insert_by_size g (x ∷ xs))
    after a b rest =
        ap (insert_by_size g) (insert_later h x xs a) ∙ insert_later g x (insert_by_size h xs) b ∙ ap (λ ys. x ∷ ys) rest
        ∙ sym (ap (insert_by_size h) (insert_later g x xs b) ∙ insert_later h x (insert_by_size g xs) a)

    go : Compared g x → Compared h x → insert_by_size g (insert_by_size h xs) ≡ insert_by_size h (insert_by_size g xs) → insert_by_size g (insert_by_size h (x ∷ xs)) ≡ insert_by_size h (insert_by_size g (x ∷ xs))
    go _ (before p a b) rest = front a (is_smaller_if g x (before_trans g h x l p))
    go (before q c d) (following p a b) rest = between a c
    go (following q c d) (following p a b) rest = after a c rest
    go (equal q c d) (following p a b) rest = after a c rest
    go (before q c d) (equal p a b) rest = between a c
    go (following q c d) (equal p a b) rest = after a c rest
    go (equal q c d) (equal p a b) rest = after a c rest

pub insert-insert : (g h : Span) (hs : List Span) → insert_by_size g (insert_by_size h hs) ≡ insert_by_size h (insert_by_size g hs)
insert-insert g h hs = go (compare g h)
  where
    go : Compared g h → insert_by_size g (insert_by_size h hs) ≡ insert_by_size h (insert_by_size g hs)
    go (before l a b) = both_first g h hs l
    go (following l a b) = sym (both_first h g hs l)
    go (equal e a b) = subst (λ x. insert_by_size g (insert_by_size x hs) ≡ insert_by_size x (insert_by_size g hs)) e refl

-- a gap may be inserted last, wherever it is in the list
pub by_size-middle : (xs : List Span) (g : Span) (ys : List Span) → by_size (xs ++ g ∷ ys) ≡ insert_by_size g (by_size (xs ++ ys))
by_size-middle [] g ys = refl
by_size-middle (x ∷ xs) g ys = ap (insert_by_size x) (by_size-middle xs g ys) ∙ insert-insert x g (by_size (xs ++ ys))

-- ---- each gap once, in order of size

times-insert : (p : ℕ) (g : Span) (hs : List Span) → times p (positions (insert_by_size g hs)) ≡ times p (positions (g ∷ hs))
times-insert p g [] = refl
times-insert p g (h ∷ hs) =
    let rest = times-insert p g hs in
    elim (is_smaller g h) as (λ b. times p (positions (cond b (g ∷ h ∷ hs) (h ∷ insert_by_size g hs))) ≡ times p (positions (g ∷ h ∷ hs))) [ true ↦ refl | false ↦ omega arith ]

pub times-by_size : (p : ℕ) (gs : List Span) → times p (positions (by_size gs)) ≡ times p (positions gs)
times-by_size p [] = refl
times-by_size p (g ∷ gs) = let rest = times-by_size p gs in times-insert p g (by_size gs) ∙ omega arith

module _ (g : Span) where
  -- a gap before the inserted one and before the others is still first in order
  after_head : (h : Span) (hs : List Span) → is_smaller h g ≡ true → AreBySize (h ∷ hs) → AreBySize (insert_by_size g hs) → AreBySize (h ∷ insert_by_size g hs)
  after_head h [] e a b = (e, tt)
  after_head h (x ∷ xs) e a b = go (is_smaller g x) refl
    where
      go : (c : Bool) → is_smaller g x ≡ c → AreBySize (h ∷ insert_by_size g (x ∷ xs))
      go true f = subst (λ ys. AreBySize (h ∷ ys)) (sym (insert_first g x xs f)) (e, subst (λ ys. AreBySize ys) (insert_first g x xs f) b)
      go false f = subst (λ ys. AreBySize (h ∷ ys)) (sym (insert_later g x xs f)) (a.0, subst (λ ys. AreBySize ys) (insert_later g x xs f) b)

  tail_of : (h : Span) (hs : List Span) → AreBySize (h ∷ hs) → AreBySize hs
  tail_of h [] a = tt
  tail_of h (x ∷ xs) a = a.1

  pub insert-in_order : (hs : List Span) → AllByRecursion (λ p. p ≢ g.at) (positions hs) → AreBySize hs → AreBySize (insert_by_size g hs)
  insert-in_order [] ne a = tt
  insert-in_order (h ∷ hs) ne a = go (compare g h) (insert-in_order hs ne.1 (tail_of h hs a))
    where
      go : Compared g h → AreBySize (insert_by_size g hs) → AreBySize (insert_by_size g (h ∷ hs))
      go (before l e f) rest = subst (λ ys. AreBySize ys) (sym (insert_first g h hs e)) (e, a)
      go (following l e f) rest = subst (λ ys. AreBySize ys) (sym (insert_later g h hs e)) (after_head h hs f a rest)
      go (equal s e f) rest = absurd (ne.0 (ap (λ (x : Span). x.at) (sym s)))

none_in_order : (p : ℕ) (gs : List Span) → times p (positions gs) ≡ 0 → AllByRecursion (λ q. q ≢ p) (positions (by_size gs))
none_in_order p gs none = not_there p (positions (by_size gs)) (times-by_size p gs ∙ none)

pub by_size-in_order : (gs : List Span) → ((p : ℕ) → times p (positions gs) ≤ 1) → AreBySize (by_size gs)
by_size-in_order [] once = tt
by_size-in_order (g ∷ gs) once =
    let one = times-same g.at (positions gs) in
    let few = once g.at in
    insert-in_order g (by_size gs) (none_in_order g.at gs (omega arith)) (by_size-in_order gs (λ p. omega (arith, once p, times-more p g.at (positions gs))))

-- ---- the smallest gap that fits is the first in order of size

first_large : (n : ℕ) (k : Span) (ks : List Span) (u : ℕ) (x : Span) → n ≤ k.units → AreBySize (k ∷ ks) → first_fit (k ∷ ks) u ≡ Some x → n ≤ x.units
first_large n k [] u x le b f =
    elim (leb u k.units) as (λ c. cond c (Some k) None ≡ Some x → n ≤ x.units) [ true ↦ (λ e. let s : k ≡ x = cc in subst (λ (y : Span). n ≤ y.units) s le) | false ↦ (λ e. cc) ] f
first_large n k (m ∷ ks) u x le b f =
    let next : k.units ≤ m.units = ⊎_elim (λ l. omega arith) (λ l. omega (arith, l.0)) (smaller_is k m b.0) in
    elim (leb u k.units) as (λ c. cond c (Some k) (first_fit (m ∷ ks) u) ≡ Some x → n ≤ x.units)
    [ true ↦ (λ e. let s : k ≡ x = cc in subst (λ (y : Span). n ≤ y.units) s le) | false ↦ (λ e. first_large n m ks u x (omega arith) b.1 e) ] f

smaller_first : (g : Span) (o : Option Span) → ((x : Span) → o ≡ Some x → g.units ≤ x.units) → smaller g o ≡ Some g
smaller_first g None le = refl
smaller_first g (Some x) le = let l = le x refl in let e : leb g.units x.units ≡ true = grind (arith, nat_tests) in rw e refl

smaller_second : (g h : Span) → h.units < g.units → smaller g (Some h) ≡ Some h
smaller_second g h l = let e : leb g.units h.units ≡ false = grind (arith, nat_tests) in rw e refl

-- the result of a search after a gap was inserted
abbrev Found : Span → List Span → ℕ → Type 0
Found g hs u = first_fit (insert_by_size g hs) u ≡ cond (leb u g.units) (smaller g (first_fit hs u)) (first_fit hs u)

found_before : (g h : Span) (hs : List Span) (u : ℕ) → IsBefore g h → AreBySize (h ∷ hs) → cond (leb u g.units) (Some g) (first_fit (h ∷ hs) u) ≡ cond (leb u g.units) (smaller g (first_fit (h ∷ hs) u)) (first_fit (h ∷ hs) u)
found_before g h hs u l a =
    let le : g.units ≤ h.units = ⊎_elim (λ m. omega arith) (λ m. omega (arith, m.0)) l in
    ap (λ o. cond (leb u g.units) o (first_fit (h ∷ hs) u)) (sym (smaller_first g (first_fit (h ∷ hs) u) (λ x e. first_large g.units h hs u x le a e)))

found_after : (g h : Span) (hs : List Span) (u : ℕ) → h.units < g.units → Found g hs u
    → cond (leb u h.units) (Some h) (first_fit (insert_by_size g hs) u) ≡ cond (leb u g.units) (smaller g (cond (leb u h.units) (Some h) (first_fit hs u))) (cond (leb u h.units) (Some h) (first_fit hs u))
found_after g h hs u l rest = go (cases_lt h.units u)
  where
    go : (h.units < u) ⊎ (u ≤ h.units) → cond (leb u h.units) (Some h) (first_fit (insert_by_size g hs) u) ≡ cond (leb u g.units) (smaller g (cond (leb u h.units) (Some h) (first_fit hs u))) (cond (leb u h.units) (Some h) (first_fit hs u))
    go (inl short) = let e : leb u h.units ≡ false = grind (arith, nat_tests) in rw e rest
    go (inr fits) =
        let e : leb u h.units ≡ true = grind (arith, nat_tests) in
        let f : leb u g.units ≡ true = grind (arith, nat_tests) in
        rw (e, f) (sym (smaller_second g h l))

first_fit-insert : (g : Span) (hs : List Span) (u : ℕ) → AllByRecursion (λ h. g.at < h.at) hs → AreBySize hs → Found g hs u
first_fit-insert g [] u above a = refl
first_fit-insert g (h ∷ hs) u above a = go (compare g h) (first_fit-insert g hs u above.1 (tail_of g h hs a))
  where
    go : Compared g h → Found g hs u → Found g (h ∷ hs) u
    go (before l e f) rest = ap (λ ys. first_fit ys u) (insert_first g h hs e) ∙ found_before g h hs u l a
    go (following (inl l) e f) rest = ap (λ ys. first_fit ys u) (insert_later g h hs e) ∙ found_after g h hs u l rest
    go (following (inr l) e f) rest = absurd (omega (arith, l.1, above.0))
    go (equal s e f) rest = absurd (let at : g.at ≡ h.at = ap (λ (x : Span). x.at) s in omega (arith, above.0))

-- the positions of the gaps rise
abbrev pub AreRisingSpans : List Span → Type 0
AreRisingSpans [] = Unit {0}
AreRisingSpans (g ∷ gs) = AllByRecursion (λ h. g.at < h.at) gs × AreRisingSpans gs

apart_from : (g : Span) (gs : List Span) → AllByRecursion (λ h. g.at < h.at) gs → AllByRecursion (λ p. p ≢ g.at) (positions gs)
apart_from g [] a = tt
apart_from g (h ∷ hs) a = ((λ e. omega (arith, a.0)), apart_from g hs a.1)

rising_once : (gs : List Span) → AreRisingSpans gs → (p : ℕ) → times p (positions gs) ≤ 1
rising_once [] r p = omega arith
rising_once (g ∷ gs) r p = go (cases_eq g.at p) (rising_once gs r.1 p)
  where
    go : (g.at ≡ p) ⊎ (g.at ≢ p) → times p (positions gs) ≤ 1 → times p (positions (g ∷ gs)) ≤ 1
    go (inl e) rest =
        let none = none_there g.at (positions gs) (apart_from g gs r.0) in
        subst (λ q. times q (positions (g ∷ gs)) ≤ 1) e (omega (arith, times-same g.at (positions gs)))
    go (inr ne) rest = omega (arith, times-other p g.at (positions gs) ne)

pub best_fit-first : (gs : List Span) (u : ℕ) → AreRisingSpans gs → best_fit gs u ≡ first_fit (by_size gs) u
best_fit-first [] u r = refl
best_fit-first (g ∷ gs) u r =
    let rest = best_fit-first gs u r.1 in
    let found = first_fit-insert g (by_size gs) u (each_by_size (λ h. g.at < h.at) gs r.0) (by_size-in_order gs (rising_once gs r.1)) in
    ap (λ o. cond (leb u g.units) (smaller g o) o) rest ∙ sym found

-- ---- the gaps of a heap

free_above : (ts : List Tile) (from to : ℕ) → Fill from ts to → AllByRecursion (λ g. from ≤ g.at) (free_of ts)
free_above [] from to f = tt
free_above (t ∷ ts) from to f =
    let rest = each_weaker (λ (g : Span). from + 16 * t.units ≤ g.at) (λ g. from ≤ g.at) (λ g l. omega arith) (free_of ts) (free_above ts (from + 16 * t.units) to f.2) in
    let here : from ≤ t.at = omega (arith, f.0) in
    elim t.live as (λ b. AllByRecursion (λ g. from ≤ g.at) (cond b (free_of ts) (span_of t ∷ free_of ts))) [ true ↦ rest | false ↦ (here, rest) ]

free_rising : (ts : List Tile) (from to : ℕ) → Fill from ts to → AreRisingSpans (free_of ts)
free_rising [] from to f = tt
free_rising (t ∷ ts) from to f =
    let rest = free_rising ts (from + 16 * t.units) to f.2 in
    let above = each_weaker (λ (g : Span). from + 16 * t.units ≤ g.at) (λ g. t.at < g.at) (λ g l. omega (arith, f.0, f.1)) (free_of ts) (free_above ts (from + 16 * t.units) to f.2) in
    elim t.live as (λ b. AreRisingSpans (cond b (free_of ts) (span_of t ∷ free_of ts))) [ true ↦ rest | false ↦ (above, rest) ]

module _ (bytes : List ℕ) (allocator : ℕ) (heap : IsHeap allocator bytes) where
  -- the gaps between the allocated blocks are the free tiles
  pub gaps-free : gaps bytes ≡ free_of (tiles bytes)
  unfolding live
  gaps-free = gaps_between-live_of (tiles bytes) true heap_start (length bytes) heap.filled heap.apart

  pub gaps-rising : AreRisingSpans (gaps bytes)
  gaps-rising = subst (λ gs. AreRisingSpans gs) (sym gaps-free) (free_rising (tiles bytes) heap_start (length bytes) heap.filled)

  pub gaps-once : (p : ℕ) → times p (positions (gaps bytes)) ≤ 1
  gaps-once = rising_once (gaps bytes) gaps-rising

  pub gaps-by_size : AreBySize (by_size (gaps bytes))
  gaps-by_size = by_size-in_order (gaps bytes) gaps-once

-- ---- the position of a gap in the order

-- a gap is inserted after the gaps before it and before the gaps after it
pub insert-placed : (g : Span) (xs ys : List Span) → AllByRecursion (λ h. is_smaller g h ≡ false) xs → AllByRecursion (λ h. is_smaller g h ≡ true) ys → insert_by_size g (xs ++ ys) ≡ xs ++ g ∷ ys
insert-placed g [] [] a b = refl
insert-placed g [] (y ∷ ys) a b = insert_first g y ys b.0
insert-placed g (x ∷ xs) ys a b = insert_later g x (xs ++ ys) a.0 ∙ ap (λ zs. x ∷ zs) (insert-placed g xs ys a.1 b)

head_is : (x y : Span) (xs ys : List Span) → x ∷ xs ≡ y ∷ ys → x ≡ y
head_is x y xs ys e = cc

tail_is : (x y : Span) (xs ys : List Span) → x ∷ xs ≡ y ∷ ys → xs ≡ ys
tail_is x y xs ys e = cc

-- the list before the gap was inserted is the list without it
pub insert-removed : (g : Span) (hs xs ys : List Span) → AllByRecursion (λ p. p ≢ g.at) (positions hs) → insert_by_size g hs ≡ xs ++ g ∷ ys → hs ≡ xs ++ ys
insert-removed g [] [] ys ne e = tail_is g g [] ys e
insert-removed g [] (x ∷ []) ys ne e = let t = tail_is g x [] (g ∷ ys) e in cc
insert-removed g [] (x ∷ z ∷ xs) ys ne e = let t = tail_is g x [] (z ∷ xs ++ g ∷ ys) e in cc
insert-removed g (h ∷ hs) xs ys ne e = go xs (is_smaller g h) refl e (λ zs f. insert-removed g hs zs ys ne.1 f)
  where
    other : h ≡ g → ⊥
    other s = ne.0 (ap (λ (x : Span). x.at) s)

    not_among : (zs : List Span) → h ∷ hs ≡ zs ++ g ∷ ys → ⊥
    not_among zs f = gone (h ∷ hs) zs ne f
      where
        gone : (ks zs : List Span) → AllByRecursion (λ p. p ≢ g.at) (positions ks) → ks ≡ zs ++ g ∷ ys → ⊥
        gone [] [] a f = cc
        gone [] (z ∷ zs) a f = cc
        gone (k ∷ ks) [] a f = a.0 (ap (λ (x : Span). x.at) (head_is k g ks ys f))
        gone (k ∷ ks) (z ∷ zs) a f = gone ks zs a.1 (tail_is k z ks (zs ++ g ∷ ys) f)

    go : (xs : List Span) (b : Bool) → is_smaller g h ≡ b → insert_by_size g (h ∷ hs) ≡ xs ++ g ∷ ys → ((zs : List Span) → insert_by_size g hs ≡ zs ++ g ∷ ys → hs ≡ zs ++ ys) → h ∷ hs ≡ xs ++ ys
    go [] true s f rest = tail_is g g (h ∷ hs) ys (sym (insert_first g h hs s) ∙ f)
    go [] false s f rest = absurd (other (head_is h g (insert_by_size g hs) ys (sym (insert_later g h hs s) ∙ f)))
    go (x ∷ xs) true s f rest = absurd (not_among xs (tail_is g x (h ∷ hs) (xs ++ g ∷ ys) (sym (insert_first g h hs s) ∙ f)))
    go (x ∷ xs) false s f rest =
        let same = sym (insert_later g h hs s) ∙ f in
        let first : h ≡ x = head_is h x (insert_by_size g hs) (xs ++ g ∷ ys) same in
        let more = rest xs (tail_is h x (insert_by_size g hs) (xs ++ g ∷ ys) same) in
        cc
