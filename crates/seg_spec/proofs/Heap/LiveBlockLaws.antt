-- Allocated blocks: where they lie, and how often each occurs in a list.
use Rattle.std.proofs.Common.{◌≡◌, ◌≢◌, ℕ, ◌+◌, ◌*◌, ◌%◌, ◌≤◌, ◌⊎◌, inl, inr, ⊎_elim, true, false, List, [], ◌∷◌, ◌++◌, length, cond, eqb, refl, sym, ap, ◌∙◌, subst, arith}
use Rattle.std.specs.Prelude.{nat_lt}
use Rattle.std.specs.List.{AllByRecursion}
use Rattle.std.proofs.lemmas.Bool.Decides.{nat_tests}
use Rattle.std.proofs.lemmas.Bool.{cases_eq}
use Rattle.seg_spec.specs.Heap.{Tile, Span, span_of, units_at, is_live_at, tiles, Fill, AreHeaders, live_of, live, IsHeap, heap_start, with_block, without, resized}
use Rattle.seg_spec.specs.Block.{payload_end}
use Rattle.seg_spec.specs.Apart.{Separate, BlocksApart}
use Rattle.seg_spec.specs.Sound.{times, SameBlocks, positions}
use Rattle.seg_spec.proofs.Heap.TileLaws.{Fill-le}
use Rattle.seg_spec.proofs.Values.PlaceFrameLaws.{each_weaker, each_both}

-- ---- counts of blocks in lists

pub times-append : (h : ℕ) (xs ys : List ℕ) → times h (xs ++ ys) ≡ times h xs + times h ys
times-append h [] ys = omega arith
times-append h (x ∷ xs) ys = let rest = times-append h xs ys in omega arith

pub times-same : (h : ℕ) (xs : List ℕ) → times h (h ∷ xs) ≡ 1 + times h xs
times-same h xs = grind (arith, nat_tests)

pub times-other : (h x : ℕ) (xs : List ℕ) → x ≢ h → times h (x ∷ xs) ≡ times h xs
times-other h x xs ne = grind (arith, nat_tests)

pub times-more : (h x : ℕ) (xs : List ℕ) → times h xs ≤ times h (x ∷ xs)
times-more h x xs = omega arith

pub not_there : (h : ℕ) (xs : List ℕ) → times h xs ≡ 0 → AllByRecursion (λ x. x ≢ h) xs
not_there h [] e = tt
not_there h (x ∷ xs) e = ((λ same. let one = times-same h xs in let again : times h (h ∷ xs) ≡ 0 = subst (λ y. times h (y ∷ xs) ≡ 0) same e in absurd (omega arith)), not_there h xs (omega (arith, times-more h x xs)))

pub none_there : (h : ℕ) (xs : List ℕ) → AllByRecursion (λ x. x ≢ h) xs → times h xs ≡ 0
none_there h [] a = refl
none_there h (x ∷ xs) a = times-other h x xs a.0 ∙ none_there h xs a.1

pub there : (P : ℕ → Type 0) (h : ℕ) (xs : List ℕ) → AllByRecursion P xs → 1 ≤ times h xs → P h
there P h [] a n = absurd (omega arith)
there P h (x ∷ xs) a n = ⊎_elim (λ e. subst P e a.0) (λ other. there P h xs a.1 (omega (arith, times-other h x xs other))) (cases_eq x h)

pub each_there : (P : ℕ → Type 0) (xs : List ℕ) → ((h : ℕ) → 1 ≤ times h xs → P h) → AllByRecursion P xs
each_there P [] f = tt
each_there P (x ∷ xs) f = (f x (omega (arith, times-same x xs)), each_there P xs (λ h n. f h (omega (arith, times-more h x xs))))

-- a fact about each block of one list is a fact about each block of a list with the same blocks
pub each_same : (P : ℕ → Type 0) (xs ys : List ℕ) → SameBlocks xs ys → AllByRecursion P xs → AllByRecursion P ys
each_same P xs ys same a = each_there P ys (λ h n. there P h xs a (omega (arith, same h)))

-- ---- the allocated blocks of a heap

-- two blocks are the same, or don't overlap
abbrev pub OneOrApart : List ℕ → ℕ → ℕ → Type 0
OneOrApart bytes s t = (t ≡ s) ⊎ Separate s (16 * units_at bytes s) t (16 * units_at bytes t)

-- an allocated block of at least 2 units lies in the heap
pub record LiesIn (bytes : List ℕ) (from to h : ℕ) : Type 0 where
  pub low : from ≤ h
  pub aligned : h % 16 ≡ 0
  pub size : 2 ≤ units_at bytes h
  pub high : payload_end bytes h ≤ to
  pub live_is : is_live_at bytes h ≡ true

module _ (bytes : List ℕ) where
  -- the facts about the allocated tiles from a position on
  pub record LiveFacts (from to : ℕ) (hs : List ℕ) : Type 0 where
    pub lie : AllByRecursion (LiesIn bytes from to) hs
    pub apart : AllByRecursion (λ h. AllByRecursion (OneOrApart bytes h) hs) hs
    pub once : (h : ℕ) → times h hs ≤ 1

  further : (from more to : ℕ) (hs : List ℕ) → AllByRecursion (LiesIn bytes (from + more) to) hs → AllByRecursion (LiesIn bytes from to) hs
  further from more to hs a = each_weaker _ _ (λ h l. record { low = omega (arith, l.low); aligned = l.aligned; size = l.size; high = l.high; live_is = l.live_is }) hs a

  following : (from more to h : ℕ) (hs : List ℕ) → 1 ≤ more → h ≤ from → AllByRecursion (LiesIn bytes (from + more) to) hs → AllByRecursion (λ x. x ≢ h) hs
  following from more to h hs some le a = each_weaker _ _ (λ x l e. omega (arith, l.low)) hs a

  once_more : (from u to at h : ℕ) (hs : List ℕ) → at ≡ from → 1 ≤ u → LiveFacts (from + 16 * u) to hs → times h (at ∷ hs) ≤ 1
  once_more from u to at h hs at_is some f = go (cases_eq at h)
    where
      go : (at ≡ h) ⊎ (at ≢ h) → times h (at ∷ hs) ≤ 1
      go (inl e) =
          let none = none_there h hs (following from (16 * u) to h hs (omega arith) (omega arith) f.lie) in
          subst (λ x. times h (x ∷ hs) ≤ 1) (sym e) (omega (arith, times-same h hs))
      go (inr other) = omega (arith, times-other h at hs other, f.once h)

  one_more : (from u to at : ℕ) (hs : List ℕ) → at ≡ from → from % 16 ≡ 0 → 2 ≤ u → units_at bytes at ≡ u → is_live_at bytes at ≡ true → from + 16 * u ≤ to → LiveFacts (from + 16 * u) to hs → LiveFacts from to (at ∷ hs)
  one_more from u to at hs at_is aligned some units live_is fits f = record {
    lie = (record { low = omega arith; aligned = omega arith; size = omega arith; high = omega arith; live_is = live_is }, further from (16 * u) to hs f.lie);
    apart = (
      (inl refl, each_weaker _ _ (λ h l. inr (inl (omega (arith, l.low)))) hs f.lie),
      each_both _ _ _ (λ h a l. (inr (inr (omega (arith, l.low))), a)) hs f.apart f.lie,
    );
    once = λ h. once_more from u to at h hs at_is (omega arith) f;
  }

  pub live_facts : (ts : List Tile) (from to before : ℕ) → from % 16 ≡ 0 → Fill from ts to → AreHeaders bytes before ts → LiveFacts from to (positions (live_of ts))
  live_facts [] from to before aligned f h = record { lie = tt; apart = tt; once = λ h. omega arith }
  live_facts (t ∷ ts) from to before aligned f h =
      let rest = live_facts ts (from + 16 * t.units) to t.units (omega arith) f.2 h.1 in
      let le = Fill-le ts (from + 16 * t.units) to f.2 in
      elim t.live as (λ b. t.live ≡ b → LiveFacts from to (positions (cond b (span_of t ∷ live_of ts) (live_of ts)))) [
        | true ↦ (λ e. one_more from t.units to t.at (positions (live_of ts)) f.0 aligned f.1 h.0.units_is (h.0.live_is ∙ e) le rest)
        | false ↦ (λ e. record { lie = further from (16 * t.units) to (positions (live_of ts)) rest.lie; apart = rest.apart; once = rest.once })
      ] refl

  module _ (allocator : ℕ) (heap : IsHeap allocator bytes) where
    facts : LiveFacts heap_start (length bytes) (positions (live bytes))
    unfolding live
    facts = live_facts (tiles bytes) heap_start (length bytes) 0 (omega arith) heap.filled heap.headers

    pub live-lie : AllByRecursion (LiesIn bytes heap_start (length bytes)) (positions (live bytes))
    live-lie = facts.lie

    pub live-apart : AllByRecursion (λ h. AllByRecursion (OneOrApart bytes h) (positions (live bytes))) (positions (live bytes))
    live-apart = facts.apart

    pub live-once : (h : ℕ) → times h (positions (live bytes)) ≤ 1
    live-once = facts.once

  -- the blocks of a list don't overlap if each occurs once, and any two are the same or don't
  -- overlap
  pub apart_once : (xs : List ℕ) → AllByRecursion (λ t. AllByRecursion (OneOrApart bytes t) xs) xs → ((h : ℕ) → times h xs ≤ 1) → BlocksApart bytes xs
  apart_once [] a few = tt
  apart_once (x ∷ xs) a few =
      let alone : times x xs ≡ 0 = omega (arith, few x, times-same x xs) in (
        each_both _ (λ y. y ≢ x) _ (λ y s other. ⊎_elim (λ e. absurd (other e)) (λ l. l) s) xs a.0.1 (not_there x xs alone),
        apart_once xs (each_weaker _ _ (λ t s. s.1) xs a.1) (λ h. omega (arith, few h, times-more h x xs)),
      )

-- the blocks of a list with the same blocks as the allocated ones don't overlap
pub owned_apart : (bytes : List ℕ) (allocator : ℕ) → IsHeap allocator bytes → (xs : List ℕ) → SameBlocks (positions (live bytes)) xs → BlocksApart bytes xs
owned_apart bytes allocator heap xs same =
    let pairs = each_weaker _ _ (λ t s. each_same (OneOrApart bytes t) _ xs same s) (positions (live bytes)) (live-apart bytes allocator heap) in
    apart_once bytes xs (each_same _ _ xs same pairs) (λ h. omega (arith, same h, live-once bytes allocator heap h))

-- ---- owners

pub owned_once : (bytes : List ℕ) (allocator : ℕ) → IsHeap allocator bytes → (xs : List ℕ) → SameBlocks (positions (live bytes)) xs → (h : ℕ) → 1 ≤ times h (positions (live bytes)) → times h xs ≡ 1
owned_once bytes allocator heap xs same h some = omega (arith, same h, live-once bytes allocator heap h)

pub owns_live : (bytes : List ℕ) (allocator : ℕ) → IsHeap allocator bytes → (xs : List ℕ) → SameBlocks (positions (live bytes)) xs → (h : ℕ) → 1 ≤ times h xs → times h (positions (live bytes)) ≡ 1
owns_live bytes allocator heap xs same h some = omega (arith, same h, live-once bytes allocator heap h)

-- ---- counts after a call

pub times-with_block : (h : ℕ) (b : Span) (bs : List Span) → times h (positions (with_block b bs)) ≡ times h (b.at ∷ positions bs)
times-with_block h b [] = refl
times-with_block h b (c ∷ cs) =
    let rest = times-with_block h b cs in
    elim (nat_lt b.at c.at) as (λ t. times h (positions (cond t (b ∷ c ∷ cs) (c ∷ with_block b cs))) ≡ times h (b.at ∷ c.at ∷ positions cs)) [ true ↦ refl | false ↦ omega arith ]

pub times-without : (h at : ℕ) (bs : List Span) → 1 ≤ times at (positions bs) → times h (at ∷ positions (without at bs)) ≡ times h (positions bs)
times-without h at [] some = absurd (omega arith)
times-without h at (b ∷ bs) some = go (cases_eq b.at at) (times-without h at bs)
  where
    go : (b.at ≡ at) ⊎ (b.at ≢ at) → (1 ≤ times at (positions bs) → times h (at ∷ positions (without at bs)) ≡ times h (positions bs)) → times h (at ∷ positions (without at (b ∷ bs))) ≡ times h (b.at ∷ positions bs)
    go (inl e) rest =
        let same : eqb b.at at ≡ true = grind (arith, nat_tests) in
        rw (same, e) refl
    go (inr ne) rest =
        let other : eqb b.at at ≡ false = grind (arith, nat_tests) in
        let less : times at (positions (b ∷ bs)) ≡ times at (positions bs) = times-other at b.at (positions bs) ne in
        let later = rest (omega arith) in
        rw other (omega arith)

pub positions-resized : (at n : ℕ) (bs : List Span) → positions (resized at n bs) ≡ positions bs
positions-resized at n [] = refl
positions-resized at n (b ∷ bs) = go (cases_eq b.at at) (positions-resized at n bs)
  where
    go : (b.at ≡ at) ⊎ (b.at ≢ at) → positions (resized at n bs) ≡ positions bs → positions (resized at n (b ∷ bs)) ≡ b.at ∷ positions bs
    go (inl e) rest =
        let same : eqb b.at at ≡ true = grind (arith, nat_tests) in
        rw (same, e) refl
    go (inr ne) rest =
        let other : eqb b.at at ≡ false = grind (arith, nat_tests) in
        rw other (ap (λ ps. b.at ∷ ps) rest)
