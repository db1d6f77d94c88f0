-- Zeros in the units that were added to a heap, after the possible header of a gap.
use Rattle.std.proofs.Common.{◌≡◌, ℕ, ◌+◌, ◌-◌, ◌*◌, ◌/◌, ◌%◌, ◌≢◌, ◌<◌, ◌≤◌, ◌⊎◌, inl, inr, true, false, eqb, List, [], ◌∷◌, length, replicate, cond, refl, sym, ap, ◌∙◌, subst, arith}
use Rattle.std.specs.Prelude.{nat_lt}
use Rattle.std.specs.List.{AllByRecursion}
use Rattle.std.proofs.lemmas.Bool.{cases_eq}
use Rattle.std.proofs.lemmas.Bool.Decides.{nat_tests}
use Rattle.std.proofs.lemmas.List.{length-take, length-replicate}
use Rattle.seg_spec.specs.Bytes.{slice, put, IsSame, Agrees, ChangesOnly}
use Rattle.seg_spec.specs.Header.{units_word, free_word, back_start, heap_start, min_length}
use Rattle.seg_spec.specs.Heap.{Span, Tile, span_of, end_of, tiles, IsHeap, live, live_of, free_of, gaps, gaps_between, run, without_end, after_extend, Extends}
use Rattle.seg_spec.proofs.BytesLaws.{Agrees-put, Agrees-trans}
use Rattle.seg_spec.proofs.Values.PlaceFrameLaws.{each_weaker, each_left, each_right, word-same}
use Rattle.seg_spec.proofs.Heap.GapOrderLaws.{gaps-free}
use Rattle.seg_spec.proofs.Heap.KeptBlockLaws.{StatesSpan, live_stated, each_contained}
use Rattle.seg_spec.proofs.Images.LooseRootLaws.{each_joined}
use Rattle.seg_spec.proofs.SliceLaws.{slice-put_same, put-changes}
use Rattle.seg_manager.specs.Sizes.{used_front}
use Rattle.seg_manager.proofs.KeptOrder.{KeepsOrder, order_live, order_heap}
use Rattle.seg_manager.proofs.ZeroedGaps.{free_before, tiles_after}

-- a fact about each allocated tile and each free tile is a fact about each tile
each_tile : (P : Span → Type 0) (ts : List Tile) → AllByRecursion P (live_of ts) → AllByRecursion P (free_of ts) → AllByRecursion (λ t. P (span_of t)) ts
each_tile P [] l f = tt
each_tile P (t ∷ ts) l f =
    let rest = each_tile P ts in
    (elim t.live as (λ b. AllByRecursion P (cond b (span_of t ∷ live_of ts) (live_of ts)) → AllByRecursion P (cond b (free_of ts) (span_of t ∷ free_of ts)) → P (span_of t) × AllByRecursion (λ t. P (span_of t)) ts) [
      | true ↦ (λ l f. (l.0, rest l.1 f))
      | false ↦ (λ l f. (f.0, rest l f.1))
    ]) l f

-- ---- the positions of the gaps

-- a gap that begins at a position has the fact of that position
run_at : (P : ℕ → Type 0) (from to : ℕ) → P from → AllByRecursion (λ g. P g.at) (run from to)
run_at P from to p = elim (nat_lt from to) as (λ c. AllByRecursion {X = Span} (λ g. P g.at) (cond c (record { at = from; units = (to - from) / 16 } ∷ []) [])) [ true ↦ (p, tt) | false ↦ tt ]

-- no gap begins after all blocks
gaps_low : (bs : List Span) (from to low : ℕ) → from ≤ low → AllByRecursion (λ b. end_of b ≤ low) bs → AllByRecursion (λ g. g.at ≤ low) (gaps_between from bs to)
gaps_low [] from to low le a = run_at (λ p. p ≤ low) from to le
gaps_low (b ∷ bs) from to low le a = each_joined (λ g. g.at ≤ low) (run from b.at) (gaps_between (end_of b) bs to) (run_at (λ p. p ≤ low) from b.at le) (gaps_low bs (end_of b) to low a.0 a.1)

several_extended : (bs : List Span) (end n : ℕ) → 2 ≤ n → after_extend bs end n ≡ bs
several_extended [] end n two = refl
several_extended (b ∷ bs) end n two =
    let off : eqb n 1 ≡ false = grind (arith, nat_tests) in
    rw off (ap (λ cs. b ∷ cs) (several_extended bs end n two))

-- The position of the units after a block, before and after the heap got one unit more. A block
-- that ended at the end of the heap got that unit.
abbrev Moved : ℕ → ℕ → ℕ → Type 0
Moved end from later = ((later ≡ from) × (from < end)) ⊎ (later ≡ end + 16)

-- each gap begins two units or more before the end
abbrev Early : ℕ → List Span → Type 0
Early end gs = AllByRecursion (λ g. g.at + 32 ≤ end) gs

-- if all gaps begin two units before the end, they do so after the heap got one unit more
gaps_moved : (bs : List Span) (end from later : ℕ) → Moved end from later → AllByRecursion (λ b. (2 ≤ b.units) × (end_of b ≤ end)) bs → Early end (gaps_between from bs end)
    → Early end (gaps_between later (after_extend bs end 1) (end + 16))
gaps_moved [] end from later (inl e) a g =
    let on : nat_lt from end ≡ true = grind (arith, nat_tests) in
    let low : AllByRecursion {X = Span} (λ g. g.at + 32 ≤ end) (record { at = from; units = (end - from) / 16 } ∷ []) = rw on at g in
    run_at (λ p. p + 32 ≤ end) later (end + 16) (omega (arith, low.0))
gaps_moved [] end from later (inr e) a g =
    let off : nat_lt later (end + 16) ≡ false = grind (arith, nat_tests) in
    rw off tt
gaps_moved (b ∷ bs) end from later m a g = go (cases_eq (end_of b) end) (λ next c. gaps_moved bs end (end_of b) next c a.1 after)
  where
    before : Moved end from later → Early end (run later b.at)
    before (inl e) = rw e.0 (each_left (λ g. g.at + 32 ≤ end) (run from b.at) (gaps_between (end_of b) bs end) g)
    before (inr e) =
        let high = a.0 in
        let off : nat_lt later b.at ≡ false = grind (arith, nat_tests) in
        rw off tt

    after : Early end (gaps_between (end_of b) bs end)
    after = each_right (λ g. g.at + 32 ≤ end) (run from b.at) (gaps_between (end_of b) bs end) g

    below : end_of b ≢ end → end_of b ≤ end → end_of b < end
    below ne high = grind (arith)

    go : (end_of b ≡ end) ⊎ (end_of b ≢ end) → ((next : ℕ) → Moved end (end_of b) next → Early end (gaps_between next (after_extend bs end 1) (end + 16))) → Early end (gaps_between later (after_extend (b ∷ bs) end 1) (end + 16))
    go (inl e) others =
        let on : eqb (end_of b) end ≡ true = grind (arith, nat_tests) in
        let next = others (b.at + 16 * (b.units + 1)) (inr (omega arith)) in
        rw on (each_joined (λ g. g.at + 32 ≤ end) (run later b.at) (gaps_between (b.at + 16 * (b.units + 1)) (after_extend bs end 1) (end + 16)) (before m) next)
    go (inr ne) others =
        let off : eqb (end_of b) end ≡ false = grind (arith, nat_tests) in
        let high = a.0.1 in
        let next = others (end_of b) (inl (refl, below ne high)) in
        rw off (each_joined (λ g. g.at + 32 ≤ end) (run later b.at) (gaps_between (end_of b) (after_extend bs end 1) (end + 16)) (before m) next)

-- ---- the heap

module _ (a : ℕ) (old mid : List ℕ) (extra end : ℕ) (heap : IsHeap a (without_end old (extra / 16))) (e : Extends a old mid (extra / 16))
    (long : length old ≡ end + extra) (high : min_length ≤ end) (more : 0 < extra) (whole : extra % 16 ≡ 0) where
  abbrev front : List ℕ
  front = without_end old (extra / 16)

  end_is : length old - 16 * (extra / 16) ≡ end
  end_is = omega arith

  front_long : length front ≡ end
  front_long = let t = length-take (length old - 16 * (extra / 16)) old in let same = end_is in omega arith

  blocks : AllByRecursion (λ b. (2 ≤ b.units) × (end_of b ≤ end)) (live front)
  blocks = each_weaker (StatesSpan front (length front)) (λ b. (2 ≤ b.units) × (end_of b ≤ end)) (λ b s. (s.size, omega (arith, s.high, front_long))) (live front) (live_stated front a heap)

  live_then : live mid ≡ after_extend (live front) end (extra / 16)
  live_then = e.extends ∙ ap (λ k. after_extend (live front) k (extra / 16)) end_is

  -- the heap grew by one unit
  module _ (one : extra ≡ 16) where
    units_one : extra / 16 ≡ 1
    units_one = omega arith

    front_gaps : Early end (gaps front)
    front_gaps = subst (Early end) (sym (gaps-free front a heap))
        (each_weaker _ (λ g. g.at + 32 ≤ end) (λ g h. omega (arith, h.1, front_long)) (free_of (tiles front)) (free_before (tiles front) heap_start (length front) heap.filled))

    one_gaps : Early end (gaps mid)
    one_gaps =
        let one_longer : length mid ≡ end + 16 = omega (arith, e.length_kept) in
        let old_gaps : Early end (gaps_between heap_start (live front) end) = subst (λ k. Early end (gaps_between heap_start (live front) k)) front_long front_gaps in
        let moved = gaps_moved (live front) end heap_start heap_start (inl (refl, omega arith)) blocks old_gaps in
        let live_one : live mid ≡ after_extend (live front) end 1 = live_then ∙ ap (after_extend (live front) end) units_one in
        rw (live_one, one_longer) moved

    one_tiles : AllByRecursion (λ t. t.at + 16 ≤ end) (tiles mid)
    one_tiles = each_weaker _ (λ t. t.at + 16 ≤ end) (λ t h. omega (arith, h.1, e.length_kept, units_one)) (tiles mid) (tiles_after (tiles mid) heap_start (length mid) e.heap.filled)

  -- the heap grew by several units
  module _ (several : 32 ≤ extra) where
    live_is : live mid ≡ live front
    live_is = live_then ∙ several_extended (live front) end (extra / 16) (omega arith)

    several_gaps : AllByRecursion (λ g. g.at ≤ end) (gaps mid)
    several_gaps = rw live_is (gaps_low (live front) heap_start (length mid) end (omega arith) (each_weaker _ (λ b. end_of b ≤ end) (λ b h. h.1) (live front) blocks))

    several_lives : AllByRecursion (λ b. b.at ≤ end) (live mid)
    several_lives = rw live_is (each_weaker _ (λ b. b.at ≤ end) (λ b h. omega (arith, h.1)) (live front) blocks)

    several_tiles : AllByRecursion (λ t. t.at ≤ end) (tiles mid)
    unfolding live
    several_tiles = each_tile (λ g. g.at ≤ end) (tiles mid) several_lives (subst (AllByRecursion (λ g. g.at ≤ end)) (gaps-free mid a e.heap) several_gaps)

  abbrev used : ℕ
  used = used_front a extra

  -- headers and the allocator's own words lie before the zeros
  record Low : Type 0 where
    tiles_low : AllByRecursion (λ t. t.at + 16 ≤ end + used) (tiles mid)
    gaps_low : 1 ≤ a → AllByRecursion (λ g. g.at + 32 ≤ end + used) (gaps mid)
    fits : used ≤ extra

  low : a ≤ 1 → Low
  low few = go (cases_eq extra 16)
    where
      go : (extra ≡ 16) ⊎ (extra ≢ 16) → Low
      go (inl one) =
          let on : eqb extra 16 ≡ true = grind (arith, nat_tests) in
          let none : used ≡ 0 = rw on refl in
          record {
            tiles_low = rw none (each_weaker _ (λ t. t.at + 16 ≤ end + 0) (λ t h. omega (arith, h)) (tiles mid) (one_tiles one));
            gaps_low = λ some. rw none (each_weaker _ (λ g. g.at + 32 ≤ end + 0) (λ g h. omega (arith, h)) (gaps mid) (one_gaps one));
            fits = omega (arith, none);
          }
      go (inr ne) =
          let off : eqb extra 16 ≡ false = grind (arith, nat_tests) in
          let is : used ≡ 16 + 16 * a = rw off refl in
          let several : 32 ≤ extra = grind (arith) in
          record {
            tiles_low = rw is (each_weaker _ (λ t. t.at + 16 ≤ end + (16 + 16 * a)) (λ t h. omega (arith, h)) (tiles mid) (several_tiles several));
            gaps_low = λ some. rw is (each_weaker _ (λ g. g.at + 32 ≤ end + (16 + 16 * a)) (λ g h. omega (arith, h)) (gaps mid) (several_gaps several));
            fits = omega (arith, is);
          }

  module _ (few : a ≤ 1) (new : List ℕ) (new_is : new ≡ put mid (end + used) (replicate (extra - used) 0)) where
    zeros_long : length {A = ℕ} (replicate (extra - used) 0) ≡ extra - used
    zeros_long = length-replicate (extra - used) 0

    changes : ChangesOnly mid new (end + used) (length {A = ℕ} (replicate (extra - used) 0))
    changes = rw new_is (put-changes mid (end + used) (replicate (extra - used) 0))

    before : (p n : ℕ) → p + n ≤ end + used → IsSame mid new p n
    before p n l = changes.others p n (inl l)

    order : KeepsOrder a mid new
    order = record {
      length_kept = changes.length_kept;
      root = before free_word 4 (omega arith);
      headers = each_weaker _ (λ t. IsSame mid new t.at 16) (λ t h. before t.at 16 h) (tiles mid) (low few).tiles_low;
      own_words = λ some. each_weaker _ (λ g. IsSame mid new (g.at + 16) 16) (λ g h. before (g.at + 16) 16 (omega (arith, h))) (gaps mid) ((low few).gaps_low some);
    }

    still : (from to : ℕ) → to ≤ end → Agrees old mid from to → Agrees old new from to
    still from to l k = Agrees-trans old mid new from to k (rw new_is (Agrees-put mid (end + used) (replicate (extra - used) 0) from to (inl (omega arith))))

    pub zeros_extend : Extends a old new (extra / 16)
    zeros_extend = record {
      heap = order_heap a mid new e.heap order;
      size_is = word-same mid new units_word (before units_word 4 (omega arith)) ∙ e.size_is ∙ ap (λ n. n / 16) (sym changes.length_kept);
      length_kept = changes.length_kept ∙ e.length_kept;
      front_kept = still 0 units_word (omega arith) e.front_kept;
      words_kept = still (units_word + 4) free_word (omega arith) e.words_kept;
      back_kept = still back_start heap_start (omega arith) e.back_kept;
      blocks_kept = λ b c. still (b.at + 8) (end_of b) (each_contained _ (live front) b blocks c).1 (e.blocks_kept b c);
      extends = order_live a mid new e.heap order ∙ e.extends;
    }

    pub zeros_there : slice new (end + used) (extra - used) ≡ replicate (extra - used) 0
    zeros_there = ap (λ b. slice b (end + used) (extra - used)) new_is
        ∙ slice-put_same mid (end + used) (replicate (extra - used) 0) (extra - used) (sym zeros_long) (omega (arith, e.length_kept, (low few).fits))
