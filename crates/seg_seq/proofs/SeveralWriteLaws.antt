-- 8 bytes change at each of several places in the payloads of allocated blocks. The heap stays
-- well-formed, and all other bytes are kept.
use Rattle.std.proofs.Common.{◌≡◌, ℕ, ◌+◌, ◌*◌, ◌%◌, ◌^◌, ◌≤◌, ◌⊎◌, inl, inr, true, false, List, [], ◌∷◌, length, sym, ap, ◌∙◌, subst, arith}
use Rattle.std.proofs.lemmas.Bool.{false≢true}
use Rattle.std.specs.List.{AllByRecursion}
use Rattle.seg_spec.specs.Bytes.{word, IsSame}
use Rattle.seg_spec.specs.Types.{Table}
use Rattle.seg_spec.specs.Heap.{Tile, units_at, tiles, free_of, live, gaps, IsHeap, heap_start, KeepsTiles}
use Rattle.seg_spec.specs.Block.{IsInside, IsOwnable, KeepsBlock, KeepsHeader, IsBlock, block_of, payload_size}
use Rattle.seg_spec.specs.Apart.{Separate}
use Rattle.seg_spec.specs.Sound.{times, positions}
use Rattle.seg_spec.proofs.SliceLaws.{IsSame-part}
use Rattle.seg_spec.proofs.Heap.TileLaws.{gaps_between-live_of}
use Rattle.seg_spec.proofs.Values.PlaceFrameLaws.{each_weaker, each_both, word-same}
use Rattle.seg_spec.proofs.Heap.LiveBlockLaws.{LiesIn, there, each_there, live-lie, live-apart, OneOrApart}
use Rattle.seg_spec.proofs.Heap.HeapFrameLaws.{IsHeap-kept, live-kept, IsOwnable-kept}
use Rattle.seg_spec.proofs.Heap.BlockWriteLaws.{Spot, spots, each_free_tile}
use Rattle.seg_seq.specs.Rings.{ChangesAt}

-- the 8 bytes at a place lie in the payload of an allocated block
pub record HasHome (bytes : List ℕ) (p : ℕ) : Type 0 where
  pub home : ℕ
  pub inside : IsInside bytes home p 8
  pub home_live : 1 ≤ times home (positions (live bytes))

module _ (allocator : ℕ) (old new : List ℕ) (places : List ℕ) (heap : IsHeap allocator old) (changes : ChangesAt old new places) (homes : AllByRecursion (HasHome old) places) where
  -- a range is kept if it overlaps no 8 bytes in the payload of an allocated block
  beside : (q m : ℕ) → ((h p : ℕ) → 1 ≤ times h (positions (live old)) → IsInside old h p 8 → Separate q m p 8) → IsSame old new q m
  beside q m f = changes.others q m (each_weaker (HasHome old) (λ p. Separate q m p 8) (λ p w. f w.home p w.home_live w.inside) places homes)

  all_spots : (h : ℕ) → 1 ≤ times h (positions (live old)) → AllByRecursion (Spot old h) (tiles old)
  unfolding live
  all_spots h owned = spots old h (tiles old) heap_start (length old) 0 (omega arith) heap.filled heap.headers owned

  lies : (h : ℕ) → 1 ≤ times h (positions (live old)) → LiesIn old heap_start (length old) h
  lies h some = there (LiesIn old heap_start (length old)) h (positions (live old)) (live-lie old allocator heap) some

  header_apart : (t : Tile) (h p : ℕ) → Spot old h t → IsInside old h p 8 → Separate t.at 16 p 8
  header_apart t h p s i = go s.one_or_apart
    where
      go : ((t.at ≡ h) × (t.live ≡ true)) ⊎ Separate t.at (16 * t.units) h (16 * units_at old h) → Separate t.at 16 p 8
      go (inl e) = inl (omega (arith, i.low, e.0))
      go (inr (inl l)) = inl (omega (arith, i.low, s.size))
      go (inr (inr r)) = inr (omega (arith, i.high))

  free_apart : (t : Tile) (h p : ℕ) → Spot old h t → IsInside old h p 8 → t.live ≡ false → Separate (t.at + 16) 16 p 8
  free_apart t h p s i free = go s.one_or_apart
    where
      go : ((t.at ≡ h) × (t.live ≡ true)) ⊎ Separate t.at (16 * t.units) h (16 * units_at old h) → Separate (t.at + 16) 16 p 8
      go (inl e) = absurd (false≢true (sym free ∙ e.1))
      go (inr (inl l)) = inl (omega (arith, i.low, s.size))
      go (inr (inr r)) = inr (omega (arith, i.high))

  -- a range doesn't overlap the 8 bytes at a place
  abbrev Apart : ℕ → ℕ → ℕ → Type 0
  Apart q m p = Separate q m p 8

  each_place : (P : Tile → ℕ → Type 0) → ((p : ℕ) → 1 ≤ times p places → AllByRecursion (λ t. P t p) (tiles old)) → AllByRecursion (λ t. AllByRecursion (P t) places) (tiles old)
  each_place P f = turn places f
    where
      pair : (ts : List Tile) (p : ℕ) (ps : List ℕ) → AllByRecursion (λ t. P t p) ts → AllByRecursion (λ t. AllByRecursion (P t) ps) ts → AllByRecursion (λ t. AllByRecursion (P t) (p ∷ ps)) ts
      pair ts p ps a b = each_both (λ t. P t p) (λ t. AllByRecursion (P t) ps) (λ t. AllByRecursion (P t) (p ∷ ps)) (λ t x y. (x, y)) ts a b

      none : (ts : List Tile) → AllByRecursion (λ t. AllByRecursion (P t) []) ts
      none [] = tt
      none (t ∷ ts) = (tt, none ts)

      turn : (ps : List ℕ) → ((p : ℕ) → 1 ≤ times p ps → AllByRecursion (λ t. P t p) (tiles old)) → AllByRecursion (λ t. AllByRecursion (P t) ps) (tiles old)
      turn [] f = none (tiles old)
      turn (p ∷ ps) f = pair (tiles old) p ps (f p (omega (arith, Rattle.seg_spec.proofs.Heap.LiveBlockLaws.times-same p ps))) (turn ps (λ q some. f q (omega (arith, Rattle.seg_spec.proofs.Heap.LiveBlockLaws.times-more q p ps))))

  headers : AllByRecursion (λ t. AllByRecursion (Apart t.at 16) places) (tiles old)
  headers = each_place (λ t p. Separate t.at 16 p 8) (λ p some.
      let w = there (HasHome old) p places homes some in
      each_weaker (Spot old w.home) (λ t. Separate t.at 16 p 8) (λ t s. header_apart t w.home p s w.inside) (tiles old) (all_spots w.home w.home_live))

  frees : AllByRecursion (λ t. AllByRecursion (λ p. t.live ≡ false → Separate (t.at + 16) 16 p 8) places) (tiles old)
  frees = each_place (λ t p. t.live ≡ false → Separate (t.at + 16) 16 p 8)
      (λ p some.
      let w = there (HasHome old) p places homes some in
      each_weaker (Spot old w.home) (λ t. t.live ≡ false → Separate (t.at + 16) 16 p 8) (λ t s free. free_apart t w.home p s w.inside free) (tiles old) (all_spots w.home w.home_live))

  gaps_free : gaps old ≡ free_of (tiles old)
  unfolding live
  gaps_free = gaps_between-live_of (tiles old) true heap_start (length old) heap.filled heap.apart

  -- the bytes before the heap are kept
  pub low_same : (p n : ℕ) → p + n ≤ heap_start → IsSame old new p n
  low_same p n fits = beside p n (λ h q some i. inl (let l = lies h some in omega (arith, l.low, i.low)))

  tiles_same : KeepsTiles old new
  tiles_same = record {
    length_kept = changes.length_kept;
    root_kept = low_same 24 4 (omega arith);
    headers_kept = each_weaker (λ t. AllByRecursion (Apart t.at 16) places) (λ t. IsSame old new t.at 16) (λ t a. changes.others t.at 16 a) (tiles old) headers;
    free_kept = subst (λ gs. AllByRecursion (λ g. IsSame old new (g.at + 16) 16) gs) (sym gaps_free) (each_free_tile (λ g. IsSame old new (g.at + 16) 16) (tiles old)
        (each_weaker (λ t. AllByRecursion (λ p. t.live ≡ false → Separate (t.at + 16) 16 p 8) places) (λ t. t.live ≡ false → IsSame old new (t.at + 16) 16)
        (λ t a free. changes.others (t.at + 16) 16 (each_weaker (λ p. t.live ≡ false → Separate (t.at + 16) 16 p 8) (λ p. Separate (t.at + 16) 16 p 8) (λ p f. f free) places a)) (tiles old) frees));
  }

  pub heap_same : IsHeap allocator new
  heap_same = IsHeap-kept old new allocator heap tiles_same

  pub live_same : live new ≡ live old
  live_same = live-kept old new allocator heap tiles_same

  pub ownable_same : (table : Table) → AllByRecursion (λ b. IsOwnable old table b.at) (live old) → AllByRecursion (λ b. IsOwnable new table b.at) (live new)
  ownable_same table a = IsOwnable-kept old new allocator heap tiles_same table a

  -- ---- a single allocated block

  module _ (x : ℕ) (some : 1 ≤ times x (positions (live old))) where
    pair : (h : ℕ) → 1 ≤ times h (positions (live old)) → OneOrApart old x h
    pair h owned = there (OneOrApart old x) h (positions (live old)) (there (λ t. AllByRecursion (OneOrApart old t) (positions (live old))) x (positions (live old)) (live-apart old allocator heap) some) owned

    -- a part of the block that doesn't overlap the places in it is kept
    pub part_same : (q m : ℕ) → x ≤ q → q + m ≤ x + 16 * units_at old x → ((p : ℕ) → 1 ≤ times p places → IsInside old x p 8 → Separate q m p 8) → IsSame old new q m
    part_same q m low high f = changes.others q m (each_there (λ p. Separate q m p 8) places (λ p is. let w = there (HasHome old) p places homes is in go p is w.home w.inside (pair w.home w.home_live)))
      where
        go : (p : ℕ) → 1 ≤ times p places → (h : ℕ) → IsInside old h p 8 → OneOrApart old x h → Separate q m p 8
        go p is h i (inl same) = f p is (subst (λ k. IsInside old k p 8) same i)
        go p is h i (inr (inl l)) = inl (omega (arith, i.low))
        go p is h i (inr (inr r)) = inr (omega (arith, i.high))

    head : IsSame old new x 16
    head = let l = lies x some in part_same x 16 (omega arith) (omega (arith, l.size)) (λ p is i. inl i.low)

    head_word : (d : ℕ) → d + 4 ≤ 16 → word new (x + d) ≡ word old (x + d)
    head_word d h = word-same old new (x + d) (IsSame-part old new x 16 (x + d) 4 (omega arith) (omega arith) head)

    pub units_same : units_at new x ≡ units_at old x
    units_same = ap (λ w. w % 2 ^ 31) (word-same old new x (IsSame-part old new x 16 x 4 (omega arith) (omega arith) head))

    pub header_same : KeepsHeader old new x
    header_same = record {
      live = ap (λ w. Rattle.std.specs.Prelude.nat_le (2 ^ 31) w) (word-same old new x (IsSame-part old new x 16 x 4 (omega arith) (omega arith) head));
      has_tag = head_word 8 (omega arith);
      room = let u = units_same in omega arith;
    }

    -- a block without any of the places is kept
    pub block_same : ((p : ℕ) → 1 ≤ times p places → IsInside old x p 8 → ⊥) → KeepsBlock old new x
    block_same none =
        let l = lies x some in
        let h = header_same in
        record { live = h.live; has_tag = h.has_tag; room = h.room; payload = part_same (x + 16) (payload_size old x) (omega arith) (omega (arith, l.size)) (λ p is i. absurd (none p is i)) }

    pub block_there : (p tag n : ℕ) → block_of p ≡ x → IsBlock old p tag n → IsBlock new p tag n
    block_there p tag n e b =
        let h = header_same in
        let was_live = rw e at b.live in
        let was_tag = rw e at b.has_tag in
        let was_room = rw e at b.room in
        let room = h.room in
        record { after_header = b.after_header; live = rw e (h.live ∙ was_live); has_tag = rw e (h.has_tag ∙ was_tag); room = rw e (omega arith) }
