-- The tag and the link of an allocated block may change in a well-formed heap.
use Rattle.std.proofs.Common.{◌≡◌, ◌≢◌, ℕ, ◌+◌, ◌*◌, ◌-◌, ◌^◌, ◌%◌, ◌≤◌, ◌⊎◌, inl, inr, true, false, List, [], ◌∷◌, length, refl, sym, ap, ◌∙◌, subst, arith}
use Rattle.std.specs.Prelude.{nat_le}
use Rattle.std.proofs.lemmas.Bool.{false≢true}
use Rattle.std.specs.List.{AllByRecursion}
use Rattle.seg_spec.specs.Bytes.{word, IsSame, ChangesOnly}
use Rattle.seg_spec.specs.Header.{free_word}
use Rattle.seg_spec.specs.Heap.{Tile, units_at, IsHeader, tiles, AreHeaders, live_of, free_of, live, gaps, HoldsGaps, IsHeap, heap_start}
use Rattle.seg_spec.specs.Block.{payload_size}
use Rattle.seg_spec.specs.Apart.{Separate}
use Rattle.seg_spec.specs.Sound.{times, positions}
use Rattle.seg_spec.proofs.Heap.TileLaws.{tiles-unique, gaps_between-live_of}
use Rattle.seg_spec.proofs.Values.PlaceFrameLaws.{word-same, target-same, each_weaker}
use Rattle.seg_spec.proofs.Heap.HeapFrameLaws.{HoldsGaps-kept}
use Rattle.seg_spec.proofs.Heap.LiveBlockLaws.{LiesIn, there, live-lie, live-apart, OneOrApart}
use Rattle.seg_spec.proofs.Heap.BlockWriteLaws.{Spot, spots, each_free_tile}
use Rattle.seg_spec.specs.Owing.{KeepsLinked}

module _ (old new : List ℕ) (h : ℕ) (changes : ChangesOnly old new (h + 8) 8) (allocator : ℕ) (heap : IsHeap allocator old) (owned : 1 ≤ times h (positions (live old))) where
  all_spots : AllByRecursion (Spot old h) (tiles old)
  unfolding live
  all_spots = spots old h (tiles old) heap_start (length old) 0 (omega arith) heap.filled heap.headers owned

  the_block : LiesIn old heap_start (length old) h
  the_block = there _ h (positions (live old)) (live-lie old allocator heap) owned

  -- the first 8 bytes of each header are kept
  front_same : (t : Tile) → Spot old h t → (d m : ℕ) → d + m ≤ 8 → IsSame old new (t.at + d) m
  front_same t s d m fits = changes.others (t.at + d) m (go s.one_or_apart)
    where
      go : ((t.at ≡ h) × (t.live ≡ true)) ⊎ Separate t.at (16 * t.units) h (16 * units_at old h) → (t.at + d + m ≤ h + 8) ⊎ (h + 8 + 8 ≤ t.at + d)
      go (inl e) = inl (omega (arith, e.0))
      go (inr (inl l)) = inl (omega (arith, s.size))
      go (inr (inr r)) = inr (omega (arith, the_block.size))

  free_same : (t : Tile) → Spot old h t → t.live ≡ false → (d m : ℕ) → d + m ≤ 32 → IsSame old new (t.at + d) m
  free_same t s free d m fits = changes.others (t.at + d) m (go s.one_or_apart)
    where
      go : ((t.at ≡ h) × (t.live ≡ true)) ⊎ Separate t.at (16 * t.units) h (16 * units_at old h) → (t.at + d + m ≤ h + 8) ⊎ (h + 8 + 8 ≤ t.at + d)
      go (inl e) = absurd (false≢true (sym free ∙ e.1))
      go (inr (inl l)) = inl (omega (arith, s.size))
      go (inr (inr r)) = inr (omega (arith, the_block.size))

  header_then : (before : ℕ) (t : Tile) → Spot old h t → IsHeader old before t → IsHeader new before t
  header_then before t s k =
      let zero_off : t.at + 0 ≡ t.at = omega arith in
      let first : word new t.at ≡ word old t.at = word-same old new t.at (rw zero_off at (front_same t s 0 4 (omega arith))) in
      record {
        units_is = ap (λ w. w % 2 ^ 31) first ∙ k.units_is;
        live_is = ap (λ w. nat_le (2 ^ 31) w) first ∙ k.live_is;
        before_is = word-same old new (t.at + 4) (front_same t s 4 4 (omega arith)) ∙ k.before_is;
        tag_is = λ free. word-same old new (t.at + 8) (free_same t s free 8 4 (omega arith)) ∙ k.tag_is free;
      }

  headers_then : (ts : List Tile) (before : ℕ) → AllByRecursion (Spot old h) ts → AreHeaders old before ts → AreHeaders new before ts
  headers_then [] before ss hs = tt
  headers_then (t ∷ ts) before ss hs = (header_then before t ss.0 hs.0, headers_then ts t.units ss.1 hs.1)

  tiles_then : tiles new ≡ tiles old
  tiles_then = tiles-unique new (tiles old) (rw changes.length_kept heap.filled) (headers_then (tiles old) 0 all_spots heap.headers)

  pub labelled_live : live new ≡ live old
  unfolding live
  labelled_live = ap live_of tiles_then

  gaps_then : gaps new ≡ gaps old
  gaps_then = rw (labelled_live, changes.length_kept) refl

  gaps_free : gaps old ≡ free_of (tiles old)
  unfolding live
  gaps_free = gaps_between-live_of (tiles old) true heap_start (length old) heap.filled heap.apart

  gap_part : (d m : ℕ) → d + m ≤ 32 → AllByRecursion (λ g. IsSame old new (g.at + d) m) (gaps old)
  gap_part d m fits = subst (λ gs. AllByRecursion (λ g. IsSame old new (g.at + d) m) gs) (sym gaps_free)
      (each_free_tile (λ g. IsSame old new (g.at + d) m) (tiles old) (each_weaker _ _ (λ t s free. free_same t s free d m fits) (tiles old) all_spots))

  gap_headers : AllByRecursion (λ g. IsSame old new g.at 16) (gaps old)
  gap_headers = each_weaker (λ g. IsSame old new (g.at + 0) 16) (λ g. IsSame old new g.at 16) (λ g k. no_more g.at k) (gaps old) (gap_part 0 16 (omega arith))
    where
      no_more : (p : ℕ) → IsSame old new (p + 0) 16 → IsSame old new p 16
      no_more p k = let e : p + 0 ≡ p = omega arith in rw e at k

  pub labelled_heap : IsHeap allocator new
  labelled_heap = record {
    filled = rw (tiles_then, changes.length_kept) heap.filled;
    headers = rw tiles_then (headers_then (tiles old) 0 all_spots heap.headers);
    apart = rw tiles_then heap.apart;
    free = subst (λ gs. HoldsGaps allocator new gs) (sym gaps_then) (HoldsGaps-kept old new allocator (gaps old) (changes.others free_word 4 (inl (omega (arith, the_block.low)))) gap_headers (gap_part 16 16 (omega arith)) heap.free);
    small = rw changes.length_kept heap.small;
  }

  -- all other allocated blocks are kept with their tags and links, and this block's payload is kept
  pub labelled_other : (k : ℕ) → 1 ≤ times k (positions (live old)) → k ≢ h → KeepsLinked old new k
  labelled_other k some other =
      let l = there _ k (positions (live old)) (live-lie old allocator heap) some in
      let mine = there (λ t. AllByRecursion (OneOrApart old t) (positions (live old))) h (positions (live old)) (live-apart old allocator heap) owned in
      let pair = there (OneOrApart old h) k (positions (live old)) mine some in
      let off = λ (d m : ℕ) (fits : d + m ≤ 16 * units_at old k). changes.others (k + d) m (go l pair d m fits) in
      let zero_off : k + 0 ≡ k = omega arith in
      let size = l.size in
      let first : word new k ≡ word old k = word-same old new k (rw zero_off at (off 0 4 (omega arith))) in
      record {
        whole = record {
          kept = record {
            live = ap (λ w. nat_le (2 ^ 31) w) first;
            has_tag = word-same old new (k + 8) (off 8 4 (omega arith));
            room = rw first (omega arith);
            payload = off 16 (payload_size old k) (omega arith);
          };
          size_kept = ap (λ w. 16 * (w % 2 ^ 31) - 16) first;
        };
        link_kept = target-same old new (k + 12) (off 12 4 (omega arith));
      }
    where
      go : LiesIn old heap_start (length old) k → OneOrApart old h k → (d m : ℕ) → d + m ≤ 16 * units_at old k → (k + d + m ≤ h + 8) ⊎ (h + 8 + 8 ≤ k + d)
      go l (inl e) d m fits = absurd (other e)
      go l (inr (inl s)) d m fits = inr (omega (arith, the_block.size))
      go l (inr (inr s)) d m fits = inl (omega arith)
