-- A write before the heap: all blocks stay.
use Rattle.std.proofs.Common.{◌≡◌, ℕ, ◌+◌, ◌*◌, ◌≤◌, inl, inr, List, [], ◌∷◌, length, true, refl, sym, subst, arith}
use Rattle.std.specs.List.{AllByRecursion}
use Rattle.seg_spec.specs.Bytes.{IsSame, ChangesOnly}
use Rattle.seg_spec.specs.Types.{Table}
use Rattle.seg_spec.specs.Heap.{Tile, tiles, Fill, gaps, live, IsHeap, heap_start, free_of, KeepsTiles}
use Rattle.seg_spec.specs.Block.{IsOwnable, KeepsBlock, payload_size}
use Rattle.seg_spec.specs.Sound.{times, positions}
use Rattle.seg_spec.proofs.Values.PlaceFrameLaws.{each_weaker, word-same}
use Rattle.seg_spec.proofs.Heap.TileLaws.{Fill-le, gaps_between-live_of}
use Rattle.seg_spec.proofs.Heap.HeapFrameLaws.{IsHeap-kept, live-kept, IsOwnable-kept}
use Rattle.seg_spec.proofs.Heap.LiveBlockLaws.{there, LiesIn, live-lie}
use Rattle.seg_spec.proofs.Heap.BlockWriteLaws.{each_free_tile}

above : (ts : List Tile) (from to : ℕ) → Fill from ts to → AllByRecursion (λ t. from ≤ t.at) ts
above [] from to f = tt
above (t ∷ ts) from to f = (omega (arith, f.0), each_weaker _ _ (λ s a. omega (arith, a)) ts (above ts (from + 16 * t.units) to f.2))

-- a heap begins after the segment's header
pub header_fits : (allocator : ℕ) (bytes : List ℕ) → IsHeap allocator bytes → heap_start ≤ length bytes
header_fits allocator bytes heap = Fill-le (tiles bytes) heap_start (length bytes) heap.filled

module _ (allocator : ℕ) (old new : List ℕ) (at m : ℕ) (heap : IsHeap allocator old) (changes : ChangesOnly old new at m) (low : at + m ≤ heap_start) (after_root : 28 ≤ at) where
  each_above : AllByRecursion (λ t. heap_start ≤ t.at) (tiles old)
  each_above = above (tiles old) heap_start (length old) heap.filled

  gaps_free : gaps old ≡ free_of (tiles old)
  unfolding live
  gaps_free = gaps_between-live_of (tiles old) true heap_start (length old) heap.filled heap.apart

  header_tiles : KeepsTiles old new
  header_tiles = record {
    length_kept = changes.length_kept;
    root_kept = changes.others 24 4 (inl (omega arith));
    headers_kept = each_weaker _ _ (λ t a. changes.others t.at 16 (inr (omega (arith, a)))) (tiles old) each_above;
    free_kept = subst (λ gs. AllByRecursion (λ g. IsSame old new (g.at + 16) 16) gs) (sym gaps_free)
        (each_free_tile (λ g. IsSame old new (g.at + 16) 16) (tiles old) (each_weaker _ _ (λ t a free. changes.others (t.at + 16) 16 (inr (omega (arith, a)))) (tiles old) each_above));
  }

  pub header_heap : IsHeap allocator new
  header_heap = IsHeap-kept old new allocator heap header_tiles

  pub header_live : live new ≡ live old
  header_live = live-kept old new allocator heap header_tiles

  pub header_ownable : (table : Table) → AllByRecursion (λ b. IsOwnable old table b.at) (live old) → AllByRecursion (λ b. IsOwnable new table b.at) (live new)
  header_ownable table o = IsOwnable-kept old new allocator heap header_tiles table o

  pub header_kept : (h : ℕ) → 1 ≤ times h (positions (live old)) → KeepsBlock old new h
  header_kept h some =
      let l = there (LiesIn old heap_start (length old)) h (positions (live old)) (live-lie old allocator heap) some in
      let first = word-same old new h (changes.others h 4 (inr (omega (arith, l.low)))) in
      record {
        live = rw first refl;
        has_tag = word-same old new (h + 8) (changes.others (h + 8) 4 (inr (omega (arith, l.low))));
        room = rw first (omega arith);
        payload = changes.others (h + 16) (payload_size old h) (inr (omega (arith, l.low)));
      }
