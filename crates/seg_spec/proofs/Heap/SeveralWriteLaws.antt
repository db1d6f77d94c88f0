-- Writes inside the payloads of several allocated blocks. The heap stays well-formed, and all of it
-- outside the written bytes is kept. Before the heap only the word of the free structure is known
-- to be kept.
use Rattle.std.proofs.Common.{◌≡◌, ◌≢◌, ℕ, ◌+◌, ◌*◌, ◌≤◌, ◌⊎◌, inl, inr, true, false, List, [], ◌∷◌, length, refl, sym, ◌∙◌, subst, arith}
use Rattle.std.proofs.lemmas.Bool.{false≢true}
use Rattle.std.specs.Prelude.{⊤}
use Rattle.std.specs.List.{AllByRecursion}
use Rattle.seg_spec.specs.Bytes.{word, IsSame}
use Rattle.seg_spec.specs.Header.{free_word}
use Rattle.seg_spec.specs.Types.{Table}
use Rattle.seg_spec.specs.Heap.{Tile, units_at, link_at, tiles, live, gaps, free_of, IsHeap, heap_start, KeepsTiles}
use Rattle.seg_spec.specs.Block.{IsInside, KeepsHeader, KeepsBlock, IsOwnable, payload_size}
use Rattle.seg_spec.specs.Apart.{Separate, KeepsBlockAround}
use Rattle.seg_spec.specs.Sound.{times, positions}
use Rattle.seg_spec.proofs.SliceLaws.{IsSame-part}
use Rattle.seg_spec.proofs.Heap.TileLaws.{gaps_between-live_of}
use Rattle.seg_spec.proofs.Values.PlaceFrameLaws.{each_weaker, each_both, word-same, target-same}
use Rattle.seg_spec.proofs.Heap.LiveBlockLaws.{LiesIn, there, live-lie, live-apart, OneOrApart}
use Rattle.seg_spec.proofs.Heap.HeapFrameLaws.{IsHeap-kept, live-kept, IsOwnable-kept}
use Rattle.seg_spec.proofs.Heap.BlockWriteLaws.{Spot, spots, each_free_tile, tiles_above}

-- n bytes in the payload of a block
pub record Range : Type 0 where
  pub at : ℕ
  pub n : ℕ
  pub block : ℕ

abbrev pub Beside : ℕ → ℕ → List Range → Type 0
Beside p m ranges = AllByRecursion (λ r. Separate p m r.at r.n) ranges

-- a range lies in an allocated block
pub record IsWritable (bytes : List ℕ) (r : Range) : Type 0 where
  pub inside : IsInside bytes r.block r.at r.n
  pub is_live : 1 ≤ times r.block (positions (live bytes))

all_so : {X : Type 0} (xs : List X) → AllByRecursion (λ x. ⊤) xs
all_so [] = tt
all_so (x ∷ xs) = (tt, all_so xs)

module _ (old new : List ℕ) (allocator : ℕ) (heap : IsHeap allocator old) (ranges : List Range) (writable : AllByRecursion (IsWritable old) ranges)
    (length_kept : length new ≡ length old) (root_kept : IsSame old new free_word 4) (beside : (p m : ℕ) → heap_start ≤ p → Beside p m ranges → IsSame old new p m) where
  spots_for : (rs : List Range) → AllByRecursion (IsWritable old) rs → AllByRecursion (λ t. AllByRecursion (λ r. Spot old r.block t) rs) (tiles old)
  unfolding live
  spots_for [] w = all_so (tiles old)
  spots_for (r ∷ rs) w = each_both _ _ _ (λ t a b. (a, b)) (tiles old) (spots old r.block (tiles old) heap_start (length old) 0 (omega arith) heap.filled heap.headers w.0.is_live) (spots_for rs w.1)

  header_apart : (t : Tile) (r : Range) → IsInside old r.block r.at r.n → Spot old r.block t → Separate t.at 16 r.at r.n
  header_apart t r inside s = go s.one_or_apart
    where
      go : ((t.at ≡ r.block) × (t.live ≡ true)) ⊎ Separate t.at (16 * t.units) r.block (16 * units_at old r.block) → Separate t.at 16 r.at r.n
      go (inl e) = inl (let l = inside.low in let same = e.0 in omega arith)
      go (inr (inl l)) = inl (let low = inside.low in let two = s.size in omega arith)
      go (inr (inr l)) = inr (let high = inside.high in omega arith)

  free_apart : (t : Tile) (r : Range) → IsInside old r.block r.at r.n → Spot old r.block t → t.live ≡ false → Separate (t.at + 16) 16 r.at r.n
  free_apart t r inside s free = go s.one_or_apart
    where
      go : ((t.at ≡ r.block) × (t.live ≡ true)) ⊎ Separate t.at (16 * t.units) r.block (16 * units_at old r.block) → Separate (t.at + 16) 16 r.at r.n
      go (inl e) = absurd (false≢true (sym free ∙ e.1))
      go (inr (inl l)) = inl (let low = inside.low in let two = s.size in omega arith)
      go (inr (inr l)) = inr (let high = inside.high in omega arith)

  headers_beside : (t : Tile) (rs : List Range) → AllByRecursion (IsWritable old) rs → AllByRecursion (λ r. Spot old r.block t) rs → Beside t.at 16 rs
  headers_beside t rs w s = each_both _ _ _ (λ r a b. header_apart t r a.inside b) rs w s

  free_beside : (t : Tile) (rs : List Range) → t.live ≡ false → AllByRecursion (IsWritable old) rs → AllByRecursion (λ r. Spot old r.block t) rs → Beside (t.at + 16) 16 rs
  free_beside t rs free w s = each_both _ _ _ (λ r a b. free_apart t r a.inside b free) rs w s

  gaps_free : gaps old ≡ free_of (tiles old)
  unfolding live
  gaps_free = gaps_between-live_of (tiles old) true heap_start (length old) heap.filled heap.apart

  each_above : AllByRecursion (λ t. (heap_start ≤ t.at) × (2 ≤ t.units)) (tiles old)
  each_above = tiles_above (tiles old) heap_start (length old) heap.filled

  pub tiles_same : KeepsTiles old new
  tiles_same = record {
    length_kept = length_kept;
    root_kept = root_kept;
    headers_kept = each_both _ _ _ (λ t a s. beside t.at 16 a.0 (headers_beside t ranges writable s)) (tiles old) each_above (spots_for ranges writable);
    free_kept = subst (λ gs. AllByRecursion (λ g. IsSame old new (g.at + 16) 16) gs) (sym gaps_free)
        (each_free_tile _ (tiles old) (each_both _ _ _ (λ t a s free. beside (t.at + 16) 16 (let low = a.0 in omega arith) (free_beside t ranges free writable s)) (tiles old) each_above (spots_for ranges writable)));
  }

  pub heap_same : IsHeap allocator new
  heap_same = IsHeap-kept old new allocator heap tiles_same

  pub live_same : live new ≡ live old
  live_same = live-kept old new allocator heap tiles_same

  pub ownable_same : (table : Table) → AllByRecursion (λ b. IsOwnable old table b.at) (live old) → AllByRecursion (λ b. IsOwnable new table b.at) (live new)
  ownable_same table o = IsOwnable-kept old new allocator heap tiles_same table o

  -- ---- a single allocated block

  module _ (x : ℕ) (is_live : 1 ≤ times x (positions (live old))) where
    lies : LiesIn old heap_start (length old) x
    lies = there (LiesIn old heap_start (length old)) x (positions (live old)) (live-lie old allocator heap) is_live

    one_or_apart : (r : Range) → IsWritable old r → OneOrApart old r.block x
    one_or_apart r w = there (OneOrApart old r.block) x (positions (live old)) (there (λ t. AllByRecursion (OneOrApart old t) (positions (live old))) r.block (positions (live old)) (live-apart old allocator heap) w.is_live) is_live

    header_off : (r : Range) → IsWritable old r → Separate x 16 r.at r.n
    header_off r w = go (one_or_apart r w)
      where
        go : OneOrApart old r.block x → Separate x 16 r.at r.n
        go (inl e) = inl (let l = w.inside.low in omega arith)
        go (inr (inl l)) = inr (let high = w.inside.high in omega arith)
        go (inr (inr l)) = inl (let low = w.inside.low in let two = lies.size in omega arith)

    -- the block's header is kept
    pub header_same : IsSame old new x 16
    header_same = beside x 16 lies.low (each_weaker _ _ (λ r w. header_off r w) ranges writable)

    -- a part of the block that doesn't overlap the written ranges is kept
    pub part_same : (p m : ℕ) → x ≤ p → p + m ≤ x + 16 * units_at old x → AllByRecursion (λ r. (r.block ≡ x) → Separate p m r.at r.n) ranges → IsSame old new p m
    part_same p m low high apart = beside p m (let at = lies.low in omega arith) (each_both _ _ _ (λ r w a. go r w a (one_or_apart r w)) ranges writable apart)
      where
        go : (r : Range) → IsWritable old r → (r.block ≡ x → Separate p m r.at r.n) → OneOrApart old r.block x → Separate p m r.at r.n
        go r w a (inl e) = a (sym e)
        go r w a (inr (inl l)) = inr (let h = w.inside.high in omega arith)
        go r w a (inr (inr l)) = inl (let h = w.inside.low in omega arith)

    first_word : word new x ≡ word old x
    first_word = word-same old new x (IsSame-part old new x 16 x 4 (omega arith) (omega arith) header_same)

    pub units_same : units_at new x ≡ units_at old x
    units_same = rw first_word refl

    pub header_then : KeepsHeader old new x
    header_then = record {
      live = rw first_word refl;
      has_tag = word-same old new (x + 8) (IsSame-part old new x 16 (x + 8) 4 (omega arith) (omega arith) header_same);
      room = rw units_same (omega arith);
    }

    pub link_same : link_at new x ≡ link_at old x
    link_same = target-same old new (x + 12) (IsSame-part old new x 16 (x + 12) 4 (omega arith) (omega arith) header_same)

    -- a block is kept if no range lies in it
    pub whole_then : AllByRecursion (λ r. r.block ≢ x) ranges → KeepsBlock old new x
    whole_then others = record {
      live = header_then.live;
      has_tag = header_then.has_tag;
      room = header_then.room;
      payload = part_same (x + 16) (payload_size old x) (omega arith) (let two = lies.size in omega arith) (each_weaker _ _ (λ r ne e. absurd (ne e)) ranges others);
    }

    -- a block is kept around n bytes if each range in it lies within these
    pub around_then : (at n : ℕ) → AllByRecursion (λ r. r.block ≡ x → (at ≤ r.at) × (r.at + r.n ≤ at + n)) ranges → KeepsBlockAround old new at n x
    around_then at n within = record {
      solid = let two = lies.size in omega arith;
      header = header_then;
      payload = λ g m low high apart. part_same g m (omega arith) (let two = lies.size in omega arith) (each_weaker _ _ (λ r i e. go g m r (i e) apart) ranges within);
    }
      where
        go : (g m : ℕ) (r : Range) → (at ≤ r.at) × (r.at + r.n ≤ at + n) → Separate g m at n → Separate g m r.at r.n
        go g m r i (inl l) = inl (let a = i.0 in omega arith)
        go g m r i (inr l) = inr (let a = i.1 in omega arith)
