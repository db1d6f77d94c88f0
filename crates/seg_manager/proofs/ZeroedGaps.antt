-- Zeros in the gaps of a heap, after the words that the allocator stores there.
use Rattle.std.proofs.Common.{◌≡◌, ℕ, ◌+◌, ◌*◌, ◌≤◌, ◌⊎◌, inl, inr, true, false, List, [], ◌∷◌, ◌++◌, length, replicate, cond, refl, sym, ap, ◌∙◌, subst, arith, append-nil}
use Rattle.std.proofs.lemmas.Bool.{false≢true}
use Rattle.std.proofs.lemmas.List.{append_assoc, length-replicate}
use Rattle.std.specs.List.{AllByRecursion}
use Rattle.seg_spec.specs.Bytes.{word, slice, put, IsSame, ChangesOnly}
use Rattle.seg_spec.specs.Header.{allocator_word, free_word, back_start, back_size, KeepsFront, KeepsBack}
use Rattle.seg_spec.specs.Heap.{Span, span, Tile, span_of, end_of, units_at, is_live_at, tiles, Fill, AreHeaders, IsHeap, live, live_of, free_of, gaps, heap_start}
use Rattle.seg_spec.specs.Block.{IsOwnable, KeepsBlock, payload_size}
use Rattle.seg_spec.specs.Apart.{Separate}
use Rattle.seg_spec.specs.Sound.{Picture, IsHeld, times, positions}
use Rattle.seg_spec.proofs.BytesLaws.{Agrees-put}
use Rattle.seg_spec.proofs.Values.PlaceFrameLaws.{each_weaker, each_both, each_left, each_right, word-same, target-same}
use Rattle.seg_spec.proofs.Heap.TileLaws.{Fill-le, Fill-append, free_of-append}
use Rattle.seg_spec.proofs.Heap.HeaderLaws.{AreHeaders-agrees}
use Rattle.seg_spec.proofs.Heap.HeapFrameLaws.{each_free}
use Rattle.seg_spec.proofs.Heap.GapOrderLaws.{gaps-free}
use Rattle.seg_spec.proofs.Heap.LiveBlockLaws.{there, each_there, times-append}
use Rattle.seg_spec.proofs.Images.RootFrameLaws.{HoldsRoots-kept}
use Rattle.seg_spec.proofs.Images.RootLaws.{IsLaidOut-kept}
use Rattle.seg_spec.proofs.SliceLaws.{IsSame-part, slice-put_same, put-changes}
use Rattle.seg_value.specs.Stored.{Stored}
use Rattle.seg_manager.specs.Gaps.{spare_start, spare_size, IsZeroed, LiesBeside, ZeroesGaps}
use Rattle.seg_manager.specs.Segments.{IsSegment}
use Rattle.seg_spec.proofs.Images.LooseRootLaws.{each_joined}
use Rattle.seg_manager.proofs.LooseObjects.{allocator_same}
use Rattle.seg_spec.proofs.Frozen.KeptCountLaws.{next_same, counted_still}
use Rattle.seg_manager.proofs.KeptOrder.{KeepsOrder, order_live, order_heap}
use Rattle.seg_manager.proofs.TileWalk.{Rest, Reads, reads_tile}

-- ---- the walk

-- the gaps before a position are zeroed, and nothing else changed
pub record Zeroing (a : ℕ) (old new : List ℕ) (at : ℕ) : Type 0 where
  pub passed : List Tile
  pub others : List Tile
  pub tiles_are : tiles old ≡ passed ++ others
  pub fill : Fill heap_start passed at
  pub rest : Rest new at others
  pub length_kept : length new ≡ length old
  pub zeroed : AllByRecursion (IsZeroed a new) (free_of passed)
  pub beside : (p n : ℕ) → AllByRecursion (LiesBeside a p n) (free_of passed) → IsSame old new p n

-- a free tile lies before the end of the tiles
pub free_before : (ts : List Tile) (from to : ℕ) → Fill from ts to → AllByRecursion (λ g. (from ≤ g.at) × (2 ≤ g.units) × (end_of g ≤ to)) (free_of ts)
free_before [] from to f = tt
free_before (t ∷ ts) from to f =
    let le = Fill-le ts (from + 16 * t.units) to f.2 in
    let at_is = f.0 in
    let two = f.1 in
    let rest = each_weaker _ (λ g. (from ≤ g.at) × (2 ≤ g.units) × (end_of g ≤ to)) (λ g h. (omega (arith, h.0), h.1, h.2)) (free_of ts) (free_before ts (from + 16 * t.units) to f.2) in
    elim t.live as (λ b. AllByRecursion (λ g. (from ≤ g.at) × (2 ≤ g.units) × (end_of g ≤ to)) (cond b (free_of ts) (span_of t ∷ free_of ts))) [ true ↦ rest | false ↦ ((omega arith, two, omega arith), rest) ]

-- at the next tile, nothing changes if it is allocated, and its gap is zeroed if it is free
module _ (a : ℕ) (old mid : List ℕ) (at : ℕ) (z : Zeroing a old mid at) (t : Tile) (ts : List Tile) (parts : z.others ≡ t ∷ ts) where
  all_parts : tiles old ≡ (z.passed ++ t ∷ []) ++ ts
  all_parts = z.tiles_are ∙ ap (λ os. z.passed ++ os) parts ∙ sym (append_assoc z.passed (t ∷ []) ts)

  rest_is : Rest mid at (t ∷ ts)
  rest_is = subst (Rest mid at) parts z.rest

  fill_then : Fill heap_start (z.passed ++ t ∷ []) (at + 16 * t.units)
  fill_then = Fill-append z.passed (t ∷ []) heap_start at (at + 16 * t.units) z.fill (rest_is.fill.0, rest_is.fill.1, refl)

  module _ (next : Rest mid (at + 16 * t.units) ts) where
    pub live_passed : t.live ≡ true → Zeroing a old mid (at + 16 * t.units)
    live_passed e =
        let none : free_of (t ∷ []) ≡ [] = ap (λ b. cond b [] (span_of t ∷ [])) e in
        let same : free_of (z.passed ++ t ∷ []) ≡ free_of z.passed = free_of-append z.passed (t ∷ []) ∙ ap (λ gs. free_of z.passed ++ gs) none ∙ append-nil (free_of z.passed) in
        record {
          passed = z.passed ++ t ∷ [];
          others = ts;
          tiles_are = all_parts;
          fill = fill_then;
          rest = next;
          length_kept = z.length_kept;
          zeroed = subst (AllByRecursion (IsZeroed a mid)) (sym same) z.zeroed;
          beside = λ p n l. z.beside p n (subst (AllByRecursion (LiesBeside a p n)) same l);
        }

    module _ (new : List ℕ) (new_is : new ≡ put mid (spare_start a (span_of t)) (replicate (spare_size a (span_of t)) 0)) (few : a ≤ 1) where
      changes : ChangesOnly mid new (spare_start a (span_of t)) (spare_size a (span_of t))
      changes = rw new_is (subst (ChangesOnly mid (put mid (spare_start a (span_of t)) (replicate (spare_size a (span_of t)) 0)) (spare_start a (span_of t))) (length-replicate (spare_size a (span_of t)) 0)
          (put-changes mid (spare_start a (span_of t)) (replicate (spare_size a (span_of t)) 0)))

      zeros_long : length {A = ℕ} (replicate (spare_size a (span_of t)) 0) ≡ spare_size a (span_of t)
      zeros_long = length-replicate (spare_size a (span_of t)) 0

      within : at + 16 * t.units ≤ length mid
      within = Fill-le ts (at + 16 * t.units) (length mid) next.fill

      pub free_zeroed : t.live ≡ false → Zeroing a old new (at + 16 * t.units)
      free_zeroed e =
          let one : free_of (t ∷ []) ≡ span_of t ∷ [] = ap (λ b. cond b [] (span_of t ∷ [])) e in
          let same : free_of (z.passed ++ t ∷ []) ≡ free_of z.passed ++ span_of t ∷ [] = free_of-append z.passed (t ∷ []) ∙ ap (λ gs. free_of z.passed ++ gs) one in
          let at_is = rest_is.fill.0 in
          let two = rest_is.fill.1 in
          let wide = within in
          let mine : slice new (spare_start a (span_of t)) (spare_size a (span_of t)) ≡ replicate (spare_size a (span_of t)) 0 =
          ap (λ b. slice b (spare_start a (span_of t)) (spare_size a (span_of t))) new_is
          ∙ slice-put_same mid (spare_start a (span_of t)) (replicate (spare_size a (span_of t)) 0) (spare_size a (span_of t)) (sym (length-replicate (spare_size a (span_of t)) 0)) (omega arith) in
          let earlier : AllByRecursion (IsZeroed a new) (free_of z.passed) = each_both (IsZeroed a mid) (λ g. (heap_start ≤ g.at) × (2 ≤ g.units) × (end_of g ≤ at)) (IsZeroed a new)
          (λ g zero_g w. changes.others (spare_start a g) (spare_size a g) (inl (omega (arith, w.1, w.2))) ∙ zero_g) (free_of z.passed) z.zeroed (free_before z.passed heap_start at z.fill) in
          record {
            passed = z.passed ++ t ∷ [];
            others = ts;
            tiles_are = all_parts;
            fill = fill_then;
            rest = record {
              aligned = next.aligned;
              fill = rw changes.length_kept next.fill;
              before = next.before;
              headers = AreHeaders-agrees mid new ts (at + 16 * t.units) (length mid) next.before
                  (rw new_is (Agrees-put mid (spare_start a (span_of t)) (replicate (spare_size a (span_of t)) 0) (at + 16 * t.units) (length mid) (inr (omega (arith, zeros_long))))) next.fill next.headers;
            };
            length_kept = changes.length_kept ∙ z.length_kept;
            zeroed = subst (AllByRecursion (IsZeroed a new)) (sym same) (each_joined (IsZeroed a new) (free_of z.passed) (span_of t ∷ []) earlier (mine, tt));
            beside = λ p n l.
                let both : AllByRecursion (LiesBeside a p n) (free_of z.passed ++ span_of t ∷ []) = subst (AllByRecursion (LiesBeside a p n)) same l in
                changes.others p n (each_right (LiesBeside a p n) (free_of z.passed) (span_of t ∷ []) both).0 ∙ z.beside p n (each_left (LiesBeside a p n) (free_of z.passed) (span_of t ∷ []) both);
          }

-- the same, with the size that is read at the position
module _ (a : ℕ) (old mid : List ℕ) (at units : ℕ) (z : Zeroing a old mid at) (two : 2 ≤ units) (fits : at + 16 * units ≤ length mid) (units_are : units ≡ units_at mid at) where
  it : Reads mid at units z.others
  it = reads_tile mid at units z.others z.rest two fits units_are

  next_is : Rest mid (at + 16 * it.tile.units) it.others
  next_is = subst (λ u. Rest mid (at + 16 * u) it.others) (sym it.units_is) it.rest

  pub stepped_live : is_live_at mid at ≡ true → Zeroing a old mid (at + 16 * units)
  stepped_live e = subst (λ u. Zeroing a old mid (at + 16 * u)) it.units_is (live_passed a old mid at z it.tile it.others it.tiles_are next_is (sym it.live_is ∙ e))

  span_is : span at units ≡ span_of it.tile
  span_is = ap (λ p. span p units) (sym it.at_is) ∙ ap (span it.tile.at) (sym it.units_is)

  pub stepped_free : (new : List ℕ) → new ≡ put mid (spare_start a (span at units)) (replicate (spare_size a (span at units)) 0) → a ≤ 1 → is_live_at mid at ≡ false → Zeroing a old new (at + 16 * units)
  stepped_free new new_is few e =
      let there_is = subst (λ g. new ≡ put mid (spare_start a g) (replicate (spare_size a g) 0)) span_is new_is in
      subst (λ u. Zeroing a old new (at + 16 * u)) it.units_is (free_zeroed a old mid at z it.tile it.others it.tiles_are next_is new there_is few (sym it.live_is ∙ e))

-- ---- all gaps

-- a tile overlaps no free tile other than itself
abbrev Beside : Tile → Span → Type 0
Beside t g = ((t.live ≡ false) × (t.at ≡ g.at)) ⊎ Separate t.at (16 * t.units) g.at (16 * g.units)

pub tiles_after : (ts : List Tile) (from to : ℕ) → Fill from ts to → AllByRecursion (λ t. (from ≤ t.at) × (2 ≤ t.units) × (t.at + 16 * t.units ≤ to)) ts
tiles_after [] from to f = tt
tiles_after (t ∷ ts) from to f =
    let le = Fill-le ts (from + 16 * t.units) to f.2 in
    ((omega (arith, f.0), f.1, omega (arith, f.0)), each_weaker _ _ (λ s h. (omega (arith, h.0), h.1, h.2)) ts (tiles_after ts (from + 16 * t.units) to f.2))

all_beside : (ts : List Tile) (from to : ℕ) → Fill from ts to → AllByRecursion (λ t. AllByRecursion (Beside t) (free_of ts)) ts
all_beside [] from to f = tt
all_beside (t ∷ ts) from to f =
    let at_is = f.0 in
    let rest = all_beside ts (from + 16 * t.units) to f.2 in
    let after = free_before ts (from + 16 * t.units) to f.2 in
    let later = tiles_after ts (from + 16 * t.units) to f.2 in
    let mine : AllByRecursion (Beside t) (free_of ts) = each_weaker _ (Beside t) (λ g h. inr (inl (omega (arith, h.0)))) (free_of ts) after in
    let both : AllByRecursion (λ s. AllByRecursion (Beside s) (span_of t ∷ free_of ts)) ts = each_both _ _ (λ s. AllByRecursion (Beside s) (span_of t ∷ free_of ts)) (λ s r h. (inr (inr (omega (arith, h.0))), r)) ts rest later in
    elim t.live as (λ b. t.live ≡ b → AllByRecursion (λ s. AllByRecursion (Beside s) (cond b (free_of ts) (span_of t ∷ free_of ts))) (t ∷ ts)) [
      | true ↦ (λ e. (mine, rest))
      | false ↦ (λ e. ((inl (e, refl), mine), both))
    ] refl

-- a fact about each tile is a fact about each allocated one
each_live_tile : (P : Tile → Type 0) (Q : Span → Type 0) → ((t : Tile) → t.live ≡ true → P t → Q (span_of t)) → (ts : List Tile) → AllByRecursion P ts → AllByRecursion Q (live_of ts)
each_live_tile P Q f [] a = tt
each_live_tile P Q f (t ∷ ts) a =
    let rest = each_live_tile P Q f ts a.1 in
    elim t.live as (λ b. t.live ≡ b → AllByRecursion Q (cond b (span_of t ∷ live_of ts) (live_of ts))) [ true ↦ (λ e. (f t e a.0, rest)) | false ↦ (λ e. rest) ] refl

-- all gaps are zeroed, and nothing else changed
pub record AllZeroed (a : ℕ) (old new : List ℕ) : Type 0 where
  pub length_kept : length new ≡ length old
  pub zeroed : AllByRecursion (IsZeroed a new) (gaps old)
  pub beside : (p n : ℕ) → AllByRecursion (LiesBeside a p n) (gaps old) → IsSame old new p n

pub zeroed_all : (a : ℕ) (old new : List ℕ) (at : ℕ) → IsHeap a old → (z : Zeroing a old new at) → z.others ≡ [] → AllZeroed a old new
zeroed_all a old new at heap z none =
    let passed_is : z.passed ≡ tiles old = sym (append-nil z.passed) ∙ ap (λ ts. z.passed ++ ts) (sym none) ∙ sym z.tiles_are in
    let same : free_of z.passed ≡ gaps old = ap free_of passed_is ∙ sym (gaps-free old a heap) in
    record {
      length_kept = z.length_kept;
      zeroed = subst (AllByRecursion (IsZeroed a new)) same z.zeroed;
      beside = λ p n l. z.beside p n (subst (AllByRecursion (LiesBeside a p n)) (sym same) l);
    }

module _ (a : ℕ) (old new : List ℕ) (heap : IsHeap a old) (few : a ≤ 1) (z : AllZeroed a old new) where
  gaps_are : gaps old ≡ free_of (tiles old)
  gaps_are = gaps-free old a heap

  large : AllByRecursion (λ g. (heap_start ≤ g.at) × (2 ≤ g.units) × (end_of g ≤ length old)) (free_of (tiles old))
  large = free_before (tiles old) heap_start (length old) heap.filled

  beside_free : (p n : ℕ) → AllByRecursion (LiesBeside a p n) (free_of (tiles old)) → IsSame old new p n
  beside_free p n l = z.beside p n (subst (AllByRecursion (LiesBeside a p n)) (sym gaps_are) l)

  pub low_same : (p n : ℕ) → p + n ≤ heap_start → IsSame old new p n
  low_same p n l = beside_free p n (each_weaker _ (LiesBeside a p n) (λ g h. inl (omega (arith, h.0))) (free_of (tiles old)) large)

  record TileSame (t : Tile) : Type 0 where
    header : IsSame old new t.at 16
    first : 1 ≤ a → IsSame old new (t.at + 16) 16
    whole : t.live ≡ true → IsSame old new t.at (16 * t.units)

  tile_same : (t : Tile) → AllByRecursion (Beside t) (free_of (tiles old)) → 2 ≤ t.units → TileSame t
  tile_same t b two = record {
    header = beside_free t.at 16 (each_both (Beside t) _ (LiesBeside a t.at 16) (λ g s h. go g s h.1) (free_of (tiles old)) b large);
    first = λ some. beside_free (t.at + 16) 16 (each_both (Beside t) _ (LiesBeside a (t.at + 16) 16) (λ g s h. next some g s h.1) (free_of (tiles old)) b large);
    whole = λ on. beside_free t.at (16 * t.units) (each_both (Beside t) _ (LiesBeside a t.at (16 * t.units)) (λ g s h. all on g s h.1) (free_of (tiles old)) b large);
  }
    where
      go : (g : Span) → Beside t g → 2 ≤ g.units → LiesBeside a t.at 16 g
      go g (inl e) l = inl (omega (arith, e.1))
      go g (inr (inl s)) l = inl (omega arith)
      go g (inr (inr s)) l = inr (omega arith)

      next : 1 ≤ a → (g : Span) → Beside t g → 2 ≤ g.units → LiesBeside a (t.at + 16) 16 g
      next some g (inl e) l = inl (omega (arith, e.1))
      next some g (inr (inl s)) l = inl (omega arith)
      next some g (inr (inr s)) l = inr (omega arith)

      all : t.live ≡ true → (g : Span) → Beside t g → 2 ≤ g.units → LiesBeside a t.at (16 * t.units) g
      all on g (inl e) l = absurd (false≢true (sym e.0 ∙ on))
      all on g (inr (inl s)) l = inl (omega arith)
      all on g (inr (inr s)) l = inr (omega arith)

  all_same : AllByRecursion TileSame (tiles old)
  all_same = each_both _ _ TileSame (λ t b h. tile_same t b h.1) (tiles old) (all_beside (tiles old) heap_start (length old) heap.filled) (tiles_after (tiles old) heap_start (length old) heap.filled)

  kept_order : KeepsOrder a old new
  kept_order = record {
    length_kept = z.length_kept;
    root = low_same free_word 4 (omega arith);
    headers = each_weaker TileSame (λ t. IsSame old new t.at 16) (λ t s. s.header) (tiles old) all_same;
    own_words = λ some. subst (AllByRecursion (λ g. IsSame old new (g.at + 16) 16)) (sym gaps_are)
        (each_free (λ p. IsSame old new (p + 16) 16) (tiles old) (each_weaker TileSame (λ t. IsSame old new (t.at + 16) 16) (λ t s. s.first some) (tiles old) all_same));
  }

  pub live_same : live new ≡ live old
  live_same = order_live a old new heap kept_order

  pub heap_same : IsHeap a new
  heap_same = order_heap a old new heap kept_order

  -- an allocated block is kept, and so is its header
  record LiveSame (b : Span) : Type 0 where
    first : IsSame old new b.at (16 * b.units)
    two : 2 ≤ b.units
    units_is : units_at old b.at ≡ b.units

  tiles_sized : (ts : List Tile) (before from to : ℕ) → Fill from ts to → AreHeaders old before ts → AllByRecursion (λ t. (units_at old t.at ≡ t.units) × (2 ≤ t.units)) ts
  tiles_sized [] before from to f h = tt
  tiles_sized (t ∷ ts) before from to f h = ((h.0.units_is, f.1), tiles_sized ts t.units (from + 16 * t.units) to f.2 h.1)

  lives : AllByRecursion LiveSame (live old)
  unfolding live
  lives = each_live_tile (λ t. TileSame t × ((units_at old t.at ≡ t.units) × (2 ≤ t.units))) LiveSame (λ t on s. record { first = s.0.whole on; two = s.1.1; units_is = s.1.0 }) (tiles old)
      (each_both TileSame _ (λ t. TileSame t × ((units_at old t.at ≡ t.units) × (2 ≤ t.units))) (λ t s k. (s, k)) (tiles old) all_same (tiles_sized (tiles old) 0 heap_start (length old) heap.filled heap.headers))

  part : (b : Span) → LiveSame b → (p n : ℕ) → b.at ≤ p → p + n ≤ end_of b → IsSame old new p n
  part b s p n low high = IsSame-part old new b.at (16 * b.units) p n low high s.first

  block_same : (b : Span) → LiveSame b → KeepsBlock old new b.at
  block_same b s =
      let two = s.two in
      let units = s.units_is in
      let first = word-same old new b.at (part b s b.at 4 (omega arith) (omega arith)) in
      record {
        live = rw first refl;
        has_tag = word-same old new (b.at + 8) (part b s (b.at + 8) 4 (omega arith) (omega arith));
        room = rw first (omega arith);
        payload = part b s (b.at + 16) (payload_size old b.at) (omega arith) (omega arith);
      }

  on_positions : (bs : List Span) → AllByRecursion LiveSame bs → AllByRecursion (KeepsBlock old new) (positions bs)
  on_positions [] s = tt
  on_positions (b ∷ bs) s = (block_same b s.0, on_positions bs s.1)

  pub blocks_same : (xs : List ℕ) → ((h : ℕ) → 1 ≤ times h xs → 1 ≤ times h (positions (live old))) → AllByRecursion (KeepsBlock old new) xs
  blocks_same xs f = each_there (KeepsBlock old new) xs (λ h some. there (KeepsBlock old new) h (positions (live old)) (on_positions (live old) lives) (f h some))

  pub ownable_same : (table : Rattle.seg_spec.specs.Types.Table) → AllByRecursion (λ b. IsOwnable old table b.at) (live old) → AllByRecursion (λ b. IsOwnable new table b.at) (live new)
  ownable_same table o = subst (AllByRecursion (λ b. IsOwnable new table b.at)) (sym live_same) (each_both _ LiveSame (λ b. IsOwnable new table b.at) (λ b o s. let two = s.two in record {
    kind = o.kind;
    type = o.type;
    allowed = o.allowed;
    tag_is = word-same old new (b.at + 8) (part b s (b.at + 8) 4 (omega arith) (omega arith)) ∙ o.tag_is;
    link_is = target-same old new (b.at + 12) (part b s (b.at + 12) 4 (omega arith) (omega arith)) ∙ o.link_is;
  }) (live old) o lives)

-- ---- the picture

picture_same : (old new : List ℕ) (picture : Picture) → (held : IsHeld old picture) → word old allocator_word ≤ 1 → AllZeroed (word old allocator_word) old new → IsHeld new picture
picture_same old new picture held few z =
    let a = word old allocator_word in
    let l = held.laid_out in
    let heap = l.heap in
    let live_then : live new ≡ live old = live_same a old new heap few z in
    let front : KeepsFront old new = low_same a old new heap few z 0 free_word (omega arith) in
    let back : KeepsBack old new = low_same a old new heap few z back_start back_size (omega arith) in
    let index_kept = blocks_same a old new heap few z held.index_blocks (λ h some. omega (arith, held.owners h, times-append h held.index_blocks held.root_blocks)) in
    let roots_kept = blocks_same a old new heap few z held.root_blocks (λ h some. omega (arith, held.owners h, times-append h held.index_blocks held.root_blocks)) in
    record {
      index_blocks = held.index_blocks;
      laid_out = IsLaidOut-kept old new picture held.index_blocks l z.length_kept front back (heap_same a old new heap few z) (ownable_same a old new heap few z picture.table l.blocks) index_kept;
      root_blocks = held.root_blocks;
      roots = HoldsRoots-kept old new picture.table l.is_table held.roots roots_kept;
      owners = λ h. ap (λ bs. times h (positions bs)) live_then ∙ held.owners h;
    }

pub zeroes : (allocator : ℕ) (old new : Stored) (picture : Picture) → IsSegment allocator old picture → new.types ≡ old.types → AllZeroed allocator old.window.bytes new.window.bytes → ZeroesGaps allocator old new picture
zeroes allocator old new picture is types z =
    let few : word old.window.bytes allocator_word ≤ 1 = is.held.laid_out.header.allocator_is in
    let heap = is.held.laid_out.heap in
    let z' : AllZeroed (word old.window.bytes allocator_word) old.window.bytes new.window.bytes = rw is.allocator_is z in
    let front = low_same (word old.window.bytes allocator_word) old.window.bytes new.window.bytes heap few z' 0 free_word (omega arith) in
    let back = low_same (word old.window.bytes allocator_word) old.window.bytes new.window.bytes heap few z' back_start back_size (omega arith) in
    record {
      segment = record {
        held = picture_same old.window.bytes new.window.bytes picture is.held few z';
        counted = counted_still old.window.bytes new.window.bytes picture (next_same old.window.bytes new.window.bytes back) is.counted;
        table_is = types ∙ is.table_is;
        allocator_is = allocator_same old.window.bytes new.window.bytes front ∙ is.allocator_is;
      };
      length_kept = z.length_kept;
      live_is = live_same (word old.window.bytes allocator_word) old.window.bytes new.window.bytes heap few z';
      zeroed = z.zeroed;
      beside = z.beside;
    }
