-- A heap whose end is cut, for any allocator.
use Rattle.std.proofs.Common.{◌≡◌, ◌≢◌, ℕ, ◌+◌, ◌-◌, ◌*◌, ◌/◌, ◌%◌, ◌^◌, ◌<◌, ◌≤◌, Bool, true, false, List, [], ◌∷◌, ◌++◌, length, cond, eqb, refl, sym, ap, ◌∙◌, subst, arith, inl, inr, ◌⊎◌, zero-add}
use Rattle.std.specs.Prelude.{Contains}
use Rattle.std.proofs.lemmas.Bool.Decides.{nat_tests}
use Rattle.std.proofs.lemmas.List.{length-take-le, append-nil}
use Rattle.seg_spec.specs.Bytes.{word, set_word, Agrees}
use Rattle.seg_spec.specs.Heap.{Span, Tile, span_of, end_of, is_live_at, Fill, AreHeaders, AreApart, HoldsGaps, live_of, free_of, heap_start, tiles, live, gaps, IsHeap, Cuts, without_end, units_to_cut}
use Rattle.seg_spec.proofs.BytesLaws.{number-part, number-set_same, number-set_other, Agrees-set_number, length-set_number}
use Rattle.seg_spec.proofs.SliceLaws.{IsSame-agrees}
use Rattle.seg_spec.proofs.Heap.TileLaws.{Fill-le, AreHeaders-back, live_of-append, free_of-append}
use Rattle.seg_block.specs.Tiling.{tile, IsTiling}
use Rattle.seg_block.specs.Blocks.{HasEnd}
use Rattle.seg_block.proofs.LiveTiles.{live_within}
use Rattle.seg_block.proofs.TileReplacementLaws.{around, aligned_end}
use Rattle.seg_block.proofs.Extents.{AreHeaders-words, front_same}
use Rattle.seg_block.proofs.FreeKept.{HoldsGaps-kept, free_kept}
use Rattle.seg_block.proofs.Heaps.{tiling_of_heap, heap_of_tiling, IsTiledHeap}

test_same : (m n : ℕ) → m ≡ n → eqb m n ≡ true
test_same m n e = grind (arith, nat_tests)

test_other : (m n : ℕ) → m ≢ n → eqb m n ≡ false
test_other m n e = grind (arith, nat_tests)

-- ---- the units to cut

cut-front : (xs : List Tile) (gs : List Span) (from to end : ℕ) → Fill from xs to → to < end → units_to_cut (free_of xs ++ gs) end ≡ units_to_cut gs end
cut-front [] gs from to end f h = refl
cut-front (t ∷ xs) gs from to end f h =
    let le = Fill-le xs (from + 16 * t.units) to f.2 in
    let rest = cut-front xs gs (from + 16 * t.units) to end f.2 h in
    elim t.live as (λ b. units_to_cut (cond b (free_of xs) (span_of t ∷ free_of xs) ++ gs) end ≡ units_to_cut gs end)
    [ true ↦ rest | false ↦ rw (test_other (t.at + 16 * t.units) end (λ e. absurd (omega (arith, f.0)))) rest ]

-- ---- tiles that fill a part of the bytes

prefix_word : (bytes : List ℕ) (n q : ℕ) → q + 4 ≤ length bytes - 16 * n → word (without_end bytes n) q ≡ word bytes q
prefix_word bytes n q high = number-part 4 bytes 0 (length bytes - 16 * n) q (omega arith) high ∙ ap (λ p. word bytes p) (zero-add q)

prefix_tiling : {allocator : ℕ} (bytes : List ℕ) (n : ℕ) (ts : List Tile) → length bytes ≤ 2 ^ 30 → 736 ≤ length bytes - 16 * n → Fill heap_start ts (length bytes - 16 * n)
    → AreHeaders bytes 0 ts → HoldsGaps allocator bytes (free_of ts) → IsTiling allocator (without_end bytes n) ts
prefix_tiling {allocator} bytes n ts small large filled headers free =
    let end = length bytes - 16 * n in
    let long : length (without_end bytes n) ≡ end = length-take-le end bytes (omega arith) in
    let same = λ (p m : ℕ) (high : p + m ≤ end). front_same bytes end p m (omega arith) high in
    record {
      tiled = record {
        small = omega arith;
        filled = subst (λ e. Fill heap_start ts e) (sym long) filled;
        headers = AreHeaders-words bytes (without_end bytes n) ts heap_start end 0 (λ q low high. prefix_word bytes n q high) filled headers;
      };
      free = HoldsGaps-kept bytes (without_end bytes n) allocator (free_of ts) (same 24 4 (omega arith)) (free_kept bytes (without_end bytes n) ts heap_start end (λ p m low high. same p m high) filled) free;
    }

module _ {allocator : ℕ} (old : List ℕ) (large : 736 ≤ length old) (h : IsHeap allocator old) (xs : List Tile) (at u : ℕ) (l : Bool) (parts : tiles old ≡ xs ++ tile at u l ∷ []) where
  pub was : IsTiling allocator old (xs ++ tile at u l ∷ [])
  was = subst (λ ts. IsTiling allocator old ts) parts (tiling_of_heap old h)

  pub apart : AreApart true (xs ++ tile at u l ∷ [])
  apart = subst (λ ts. AreApart true ts) parts h.apart

  old_is : IsTiledHeap allocator old (xs ++ tile at u l ∷ [])
  old_is = heap_of_tiling old (xs ++ tile at u l ∷ []) was apart

  pub places : (Fill heap_start xs at) × (2 ≤ u) × (at + 16 * u ≡ length old)
  places = around xs [] heap_start (length old) at u l was.tiled.filled

  pub last_flag : is_live_at old at ≡ l
  last_flag = (AreHeaders-back old xs (tile at u l ∷ []) 0 was.tiled.headers).0.live_is

  pub last_place : (at + 16 * u ≡ length old) × (2 ≤ u) × (heap_start ≤ at) × (at % 16 ≡ 0)
  last_place = (places.2, places.1, Fill-le xs heap_start at places.0, aligned_end xs heap_start at refl places.0)

  pub live_there : live old ≡ live_of (xs ++ tile at u l ∷ [])
  live_there = old_is.live_is

  old_gaps : gaps old ≡ free_of xs ++ free_of (tile at u l ∷ [])
  old_gaps = old_is.gaps_is ∙ free_of-append xs (tile at u l ∷ [])

  -- the heap is cut, if the free structure of the new bytes contains the gaps among these tiles
  pub cut_to : (new : List ℕ) (n : ℕ) (ts : List Tile) → length new ≡ length old → 736 ≤ length old - 16 * n → Fill heap_start ts (length old - 16 * n) → AreHeaders new 0 ts
      → HoldsGaps allocator new (free_of ts) → AreApart true ts → live_of ts ≡ live_of (xs ++ tile at u l ∷ [])
      → n ≡ units_to_cut (gaps old) (length old) → word new 12 ≡ (length old - 16 * n) / 16 → Agrees old new 0 12 → Agrees old new 16 24 → Agrees old new 28 heap_start
      → ((b : Span) → Contains (live old) b → Agrees old new (b.at + 8) (end_of b)) → Cuts allocator old new n
  cut_to new n ts long enough filled headers free ts_apart same n_is size front words back blocks =
      let short : length (without_end new n) ≡ length old - 16 * n = length-take-le (length new - 16 * n) new (omega arith) ∙ ap (λ m. m - 16 * n) long in
      let small = was.tiled.small in
      let now = heap_of_tiling (without_end new n) ts (prefix_tiling new n ts (omega arith) (omega arith) (subst (λ m. Fill heap_start ts (m - 16 * n)) (sym long) filled) headers free) ts_apart in
      record {
        heap = now.heap;
        cut = n_is;
        size_is = size ∙ ap (λ m. m / 16) (sym short);
        length_kept = long;
        front_kept = front;
        words_kept = words;
        back_kept = back;
        blocks_kept = blocks;
        live_kept = now.live_is ∙ same ∙ sym old_is.live_is;
      }

  abbrev pub with_size : ℕ → List ℕ
  with_size m = set_word old 12 m

  pub agrees_size : (m from to : ℕ) → (to ≤ 12) ⊎ (16 ≤ from) → Agrees old (with_size m) from to
  agrees_size m from to out = Agrees-set_number 4 old 12 m from to out

  pub word_size : (m q : ℕ) → 16 ≤ q → word (with_size m) q ≡ word old q
  word_size m q low = number-set_other 4 4 old 12 m q (inr low)

  pub block_low : (b : Span) → Contains (live old) b → (704 ≤ b.at) × (end_of b ≤ length old)
  block_low b c = live_within (xs ++ tile at u l ∷ []) heap_start (length old) b was.tiled.filled (subst (λ s. Contains s b) old_is.live_is c)

  -- if an allocated block is at the end, nothing is cut
  pub cut_live : l ≡ true → Cuts allocator old (with_size (length old / 16)) 0
  cut_live is =
      let m = length old / 16 in
      let new = with_size m in
      let whole : length old ≡ length old - 16 * 0 = omega arith in
      let none : units_to_cut (gaps old) (length old) ≡ 0 = ap (λ gs. units_to_cut gs (length old)) (old_gaps ∙ ap (λ c. free_of xs ++ free_of (tile at u c ∷ [])) is)
      ∙ cut-front xs [] heap_start at (length old) places.0 (let p = last_place in omega arith) in
      let same = λ (p k : ℕ) (low : 16 ≤ p) (high : p + k ≤ length old). IsSame-agrees old new p (p + k) p k (agrees_size m p (p + k) (inr low)) (omega arith) (omega arith) high in
      cut_to new 0 (xs ++ tile at u l ∷ []) (length-set_number 4 old 12 m) (omega arith) (subst (λ e. Fill heap_start (xs ++ tile at u l ∷ []) e) whole was.tiled.filled)
      (AreHeaders-words old new (xs ++ tile at u l ∷ []) heap_start (length old) 0 (λ q low high. word_size m q (omega arith)) was.tiled.filled was.tiled.headers)
      (HoldsGaps-kept old new allocator (free_of (xs ++ tile at u l ∷ [])) (same 24 4 (omega arith) (omega arith))
      (free_kept old new (xs ++ tile at u l ∷ []) heap_start (length old) (λ p k low high. same p k (omega arith) high) was.tiled.filled) was.free)
      apart refl (sym none) (number-set_same 4 old 12 m (omega arith) (let k = was.tiled.small in omega arith) ∙ ap (λ x. x / 16) whole) (agrees_size m 0 12 (inl (omega arith)))
      (agrees_size m 16 24 (inr (omega arith))) (agrees_size m 28 heap_start (inr (omega arith)))
      (λ b c. agrees_size m (b.at + 8) (end_of b) (inr (let w = block_low b c in omega arith)))

  module _ (is_free : l ≡ false) where
    pub free_places : live_of xs ≡ live_of (xs ++ tile at u l ∷ [])
    free_places = sym (ap (λ c. live_of (xs ++ tile at u c ∷ [])) is_free ∙ live_of-append xs (tile at u false ∷ []) ∙ append-nil (live_of xs))

    gap_units : units_to_cut (gaps old) (length old) ≡ cond (eqb at heap_start) (u - 2) u
    gap_units =
        ap (λ gs. units_to_cut gs (length old)) (old_gaps ∙ ap (λ c. free_of xs ++ free_of (tile at u c ∷ [])) is_free)
        ∙ cut-front xs (record { at = at; units = u } ∷ []) heap_start at (length old) places.0 (let p = last_place in omega arith)
        ∙ rw (test_same (at + 16 * u) (length old) places.2) refl

    -- A gap after a block is cut whole. If the heap is one gap, two units of it remain.
    pub units_of_gap : 704 < at → u ≡ units_to_cut (gaps old) (length old)
    units_of_gap above = sym (gap_units ∙ ap (λ b. cond b (u - 2) u) (test_other at heap_start (λ e. absurd (omega arith))))

    pub units_of_whole : at ≡ 704 → u - 2 ≡ units_to_cut (gaps old) (length old)
    units_of_whole first = sym (gap_units ∙ ap (λ b. cond b (u - 2) u) (test_same at heap_start first))

    pub in_front : (b : Span) → Contains (live old) b → (704 ≤ b.at) × (end_of b ≤ at)
    in_front b c = live_within xs heap_start at b places.0 (subst (λ s. Contains s b) (old_is.live_is ∙ sym free_places) c)

    pub room_in_front : 704 < at → 736 ≤ at
    room_in_front above = fill_room xs heap_start at places.0 above
      where
        fill_room : (xs : List Tile) (from to : ℕ) → Fill from xs to → from < to → from + 32 ≤ to
        fill_room [] from to f h = absurd (omega (arith, f))
        fill_room (t ∷ xs) from to f h = let le = Fill-le xs (from + 16 * t.units) to f.2 in omega (arith, f.1)

    pub first_of_whole : at ≤ 704 → (xs ≡ []) × (at ≡ 704)
    first_of_whole below = (nothing xs heap_start at places.0 below, (let p = last_place in omega arith))
      where
        nothing : (xs : List Tile) (from to : ℕ) → Fill from xs to → to ≤ from → xs ≡ []
        nothing [] from to f h = refl
        nothing (t ∷ xs) from to f h = let le = Fill-le xs (from + 16 * t.units) to f.2 in absurd (omega (arith, f.1))

-- ---- from what the steps ensure

module _ {allocator : ℕ} (old : List ℕ) (len : ℕ) (large : 736 ≤ length old) (h : IsHeap allocator old) (len_is : len ≡ length old) where
  pub never_ends : ((ts : List Tile) → 704 < len → len ≤ length old → Fill 704 ts len → AreHeaders old 0 ts → ⊥) → ⊥
  never_ends last = last (tiles old) (omega arith) (omega arith) (subst (λ e. Fill heap_start (tiles old) e) (sym len_is) h.filled) h.headers

  module _ (at u : ℕ) (last : (ts : List Tile) → 704 < len → len ≤ length old → Fill 704 ts len → AreHeaders old 0 ts → HasEnd old ts at u) where
    pub the_end : HasEnd old (tiles old) at u
    the_end = last (tiles old) (omega arith) (omega arith) (subst (λ e. Fill heap_start (tiles old) e) (sym len_is) h.filled) h.headers

    pub flag : is_live_at old at ≡ the_end.live
    flag = last_flag old large h the_end.front at u the_end.live the_end.parts

    pub cuts_live : (new : List ℕ) → is_live_at old at ≡ true → new ≡ set_word old 12 (len / 16) → Cuts allocator old new 0
    cuts_live new live new_is =
        let e = the_end in
        subst (λ b. Cuts allocator old b 0) (sym (new_is ∙ ap (λ m. set_word old 12 (m / 16)) len_is)) (cut_live old large h e.front at u e.live e.parts (sym flag ∙ live))

    -- a gap that is the whole heap can be cut if it has more than two units
    pub cuts_some : at ≤ 704 → 736 < length old → u - 2 ≡ 0 → ⊥
    cuts_some below above none = let p = last_place old large h the_end.front at u the_end.live the_end.parts in omega arith
