-- A heap to which the units after it are added, for any allocator.
use Rattle.std.proofs.Common.{◌≡◌, ◌≢◌, ℕ, ◌+◌, ◌-◌, ◌*◌, ◌/◌, ◌^◌, ◌<◌, ◌≤◌, Bool, true, false, List, [], ◌∷◌, ◌++◌, length, min, cond, eqb, ◌&&◌, refl, sym, ap, ◌∙◌, subst, arith, inl, inr, ◌⊎◌, zero-add}
use Rattle.std.specs.Prelude.{Contains}
use Rattle.std.proofs.lemmas.Bool.Decides.{nat_tests}
use Rattle.std.proofs.lemmas.List.{length-take-le, append-nil}
use Rattle.std.proofs.lemmas.List.Elements.{Contains-append_left, Contains-append_right}
use Rattle.seg_spec.specs.Bytes.{slice, word, set_word, Agrees, IsSame}
use Rattle.seg_spec.specs.Heap.{Span, Tile, span_of, end_of, IsLive, Fill, AreHeaders, AreApart, HoldsGaps, live_of, free_of, heap_start, tiles, live, IsHeap, Gives, Extends, without, without_end, after_extend}
use Rattle.seg_spec.proofs.BytesLaws.{part, number-part, slice-part, number-set_same, number-set_other, number-agrees, Agrees-within, Agrees-trans, Agrees-set_number, length-set_number}
use Rattle.seg_spec.proofs.SliceLaws.{IsSame-agrees, IsSame-trans}
use Rattle.seg_spec.proofs.Heap.TileLaws.{Fill-le, Fill-append, AreApart-append, AreApart-front, AreApart-back, units_after, live_of-append, free_of-append}
use Rattle.seg_spec.proofs.Heap.HeaderLaws.{IsHeader-same}
use Rattle.seg_block.specs.Extents.{Enlarges}
use Rattle.seg_block.specs.Sizes.{set_size}
use Rattle.seg_block.specs.Tiling.{tile, IsTiling}
use Rattle.seg_block.specs.Blocks.{HasEnd}
use Rattle.seg_block.proofs.SizeLaws.{set_size-headers, Agrees-set_size, length-set_size}
use Rattle.seg_block.proofs.LiveTiles.{live_within}
use Rattle.seg_block.proofs.TileReplacementLaws.{around}
use Rattle.seg_block.proofs.LiveBlocks.{without-other}
use Rattle.seg_block.proofs.Heaps.{tiling_of_heap, heap_of_tiling, IsTiledHeap}
use Rattle.seg_block.proofs.FreeKept.{HoldsGaps-kept, free_kept}

-- ---- headers whose words are the same

pub AreHeaders-words : (a b : List ℕ) (ts : List Tile) (from to before : ℕ) → ((q : ℕ) → from ≤ q → q + 4 ≤ to → word b q ≡ word a q) → Fill from ts to → AreHeaders a before ts → AreHeaders b before ts
AreHeaders-words a b [] from to before same f h = tt
AreHeaders-words a b (t ∷ ts) from to before same f h =
    let le = Fill-le ts (from + 16 * t.units) to f.2 in
    let first = same t.at (omega (arith, f.0)) (omega (arith, f.0, f.1)) in
    let back = same (t.at + 4) (omega (arith, f.0)) (omega (arith, f.0, f.1)) in
    let tag = same (t.at + 8) (omega (arith, f.0)) (omega (arith, f.0, f.1)) in
    (IsHeader-same a b before before t first (back ∙ h.0.before_is) tag h.0, AreHeaders-words a b ts (from + 16 * t.units) to t.units (λ q low high. same q (omega arith) high) f.2 h.1)

-- a slice of the first bytes is that slice of the longer list
pub front_same : (bytes : List ℕ) (end p n : ℕ) → end ≤ length bytes → p + n ≤ end → slice (part bytes 0 end) p n ≡ slice bytes p n
front_same bytes end p n inside high = slice-part bytes 0 end p n (omega (arith, inside)) high ∙ ap (λ q. slice bytes q n) (zero-add p)

-- ---- the blocks

extend_test : (n e end : ℕ) → e ≢ end → (eqb n 1 && eqb e end) ≡ false
extend_test n e end h = grind (arith, nat_tests)

extend_not : (n e end : ℕ) → n ≢ 1 → (eqb n 1 && eqb e end) ≡ false
extend_not n e end h = grind (arith, nat_tests)

extend_yes : (e end : ℕ) → e ≡ end → (eqb 1 1 && eqb e end) ≡ true
extend_yes e end h = grind (arith, nat_tests)

after_extend-more : (bs : List Span) (end n : ℕ) → n ≢ 1 → after_extend bs end n ≡ bs
after_extend-more [] end n h = refl
after_extend-more (b ∷ bs) end n h = rw (extend_not n (end_of b) end h) (ap (λ l. b ∷ l) (after_extend-more bs end n h))

after_extend-one : (xs : List Tile) (from at u end : ℕ) (l : Bool) → 2 ≤ u → Fill from xs at → at + 16 * u ≡ end → after_extend (live_of (xs ++ tile at u l ∷ [])) end 1 ≡ live_of (xs ++ tile at (u + 1) l ∷ [])
after_extend-one [] from at u end true large f e = rw (extend_yes (at + 16 * u) end e) refl
after_extend-one [] from at u end false large f e = refl
after_extend-one (t ∷ xs) from at u end l large f e =
    let le = Fill-le xs (from + 16 * t.units) at f.2 in
    let rest = after_extend-one xs (from + 16 * t.units) at u end l large f.2 e in
    elim t.live as (λ c. after_extend (cond c (span_of t ∷ live_of (xs ++ tile at u l ∷ [])) (live_of (xs ++ tile at u l ∷ []))) end 1 ≡ cond c (span_of t ∷ live_of (xs ++ tile at (u + 1) l ∷ [])) (live_of (xs ++ tile at (u + 1) l ∷ [])))
    [ true ↦ rw (extend_test 1 (t.at + 16 * t.units) end (λ k. absurd (omega (arith, f.0)))) (ap (λ s. span_of t ∷ s) rest) | false ↦ rest ]

-- ---- the heap before

module _ {allocator : ℕ} (old : List ℕ) (n : ℕ) (small : length old ≤ 2 ^ 30) (room : 736 + 16 * n ≤ length old) (h : IsHeap allocator (without_end old n)) where
  abbrev front : List ℕ
  front = without_end old n

  abbrev end : ℕ
  end = length old - 16 * n

  abbrev units : ℕ
  units = length old / 16

  abbrev pub sized : List ℕ
  sized = set_word old 12 units

  long : length front ≡ end
  long = length-take-le end old (omega arith)

  pub length-sized : length sized ≡ length old
  length-sized = length-set_number 4 old 12 units

  was : IsTiling allocator front (tiles front)
  was = tiling_of_heap front h

  pub filled : Fill heap_start (tiles front) end
  filled = subst (λ e. Fill heap_start (tiles front) e) long was.tiled.filled

  old_word : (q : ℕ) → q + 4 ≤ end → word old q ≡ word front q
  old_word q high = ap (λ p. word old p) (sym (zero-add q)) ∙ sym (number-part 4 old 0 end q (omega arith) high)

  sized_word : (q : ℕ) → 16 ≤ q → q + 4 ≤ end → word sized q ≡ word front q
  sized_word q low high = number-set_other 4 4 old 12 units q (inr (omega arith)) ∙ old_word q high

  pub headers : AreHeaders sized 0 (tiles front)
  headers = AreHeaders-words front sized (tiles front) heap_start end 0 (λ q low high. sized_word q (omega arith) high) filled was.tiled.headers

  agrees_sized : (from to : ℕ) → (to ≤ 12) ⊎ (16 ≤ from) → Agrees old sized from to
  agrees_sized from to out = Agrees-set_number 4 old 12 units from to out

  sized_same : (p m : ℕ) → 16 ≤ p → p + m ≤ end → IsSame front sized p m
  sized_same p m low high = IsSame-agrees old sized p (p + m) p m (agrees_sized p (p + m) (inr low)) (omega arith) (omega arith) (omega arith) ∙ sym (front_same old end p m (omega arith) high)

  -- the free structure stays if a step keeps the bytes before the new units
  kept_free : (new : List ℕ) → ((p m : ℕ) → 16 ≤ p → p + m ≤ end → IsSame sized new p m) → HoldsGaps allocator new (free_of (tiles front))
  kept_free new same =
      let all = λ (p m : ℕ) (low : 16 ≤ p) (high : p + m ≤ end). IsSame-trans front sized new p m (sized_same p m low high) (same p m low high) in
      HoldsGaps-kept front new allocator (free_of (tiles front)) (all 24 4 (omega arith) (omega arith)) (free_kept front new (tiles front) heap_start end (λ p m low high. all p m (omega arith) high) filled) was.free

  pub free : HoldsGaps allocator sized (free_of (tiles front))
  free = kept_free sized (λ p m low high. refl)

  pub live_was : live front ≡ live_of (tiles front)
  live_was = (heap_of_tiling front (tiles front) was h.apart).live_is

  size_word_is : word sized 12 ≡ units
  size_word_is = number-set_same 4 old 12 units (omega arith) (omega arith)

  pub live_low : (b : Span) → Contains (live front) b → (704 ≤ b.at) × (end_of b ≤ end)
  live_low b c = live_within (tiles front) heap_start end b filled (subst (λ l. Contains l b) live_was c)

  -- ---- no units

  pub extends_zero : n ≡ 0 → Extends allocator old sized n
  extends_zero none =
      let longer = length-sized in
      let same : end ≡ length sized = omega arith in
      let tiling : IsTiling allocator sized (tiles front) = record { tiled = record { small = omega arith; filled = subst (λ e. Fill heap_start (tiles front) e) same filled; headers = headers }; free = free } in
      let now = heap_of_tiling sized (tiles front) tiling h.apart in
      record {
        heap = now.heap;
        size_is = size_word_is ∙ ap (λ m. m / 16) (sym longer);
        length_kept = longer;
        front_kept = agrees_sized 0 12 (inl (omega arith));
        words_kept = agrees_sized 16 24 (inr (omega arith));
        back_kept = agrees_sized 28 heap_start (inr (omega arith));
        blocks_kept = λ b c. agrees_sized (b.at + 8) (end_of b) (inr (let w = live_low b c in omega arith));
        extends = now.live_is ∙ sym live_was ∙ sym (after_extend-more (live front) end n (λ e. absurd (omega arith)));
      }

  -- ---- one unit

  module _ (xs : List Tile) (at u : ℕ) (l : Bool) (parts : tiles front ≡ xs ++ tile at u l ∷ []) where
    pub ended : Fill heap_start (xs ++ tile at u l ∷ []) end
    ended = subst (λ ts. Fill heap_start ts end) parts filled

    pub places : (Fill heap_start xs at) × (2 ≤ u) × (at + 16 * u ≡ end)
    places = around xs [] heap_start end at u l ended

    pub last_headers : AreHeaders sized 0 (xs ++ tile at u l ∷ [])
    last_headers = subst (λ ts. AreHeaders sized 0 ts) parts headers

    pub last_end : at + 16 * u ≡ end
    last_end = places.2

    pub last_free : HoldsGaps allocator sized (free_of (xs ++ tile at u l ∷ []))
    last_free = subst (λ ts. HoldsGaps allocator sized (free_of ts)) parts free

    last_apart : AreApart true (xs ++ tile at u l ∷ [])
    last_apart = subst (λ ts. AreApart true ts) parts h.apart

    -- the heap is extended by one unit if the last tile gets it
    pub extends_one : n ≡ 1 → (new : List ℕ) → Enlarges allocator sized new xs at u (u + 1) l → Extends allocator old new n
    extends_one one new g =
        let e = places.2 in
        let short = length-sized in
        let longer = g.length_kept ∙ short in
        let tiling : IsTiling allocator new (xs ++ tile at (u + 1) l ∷ []) = record {
          tiled = record {
            small = omega arith;
            filled = Fill-append xs (tile at (u + 1) l ∷ []) heap_start at (length new) places.0 (refl, omega (arith, places.1), omega arith);
            headers = g.headers;
          };
          free = g.free;
        } in
        let apart : AreApart true (xs ++ tile at (u + 1) l ∷ []) = AreApart-append xs (tile at (u + 1) l ∷ []) true (AreApart-front xs (tile at u l ∷ []) true last_apart) (AreApart-back xs (tile at u l ∷ []) true last_apart) in
        let now = heap_of_tiling new (xs ++ tile at (u + 1) l ∷ []) tiling apart in
        let front_kept = g.spared.front_kept in
        record {
          heap = now.heap;
          size_is = number-agrees sized new 0 24 4 12 front_kept (omega arith) (omega arith) ∙ size_word_is ∙ ap (λ m. m / 16) (sym longer);
          length_kept = longer;
          front_kept = Agrees-trans old sized new 0 12 (agrees_sized 0 12 (inl (omega arith))) (Agrees-within sized new 0 24 0 12 front_kept (omega arith) (omega arith));
          words_kept = Agrees-trans old sized new 16 24 (agrees_sized 16 24 (inr (omega arith))) (Agrees-within sized new 0 24 16 24 front_kept (omega arith) (omega arith));
          back_kept = Agrees-trans old sized new 28 heap_start (agrees_sized 28 heap_start (inr (omega arith))) g.spared.back_kept;
          blocks_kept = λ b c. let w = live_low b c in Agrees-trans old sized new (b.at + 8) (end_of b) (agrees_sized (b.at + 8) (end_of b) (inr (omega arith)))
              (g.spared.tiles_kept b (subst (λ s. Contains s b) (live_was ∙ ap live_of parts) c));
          extends = now.live_is ∙ sym (after_extend-one xs heap_start at u end l places.1 places.0 places.2) ∙ (λ i. after_extend (live_of (sym parts i)) end (sym one i)) ∙ ap (λ s. after_extend s end n) (sym live_was);
        }

  -- ---- more units

  units_after-last : (xs : List Tile) (at u : ℕ) (l : Bool) (before : ℕ) → units_after before (xs ++ tile at u l ∷ []) ≡ u
  units_after-last [] at u l before = refl
  units_after-last (t ∷ xs) at u l before = units_after-last xs at u l t.units

  module _ (xs : List Tile) (at u : ℕ) (l : Bool) (parts : tiles front ≡ xs ++ tile at u l ∷ []) (more : 2 ≤ n) where
    abbrev repeated : List ℕ
    repeated = set_word sized (end + 4) u

    abbrev pub added : List ℕ
    added = set_size repeated end n true

    length-repeated : length repeated ≡ length old
    length-repeated = length-set_number 4 sized (end + 4) u ∙ length-sized

    length-added : length added ≡ length old
    length-added = length-set_size repeated end n true ∙ length-repeated

    added_kept : (from to : ℕ) → to ≤ end → Agrees sized added from to
    added_kept from to high = Agrees-trans sized repeated added from to (Agrees-set_number 4 sized (end + 4) u from to (inl (omega arith))) (Agrees-set_size repeated end n true from to (inl high) (inl (omega arith)))

    low_end : 704 < end
    low_end = omega arith

    size_small : u < 2 ^ 32
    size_small =
        let p = around xs [] heap_start end at u l (subst (λ ts. Fill heap_start ts end) parts filled) in
        let e = p.2 in omega arith

    added_tiling : IsTiling allocator added (tiles front ++ tile end n true ∷ [])
    added_tiling =
        let longer = length-added in
        let short = length-repeated in
        let sized_long = length-sized in
        let back : Fill (end + 16 * n) [] (length repeated) = omega arith in
        let fills : Fill heap_start (tiles front ++ tile end n true ∷ []) (length added) = Fill-append (tiles front) (tile end n true ∷ []) heap_start end (length added) filled (refl, more, omega arith) in
        record {
          tiled = record {
            small = omega arith;
            filled = fills;
            headers = set_size-headers repeated (tiles front) [] end n 0 true (omega arith) filled more back
                (AreHeaders-words sized repeated (tiles front) heap_start end 0 (λ q low high. number-set_other 4 4 sized (end + 4) u q (inl (omega arith))) filled headers) tt
                (number-set_same 4 sized (end + 4) u (omega arith) size_small ∙ sym (ap (units_after 0) parts ∙ units_after-last xs at u l 0)) (λ e. absurd (never e));
          };
          free = subst (λ gs. HoldsGaps allocator added gs) (sym (free_of-append (tiles front) (tile end n true ∷ []) ∙ append-nil (free_of (tiles front))))
              (kept_free added (λ p m low high. IsSame-agrees sized added p (p + m) p m (added_kept p (p + m) high) (omega arith) (omega arith) (omega arith)));
        }
      where
        never : true ≡ false → ⊥
        never e = cc

    added_is : IsTiledHeap allocator added (tiles front ++ tile end n true ∷ [])
    added_is = heap_of_tiling added (tiles front ++ tile end n true ∷ []) added_tiling (AreApart-append (tiles front) (tile end n true ∷ []) true h.apart ((λ _. refl), tt))

    pub added_heap : IsHeap allocator added
    added_heap = added_is.heap

    added_live : live added ≡ live front ++ record { at = end; units = n } ∷ []
    added_live = added_is.live_is ∙ live_of-append (tiles front) (tile end n true ∷ []) ∙ ap (λ s. s ++ record { at = end; units = n } ∷ []) (sym live_was)

    pub added_block : Contains (live added) (record { at = end; units = n })
    added_block = subst (λ s. Contains s (record { at = end; units = n })) (sym added_live) (Contains-append_right (live front) (record { at = end; units = n } ∷ []) (record { at = end; units = n }) (0, omega arith, refl))

    agrees_added : (from to : ℕ) → (to ≤ 12) ⊎ (16 ≤ from) → to ≤ end → Agrees old added from to
    agrees_added from to out high = Agrees-trans old sized added from to (agrees_sized from to out) (added_kept from to high)

    pub extends_more : (new : List ℕ) → Gives allocator added new end → Extends allocator old new n
    extends_more new g =
        let long_new = g.kept.length_kept ∙ length-added in
        let ended = low_end in
        let left : live new ≡ live front =
        g.given ∙ ap (λ s. without end s) (added_live ∙ ap (λ s. s ++ record { at = end; units = n } ∷ []) live_was) ∙ without-other end (tiles front) [] (record { at = end; units = n }) heap_start end refl filled (omega arith)
        ∙ append-nil (live_of (tiles front)) ∙ sym live_was in
        record {
          heap = g.heap;
          size_is = number-agrees added new 0 24 4 12 g.kept.front_kept (omega arith) (omega arith) ∙ number-agrees sized added 0 16 4 12 (added_kept 0 16 (omega arith)) (omega arith) (omega arith)
              ∙ size_word_is ∙ ap (λ m. m / 16) (sym long_new);
          length_kept = long_new;
          front_kept = Agrees-trans old added new 0 12 (agrees_added 0 12 (inl (omega arith)) (omega arith)) (Agrees-within added new 0 24 0 12 g.kept.front_kept (omega arith) (omega arith));
          words_kept = Agrees-trans old added new 16 24 (agrees_added 16 24 (inr (omega arith)) (omega arith)) (Agrees-within added new 0 24 16 24 g.kept.front_kept (omega arith) (omega arith));
          back_kept = Agrees-trans old added new 28 heap_start (agrees_added 28 heap_start (inr (omega arith)) (omega arith)) g.kept.back_kept;
          blocks_kept = λ b c.
              let w = live_low b c in
              let still = g.kept.blocks_kept b b (subst (λ s. Contains s b) (sym added_live) (Contains-append_left (live front) (record { at = end; units = n } ∷ []) b c)) (subst (λ s. Contains s b) (sym left) c) refl in
              Agrees-trans old added new (b.at + 8) (end_of b) (agrees_added (b.at + 8) (end_of b) (inr (omega arith)) w.1)
              (Agrees-within added new (b.at + 8) (b.at + 16 * min b.units b.units) (b.at + 8) (end_of b) still (omega arith) (omega arith));
          extends = left ∙ sym (after_extend-more (live front) end n (λ e. absurd (omega arith)));
        }

-- ---- from what the steps ensure

module _ {allocator : ℕ} (old after : List ℕ) (n len : ℕ) (small : length old ≤ 2 ^ 30) (room : 736 + 16 * n ≤ length old) (h : IsHeap allocator (without_end old n))
    (len_is : len ≡ length old) (after_is : after ≡ set_word old 12 (len / 16)) where
  pub sized_is : after ≡ sized old n small room h
  sized_is = after_is ∙ ap (λ m. set_word old 12 (m / 16)) len_is

  pub extended_zero : n ≡ 0 → Extends allocator old after n
  extended_zero none = subst (λ b. Extends allocator old b n) (sym sized_is) (extends_zero old n small room h none)

  pub end_never : ((ts : List Tile) → 704 < len - 16 * n → len - 16 * n ≤ length after → Fill 704 ts (len - 16 * n) → AreHeaders after 0 ts → ⊥) → ⊥
  end_never last =
      let e : length old - 16 * n ≡ len - 16 * n = ap (λ m. m - 16 * n) (sym len_is) in
      last (tiles (without_end old n)) (omega arith) (omega (arith, ap length after_is, length-set_number 4 old 12 (len / 16)))
      (subst (λ p. Fill heap_start (tiles (without_end old n)) p) e (filled old n small room h)) (subst (λ b. AreHeaders b 0 (tiles (without_end old n))) (sym sized_is) (headers old n small room h))

  module _ (at u : ℕ) (last : (ts : List Tile) → 704 < len - 16 * n → len - 16 * n ≤ length after → Fill 704 ts (len - 16 * n) → AreHeaders after 0 ts → HasEnd after ts at u) where
    pub the_end : HasEnd after (tiles (without_end old n)) at u
    the_end =
        let e : length old - 16 * n ≡ len - 16 * n = ap (λ m. m - 16 * n) (sym len_is) in
        last (tiles (without_end old n)) (omega arith) (omega (arith, ap length after_is, length-set_number 4 old 12 (len / 16)))
        (subst (λ p. Fill heap_start (tiles (without_end old n)) p) e (filled old n small room h)) (subst (λ b. AreHeaders b 0 (tiles (without_end old n))) (sym sized_is) (headers old n small room h))

    -- the new end, if one unit is added to the last tile
    pub end_units : n ≡ 1 → ((len - at) / 16 ≡ u + 1) × (at + 16 * (u + 1) ≡ length after)
    end_units one =
        let e = the_end in
        let end_is = last_end old n small room h e.front at u e.live e.parts in
        let k = ap length after_is ∙ length-set_number 4 old 12 (len / 16) in
        (omega arith, omega arith)

    pub extended_one : n ≡ 1 → (new : List ℕ) → ((xs : List Tile) (l : Bool) → Fill 704 (xs ++ tile at u l ∷ []) (at + 16 * u) → AreHeaders after 0 (xs ++ tile at u l ∷ [])
        → HoldsGaps allocator after (free_of (xs ++ tile at u l ∷ [])) → Enlarges allocator after new xs at u ((len - at) / 16) l) → Extends allocator old new n
    extended_one one new enlarges =
        let e = the_end in
        let sized_same = sym sized_is in
        let end_is = last_end old n small room h e.front at u e.live e.parts in
        let g = enlarges e.front e.live
        (subst (λ p. Fill 704 (e.front ++ tile at u e.live ∷ []) p) (sym end_is) (ended old n small room h e.front at u e.live e.parts))
        (subst (λ b. AreHeaders b 0 (e.front ++ tile at u e.live ∷ [])) sized_same (last_headers old n small room h e.front at u e.live e.parts))
        (subst (λ b. HoldsGaps allocator b (free_of (e.front ++ tile at u e.live ∷ []))) sized_same (last_free old n small room h e.front at u e.live e.parts)) in
        extends_one old n small room h e.front at u e.live e.parts one new (subst (λ (p : List ℕ × ℕ). Enlarges allocator p.0 new e.front at u p.1 e.live) (λ i. (sized_is i, (end_units one).0 i)) g)

    pub extended_more : 2 ≤ n → (mid new : List ℕ) → mid ≡ set_size (set_word after (len - 16 * n + 4) u) (len - 16 * n) n true
        → (IsHeap allocator mid → IsLive mid (len - 16 * n) → Gives allocator mid new (len - 16 * n)) → Extends allocator old new n
    extended_more more mid new mid_is gives =
        let e = the_end in
        let place : len - 16 * n ≡ length old - 16 * n = ap (λ m. m - 16 * n) len_is in
        let is : mid ≡ added old n small room h e.front at u e.live e.parts more = mid_is ∙ (λ i. set_size (set_word (sized_is i) (place i + 4) u) (place i) n true) in
        let given = subst (λ (p : List ℕ × ℕ). IsHeap allocator p.0 → IsLive p.0 p.1 → Gives allocator p.0 new p.1) (λ i. (is i, place i)) gives in
        extends_more old n small room h e.front at u e.live e.parts more new
        (given (added_heap old n small room h e.front at u e.live e.parts more) (n, added_block old n small room h e.front at u e.live e.parts more))
