-- The gap at the heap's end is removed from the tree. If the gap is the whole heap, two units of it
-- remain.
use Rattle.std.proofs.Common.{◌≡◌, ℕ, ◌+◌, ◌-◌, ◌*◌, ◌/◌, ◌^◌, ◌<◌, ◌≤◌, Bool, true, false, List, [], ◌∷◌, ◌++◌, length, None, refl, sym, ap, ◌∙◌, subst, arith, inl, inr, ◌⊎◌}
use Rattle.std.specs.Prelude.{Contains}
use Rattle.std.proofs.lemmas.List.{append-nil}
use Rattle.seg_spec.specs.Bytes.{word, set_word, Agrees}
use Rattle.seg_spec.specs.Heap.{Span, Tile, end_of, link_at, is_live_at, Fill, AreHeaders, IsHeader, free_of, live_of, heap_start, tiles, live, IsHeap, IsFreeTree, Cuts}
use Rattle.seg_spec.proofs.BytesLaws.{number-set_same, number-set_other, length-set_number, Agrees-set_number, Agrees-trans, Agrees-within, number-agrees}
use Rattle.seg_spec.proofs.PointerLaws.{target-same}
use Rattle.seg_spec.proofs.SliceLaws.{IsSame-agrees}
use Rattle.seg_spec.proofs.Heap.TileLaws.{AreHeaders-front, AreApart-front}
use Rattle.seg_block.specs.Blocks.{HasEnd}
use Rattle.seg_block.specs.FreeBlocks.{AreFreeBlocks}
use Rattle.seg_block.specs.Sizes.{size_word, set_size}
use Rattle.seg_block.specs.Tiling.{tile, IsTiling}
use Rattle.seg_block.proofs.HeapCutLaws.{was, apart, places, last_place, live_there, cut_to, free_places, units_of_gap, units_of_whole, in_front, room_in_front, first_of_whole, the_end, flag}
use Rattle.seg_block.proofs.Extents.{AreHeaders-words}
use Rattle.seg_block.proofs.FreeKept.{HoldsGaps-kept, free_kept}
use Rattle.seg_block.proofs.SizeLaws.{IsHeader-set_size, Agrees-set_size, length-set_size}
use Rattle.seg_bestfit.specs.FreeTree.{KeepsBesideNodes, LeavesTree, JoinsTree}
use Rattle.seg_bestfit.proofs.FreeGaps.{each_pick}
use Rattle.seg_bestfit.proofs.GapAllocationLaws.{gaps_around, blocks_around, tree_around}
use Rattle.seg_bestfit.proofs.TreeFrame.{headers_kept, front_kept, back_kept, live_kept, link_kept}

never : true ≡ false → ⊥
never e = cc

module _ (old : List ℕ) (large : 736 ≤ length old) (h : IsHeap 1 old) (xs : List Tile) (at u : ℕ) (l : Bool) (parts : tiles old ≡ xs ++ tile at u l ∷ []) (is_free : l ≡ false) where
  free_was : IsTiling 1 old (xs ++ tile at u false ∷ [])
  free_was = subst (λ c. IsTiling 1 old (xs ++ tile at u c ∷ [])) is_free (was old large h xs at u l parts)

  pub end_blocks : AreFreeBlocks old 704 (free_of xs ++ record { at = at; units = u } ∷ [])
  end_blocks = blocks_around old xs [] at u free_was.tiled

  pub end_tree : IsFreeTree old (free_of xs ++ record { at = at; units = u } ∷ [])
  end_tree = tree_around old xs [] at u free_was

  end_live : (b : Span) → Contains (live old) b → Contains (live_of (xs ++ tile at u false ∷ [])) b
  end_live b c = subst (λ k. Contains (live_of (xs ++ tile at u k ∷ [])) b) is_free (subst (λ s. Contains s b) (live_there old large h xs at u l parts) c)

  module _ (a : List ℕ) (g : LeavesTree old a (free_of xs) (record { at = at; units = u }) []) where
    kept : KeepsBesideNodes old a (free_of (xs ++ tile at u false ∷ []))
    kept = subst (λ gs. KeepsBesideNodes old a gs) (sym (gaps_around xs [] at u)) g.kept

    a_heads : AreHeaders a 0 (xs ++ tile at u false ∷ [])
    a_heads = headers_kept old a (xs ++ tile at u false ∷ []) (length old) free_was.tiled.filled kept free_was.tiled.headers

    a_front : Agrees old a 0 24
    a_front = front_kept old a (xs ++ tile at u false ∷ []) (length old) free_was.tiled.filled kept

    a_back : Agrees old a 28 heap_start
    a_back = back_kept old a (xs ++ tile at u false ∷ []) (length old) free_was.tiled.filled kept

    a_live : (b : Span) → Contains (live old) b → Agrees old a (b.at + 8) (end_of b)
    a_live b c = live_kept old a (xs ++ tile at u false ∷ []) (length old) free_was.tiled.filled kept b (end_live b c)

    -- ---- a gap that has a block or another gap before it

    abbrev pub cut_off : List ℕ
    cut_off = set_word a 12 (at / 16)

    off_kept : (from to : ℕ) → (to ≤ 12) ⊎ (16 ≤ from) → Agrees a cut_off from to
    off_kept from to out = Agrees-set_number 4 a 12 (at / 16) from to out

    pub cut_gap : 704 < at → Cuts 1 old cut_off u
    cut_gap above =
        let p = last_place old large h xs at u l parts in
        let f = (places old large h xs at u l parts).0 in
        let k = free_was.tiled.small in
        let wide = room_in_front old large h xs at u l parts is_free above in
        let end : at ≡ length old - 16 * u = omega (arith, p.0) in
        let long : length a ≡ length old = g.kept.length_kept in
        let longer : length cut_off ≡ length old = length-set_number 4 a 12 (at / 16) ∙ long in
        let same = λ (q m : ℕ) (low : 16 ≤ q) (high : q + m ≤ at). IsSame-agrees a cut_off q (q + m) q m (off_kept q (q + m) (inr low)) (omega arith) (omega arith) (omega (arith, p.0)) in
        cut_to old large h xs at u l parts cut_off u xs longer (omega (arith, p.0)) (subst (λ e. Fill heap_start xs e) end f)
        (AreHeaders-words a cut_off xs heap_start at 0 (λ q low high. number-set_other 4 4 a 12 (at / 16) q (inr (omega arith))) f (AreHeaders-front a xs (tile at u false ∷ []) 0 a_heads))
        (HoldsGaps-kept a cut_off 1 (free_of xs) (same 24 4 (omega arith) (omega arith)) (free_kept a cut_off xs heap_start at (λ q m low high. same q m (omega arith) high) f)
        (subst (λ gs. IsFreeTree a gs) (append-nil (free_of xs)) g.tree))
        (AreApart-front xs (tile at u l ∷ []) true (apart old large h xs at u l parts)) (free_places old large h xs at u l parts is_free) (units_of_gap old large h xs at u l parts is_free above)
        (number-set_same 4 a 12 (at / 16) (omega arith) (omega (arith, p.0)) ∙ ap (λ x. x / 16) end)
        (Agrees-trans old a cut_off 0 12 (Agrees-within old a 0 24 0 12 a_front (omega arith) (omega arith)) (off_kept 0 12 (inl (omega arith))))
        (Agrees-trans old a cut_off 16 24 (Agrees-within old a 0 24 16 24 a_front (omega arith) (omega arith)) (off_kept 16 24 (inr (omega arith))))
        (Agrees-trans old a cut_off 28 heap_start a_back (off_kept 28 heap_start (inr (omega arith))))
        (λ b c. let w = in_front old large h xs at u l parts is_free b c in Agrees-trans old a cut_off (b.at + 8) (end_of b) (a_live b c) (off_kept (b.at + 8) (end_of b) (inr (omega (arith, w.0)))))

    -- ---- the whole heap is one gap

    module _ (below : at ≤ 704) where
      first : (xs ≡ []) × (at ≡ 704)
      first = first_of_whole old large h xs at u l parts is_free below

      head : IsHeader a 0 (tile 704 u false)
      head = (subst (λ ts. AreHeaders a 0 ts) (λ i. first.0 i ++ tile (first.1 i) u false ∷ []) a_heads).0

      long : length a ≡ length old
      long = g.kept.length_kept

      abbrev counted : List ℕ
      counted = set_word a 12 46

      abbrev pub cut_down : List ℕ
      cut_down = set_size counted 704 2 false

      counted_word : (q : ℕ) → 16 ≤ q → word counted q ≡ word a q
      counted_word q low = number-set_other 4 4 a 12 46 q (inr low)

      pub length-down : length cut_down ≡ length old
      length-down = length-set_size counted 704 2 false ∙ length-set_number 4 a 12 46 ∙ long

      down_heads : AreHeaders cut_down 0 (tile 704 2 false ∷ [])
      down_heads =
          let k = free_was.tiled.small in
          let short = length-set_number 4 a 12 46 ∙ long in
          (IsHeader-set_size counted 704 2 0 false (omega arith) (omega arith) (omega arith) (counted_word 708 (omega arith) ∙ head.before_is) (λ e. counted_word 712 (omega arith) ∙ head.tag_is refl), tt)

      down_kept : (from to : ℕ) → (to ≤ 12) ⊎ (16 ≤ from) → to ≤ 704 → Agrees a cut_down from to
      down_kept from to out low = Agrees-trans a counted cut_down from to (Agrees-set_number 4 a 12 46 from to out) (Agrees-set_size counted 704 2 false from to (inl low) (inl (omega arith)))

      pub down_unlinked : link_at cut_down 704 ≡ None
      down_unlinked =
          let p = places old large h xs at u l parts in
          target-same a cut_down 716 (number-set_other 4 4 (set_word counted 704 (size_word 2 false)) (704 + 16 * 2 + 4) 2 716 (inl (omega arith))
          ∙ number-set_other 4 4 counted 704 (size_word 2 false) 716 (inr (omega arith)) ∙ counted_word 716 (omega arith))
          ∙ subst (λ q. link_at a q ≡ None) first.1 (link_kept old a xs [] (tile at u false) at (length old) p.0 (refl, p.1, p.2) kept
          ∙ each_pick (λ g. link_at old g.at ≡ None) (free_of xs) (record { at = at; units = u }) [] end_tree.links)

      pub down_blocks : AreFreeBlocks cut_down 704 (record { at = 704; units = 2 } ∷ [])
      down_blocks = let long = length-down in (omega arith, record { aligned = refl; large = omega arith; inside = omega arith; size_is = down_heads.0.units_is }, tt)

      pub down_tree : IsFreeTree cut_down []
      down_tree =
          let k = free_was.tiled.small in
          HoldsGaps-kept a cut_down 1 [] (IsSame-agrees a cut_down 24 28 24 4 (down_kept 24 28 (inr (omega arith)) (omega arith)) (omega arith) (omega arith) (omega (arith, long))) tt
          (subst (λ gs. IsFreeTree a gs) (append-nil (free_of xs) ∙ ap free_of first.0) g.tree)

      pub cut_whole : (new : List ℕ) → JoinsTree cut_down new [] (record { at = 704; units = 2 }) [] → Cuts 1 old new (u - 2)
      cut_whole new j =
          let p = last_place old large h xs at u l parts in
          let f = first.1 in
          let down_long = length-down in
          let longer : length new ≡ length old = j.kept.length_kept ∙ down_long in
          let end : 736 ≡ length old - 16 * (u - 2) = omega (arith, p.0, p.1) in
          let fill : Fill heap_start (tile 704 2 false ∷ []) 736 = (refl, omega arith, refl) in
          let back : Agrees old new 28 heap_start = Agrees-trans old a new 28 heap_start a_back
          (Agrees-trans a cut_down new 28 heap_start (down_kept 28 heap_start (inr (omega arith)) (omega arith)) (back_kept cut_down new (tile 704 2 false ∷ []) 736 fill j.kept)) in
          let front : Agrees cut_down new 0 24 = front_kept cut_down new (tile 704 2 false ∷ []) 736 fill j.kept in
          let early = λ (from to : ℕ) (out : (to ≤ 12) ⊎ (16 ≤ from)) (high : to ≤ 24). Agrees-trans old a new from to (Agrees-within old a 0 24 from to a_front (omega arith) high)
          (Agrees-trans a cut_down new from to (down_kept from to out (omega arith)) (Agrees-within cut_down new 0 24 from to front (omega arith) high)) in
          cut_to old large h xs at u l parts new (u - 2) (tile 704 2 false ∷ []) longer (omega (arith, p.0, p.1)) (refl, omega arith, end)
          (headers_kept cut_down new (tile 704 2 false ∷ []) 736 fill j.kept down_heads) j.tree ((λ e. absurd (never e)), tt)
          (ap live_of (sym first.0) ∙ free_places old large h xs at u l parts is_free) (units_of_whole old large h xs at u l parts is_free f)
          (number-agrees cut_down new 0 24 4 12 front (omega arith) (omega arith) ∙ number-set_other 4 4 (set_word counted 704 (size_word 2 false)) (704 + 16 * 2 + 4) 2 12 (inl (omega arith))
          ∙ number-set_other 4 4 counted 704 (size_word 2 false) 12 (inl (omega arith))
          ∙ number-set_same 4 a 12 46 (omega (arith, long)) (omega arith) ∙ ap (λ x. x / 16) end)
          (early 0 12 (inl (omega arith)) (omega arith)) (early 16 24 (inr (omega arith)) (omega arith)) back
          (λ b c. let w = in_front old large h xs at u l parts is_free b c in Agrees-within old new 28 heap_start (b.at + 8) (end_of b) back (omega (arith, w.0)) (omega (arith, w.1)))

-- ---- from what the steps ensure

module _ (old : List ℕ) (len : ℕ) (large : 736 ≤ length old) (h : IsHeap 1 old) (len_is : len ≡ length old) (at u : ℕ)
    (last : (ts : List Tile) → 704 < len → len ≤ length old → Fill 704 ts len → AreHeaders old 0 ts → HasEnd old ts at u) (free : is_live_at old at ≡ false)
    (a : List ℕ) (leaves : (xs ys : List Span) → AreFreeBlocks old 704 (xs ++ record { at = at; units = u } ∷ ys) → IsFreeTree old (xs ++ record { at = at; units = u } ∷ ys) → LeavesTree old a xs (record { at = at; units = u }) ys) where
  abbrev e : HasEnd old (tiles old) at u
  e = the_end old len large h len_is at u last

  is_free : e.live ≡ false
  is_free = sym (flag old len large h len_is at u last) ∙ free

  out : LeavesTree old a (free_of e.front) (record { at = at; units = u }) []
  out = leaves (free_of e.front) [] (end_blocks old large h e.front at u e.live e.parts is_free) (end_tree old large h e.front at u e.live e.parts is_free)

  pub cuts_gap : (new : List ℕ) → 704 < at → new ≡ set_word a 12 (at / 16) → Cuts 1 old new u
  cuts_gap new above new_is = subst (λ b. Cuts 1 old b u) (sym new_is) (cut_gap old large h e.front at u e.live e.parts is_free a out above)

  pub cuts_whole : (down new : List ℕ) → at ≤ 704 → down ≡ set_size (set_word a 12 46) 704 2 false
      → (length down ≤ 2 ^ 30 → (xs ys : List Span) → AreFreeBlocks down 704 (xs ++ record { at = 704; units = 2 } ∷ ys) → IsFreeTree down (xs ++ ys) → link_at down 704 ≡ None
      → JoinsTree down new xs (record { at = 704; units = 2 }) ys) → Cuts 1 old new (u - 2)
  cuts_whole down new below down_is joins =
      let back = subst (λ k. length k ≤ 2 ^ 30 → (xs ys : List Span) → AreFreeBlocks k 704 (xs ++ record { at = 704; units = 2 } ∷ ys) → IsFreeTree k (xs ++ ys)
      → link_at k 704 ≡ None → JoinsTree k new xs (record { at = 704; units = 2 }) ys) down_is joins in
      cut_whole old large h e.front at u e.live e.parts is_free a out below new
      (back (subst (λ m. m ≤ 2 ^ 30) (sym (length-down old large h e.front at u e.live e.parts is_free a out below)) h.small) [] [] (down_blocks old large h e.front at u e.live e.parts is_free a out below)
      (down_tree old large h e.front at u e.live e.parts is_free a out below) (down_unlinked old large h e.front at u e.live e.parts is_free a out below))
