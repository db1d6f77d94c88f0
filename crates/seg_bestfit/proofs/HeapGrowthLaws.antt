-- The free tile at the heap's end is removed from the tree, enlarged, and added again.
use Rattle.std.proofs.Common.{◌≡◌, ℕ, ◌+◌, ◌*◌, ◌^◌, ◌≤◌, Bool, false, List, [], ◌∷◌, ◌++◌, length, None, refl, sym, ◌∙◌, subst, arith, inl, inr}
use Rattle.std.proofs.lemmas.List.{append-nil}
use Rattle.seg_spec.specs.Bytes.{set_word}
use Rattle.seg_spec.specs.Heap.{Span, Tile, is_live_at, link_at, Fill, AreHeaders, HoldsGaps, free_of, live_of, heap_start, IsFreeTree}
use Rattle.seg_spec.proofs.BytesLaws.{number-set_other}
use Rattle.seg_spec.proofs.PointerLaws.{target-same}
use Rattle.seg_spec.proofs.Heap.TileLaws.{Fill-append, live_of-append}
use Rattle.seg_block.specs.Extents.{Enlarges}
use Rattle.seg_block.specs.FreeBlocks.{AreFreeBlocks}
use Rattle.seg_block.specs.Sizes.{size_word, set_size}
use Rattle.seg_block.specs.Tiling.{tile}
use Rattle.seg_block.proofs.HeapGrowthLaws.{flag_is, larger-places, larger-length, larger-headers, larger-spared, larger-front}
use Rattle.seg_block.proofs.SizeLaws.{length-set_size}
use Rattle.seg_block.proofs.FreeTiles.{AreFreeBlocks-free_of}
use Rattle.seg_block.proofs.Heaps.{Spares-trans, Spares-same}
use Rattle.seg_bestfit.specs.FreeTree.{KeepsBesideNodes, LeavesTree, JoinsTree}
use Rattle.seg_bestfit.proofs.FreeGaps.{each_pick}
use Rattle.seg_bestfit.proofs.GapAllocationLaws.{gaps_around}
use Rattle.seg_bestfit.proofs.TreeFrame.{headers_kept, spares_kept, link_kept}

module _ (old : List ℕ) (xs : List Tile) (at u n end : ℕ) (small : length old ≤ 2 ^ 30) (more : u ≤ n) (inside : at + 16 * n ≡ length old) (filled : Fill heap_start (xs ++ tile at u false ∷ []) end)
    (heads : AreHeaders old 0 (xs ++ tile at u false ∷ [])) (holds : IsFreeTree old (free_of (xs ++ tile at u false ∷ []))) where
  places : (Fill heap_start xs at) × (2 ≤ u) × (at + 16 * u ≡ end)
  places = larger-places old xs at u n end false small more inside filled heads

  pub last_blocks : AreFreeBlocks old 704 (free_of xs ++ record { at = at; units = u } ∷ [])
  last_blocks = let p = places in subst (λ gs. AreFreeBlocks old 704 gs) (gaps_around xs [] at u) (AreFreeBlocks-free_of old (xs ++ tile at u false ∷ []) 704 heap_start end 0 (omega arith) refl (omega (arith, p.2)) filled heads)

  pub last_tree : IsFreeTree old (free_of xs ++ record { at = at; units = u } ∷ [])
  last_tree = subst (λ gs. IsFreeTree old gs) (gaps_around xs [] at u) holds

  module _ (a : List ℕ) (l : LeavesTree old a (free_of xs) (record { at = at; units = u }) []) where
    k1 : KeepsBesideNodes old a (free_of (xs ++ tile at u false ∷ []))
    k1 = subst (λ gs. KeepsBesideNodes old a gs) (sym (gaps_around xs [] at u)) l.kept

    a_small : length a ≤ 2 ^ 30
    a_small = subst (λ n. n ≤ 2 ^ 30) (sym l.kept.length_kept) small

    a_inside : at + 16 * n ≡ length a
    a_inside = inside ∙ sym l.kept.length_kept

    a_heads : AreHeaders a 0 (xs ++ tile at u false ∷ [])
    a_heads = headers_kept old a (xs ++ tile at u false ∷ []) end filled k1 heads

    abbrev pub sized : List ℕ
    sized = set_size a at n false

    sized_length : length sized ≡ length a
    sized_length = larger-length a xs at u n end false a_small more a_inside filled a_heads

    sized_heads : AreHeaders sized 0 (xs ++ tile at n false ∷ [])
    sized_heads = larger-headers a xs at u n end false a_small more a_inside filled a_heads

    sized_filled : Fill heap_start (xs ++ tile at n false ∷ []) (length sized)
    sized_filled = let p = places in Fill-append xs (tile at n false ∷ []) heap_start at (length sized) p.0 (refl, omega (arith, p.1), a_inside ∙ sym sized_length)

    pub sized_tree : IsFreeTree sized (free_of xs ++ [])
    sized_tree = subst (λ gs. IsFreeTree sized gs) (sym (append-nil (free_of xs))) (larger-front a xs at u n end false a_small more a_inside filled a_heads 1 (subst (λ gs. IsFreeTree a gs) (append-nil (free_of xs)) l.tree))

    pub sized_blocks : AreFreeBlocks sized 704 (free_of xs ++ record { at = at; units = n } ∷ [])
    sized_blocks = subst (λ gs. AreFreeBlocks sized 704 gs) (gaps_around xs [] at n) (AreFreeBlocks-free_of sized (xs ++ tile at n false ∷ []) 704 heap_start (length sized) 0 (omega arith) refl (omega arith) sized_filled sized_heads)

    pub sized_link : link_at sized at ≡ None
    sized_link =
        let p = places in
        target-same a sized (at + 12) (number-set_other 4 4 (set_word a at (size_word n false)) (at + 16 * n + 4) n (at + 12) (inl (omega (arith, p.1))) ∙ number-set_other 4 4 a at (size_word n false) (at + 12) (inr (omega arith)))
        ∙ link_kept old a xs [] (tile at u false) at end p.0 (refl, p.1, p.2) k1
        ∙ each_pick (λ g. link_at old g.at ≡ None) (free_of xs) (record { at = at; units = u }) [] last_tree.links

    pub enlarges_free : (new : List ℕ) → JoinsTree sized new (free_of xs) (record { at = at; units = n }) [] → Enlarges 1 old new xs at u n false
    enlarges_free new j =
        let k2 : KeepsBesideNodes sized new (free_of (xs ++ tile at n false ∷ [])) = subst (λ gs. KeepsBesideNodes sized new gs) (sym (gaps_around xs [] at n)) j.kept in
        let same : live_of (xs ++ tile at u false ∷ []) ≡ live_of (xs ++ tile at n false ∷ []) = live_of-append xs (tile at u false ∷ []) ∙ sym (live_of-append xs (tile at n false ∷ [])) in
        record {
          length_kept = j.kept.length_kept ∙ sized_length ∙ l.kept.length_kept;
          headers = headers_kept sized new (xs ++ tile at n false ∷ []) (length sized) sized_filled k2 sized_heads;
          free = subst (λ gs. IsFreeTree new gs) (sym (gaps_around xs [] at n)) j.tree;
          spared = Spares-trans old a new (xs ++ tile at u false ∷ []) (spares_kept old a (xs ++ tile at u false ∷ []) end filled k1)
              (Spares-trans a sized new (xs ++ tile at u false ∷ []) (larger-spared a xs at u n end false a_small more a_inside filled a_heads)
              (Spares-same sized new (xs ++ tile at n false ∷ []) (xs ++ tile at u false ∷ []) same (spares_kept sized new (xs ++ tile at n false ∷ []) (length sized) sized_filled k2)));
        }

-- from what the steps ensure
pub enlarged_free : (old a b new : List ℕ) (xs : List Tile) (at u n : ℕ) (l : Bool) → length old ≤ 2 ^ 30 → u ≤ n → Fill heap_start (xs ++ tile at u l ∷ []) (at + 16 * u)
    → AreHeaders old 0 (xs ++ tile at u l ∷ []) → HoldsGaps 1 old (free_of (xs ++ tile at u l ∷ [])) → at + 16 * n ≡ length old
    → is_live_at old at ≡ false
    → ((xs ys : List Span) → AreFreeBlocks old 704 (xs ++ record { at = at; units = u } ∷ ys) → IsFreeTree old (xs ++ record { at = at; units = u } ∷ ys) → LeavesTree old a xs (record { at = at; units = u }) ys)
    → b ≡ set_size a at n false
    → (length b ≤ 2 ^ 30 → (xs ys : List Span) → AreFreeBlocks b 704 (xs ++ record { at = at; units = n } ∷ ys) → IsFreeTree b (xs ++ ys) → link_at b at ≡ None → JoinsTree b new xs (record { at = at; units = n }) ys)
    → Enlarges 1 old new xs at u n l
enlarged_free old a b new xs at u n l small more filled heads holds inside flag leaves b_is joins =
    let is : l ≡ false = sym (flag_is old xs at u l heads) ∙ flag in
    let f = subst (λ c. Fill heap_start (xs ++ tile at u c ∷ []) (at + 16 * u)) is filled in
    let hs = subst (λ c. AreHeaders old 0 (xs ++ tile at u c ∷ [])) is heads in
    let t = subst (λ c. HoldsGaps 1 old (free_of (xs ++ tile at u c ∷ []))) is holds in
    let end = at + 16 * u in
    let out = leaves (free_of xs) [] (last_blocks old xs at u n end small more inside f hs t) (last_tree old xs at u n end small more inside f hs t) in
    let back = subst (λ k. length k ≤ 2 ^ 30 → (xs ys : List Span) → AreFreeBlocks k 704 (xs ++ record { at = at; units = n } ∷ ys) → IsFreeTree k (xs ++ ys) → link_at k at ≡ None
    → JoinsTree k new xs (record { at = at; units = n }) ys) b_is joins in
    subst (λ c. Enlarges 1 old new xs at u n c) (sym is)
    (enlarges_free old xs at u n end small more inside f hs t a out new
    (back (subst (λ m. m ≤ 2 ^ 30) (sym (length-set_size a at n false ∙ out.kept.length_kept)) small) (free_of xs) [] (sized_blocks old xs at u n end small more inside f hs t a out)
    (sized_tree old xs at u n end small more inside f hs t a out) (sized_link old xs at u n end small more inside f hs t a out)))
