-- The last tile gets more units, for any allocator.
use Rattle.std.proofs.Common.{◌≡◌, ℕ, ◌+◌, ◌*◌, ◌^◌, ◌≤◌, Bool, true, List, [], ◌∷◌, ◌++◌, length, refl, sym, ap, ◌∙◌, subst, arith, inl, inr, ◌⊎◌, ⊎_elim}
use Rattle.std.specs.Prelude.{Contains}
use Rattle.std.proofs.lemmas.List.{append-nil}
use Rattle.std.proofs.lemmas.List.Elements.{Contains-append_cases}
use Rattle.seg_spec.specs.Bytes.{Agrees}
use Rattle.seg_spec.specs.Heap.{Span, Tile, end_of, is_live_at, Fill, AreHeaders, HoldsGaps, live_of, free_of, heap_start}
use Rattle.seg_spec.proofs.SliceLaws.{IsSame-agrees}
use Rattle.seg_spec.proofs.Heap.TileLaws.{Fill-le, AreHeaders-front, AreHeaders-back, live_of-append, free_of-append}
use Rattle.seg_block.specs.Extents.{Enlarges}
use Rattle.seg_block.specs.Sizes.{set_size}
use Rattle.seg_block.specs.Tiling.{tile, Spares}
use Rattle.seg_block.proofs.FreeKept.{HoldsGaps-kept, free_kept}
use Rattle.seg_block.proofs.LiveTiles.{live_within}
use Rattle.seg_block.proofs.SizeLaws.{set_size-headers, Agrees-set_size, length-set_size}
use Rattle.seg_block.proofs.TileReplacementLaws.{around}

-- the header of the last tile states whether it is allocated
pub flag_is : (old : List ℕ) (xs : List Tile) (at u : ℕ) (l : Bool) → AreHeaders old 0 (xs ++ tile at u l ∷ []) → is_live_at old at ≡ l
flag_is old xs at u l heads = (AreHeaders-back old xs (tile at u l ∷ []) 0 heads).0.live_is

module _ (old : List ℕ) (xs : List Tile) (at u n end : ℕ) (l : Bool) (small : length old ≤ 2 ^ 30) (more : u ≤ n) (inside : at + 16 * n ≡ length old)
    (filled : Fill heap_start (xs ++ tile at u l ∷ []) end) (heads : AreHeaders old 0 (xs ++ tile at u l ∷ [])) where
  abbrev pub larger : List ℕ
  larger = set_size old at n l

  pub larger-places : (Fill heap_start xs at) × (2 ≤ u) × (at + 16 * u ≡ end)
  larger-places = around xs [] heap_start end at u l filled

  pub larger-length : length larger ≡ length old
  larger-length = length-set_size old at n l

  pub larger-headers : AreHeaders larger 0 (xs ++ tile at n l ∷ [])
  larger-headers =
      let p = larger-places in
      let last = AreHeaders-back old xs (tile at u l ∷ []) 0 heads in
      set_size-headers old xs [] at n 0 l small p.0 (omega (arith, p.1)) inside (AreHeaders-front old xs (tile at u l ∷ []) 0 heads) tt last.0.before_is last.0.tag_is

  pub larger-kept : (from to : ℕ) → (to ≤ at) ⊎ (at + 4 ≤ from) → to ≤ end → Agrees old larger from to
  larger-kept from to out high = let p = larger-places in Agrees-set_size old at n l from to out (inl (omega (arith, p.2)))

  pub larger-spared : Spares old larger (xs ++ tile at u l ∷ [])
  larger-spared =
      let p = larger-places in
      let low = Fill-le xs heap_start at p.0 in
      record {
        front_kept = larger-kept 0 24 (inl (omega arith)) (omega (arith, p.2));
        back_kept = larger-kept 28 heap_start (inl low) (omega (arith, p.2));
        tiles_kept = λ b c. larger-kept (b.at + 8) (end_of b) (side b c) (live_within (xs ++ tile at u l ∷ []) heap_start end b filled c).1;
      }
    where
      side : (b : Span) → Contains (live_of (xs ++ tile at u l ∷ [])) b → (end_of b ≤ at) ⊎ (at + 4 ≤ b.at + 8)
      side b c =
          let p = larger-places in
          ⊎_elim (λ x. inl (live_within xs heap_start at b p.0 x).1) (λ y. let w = live_within (tile at u l ∷ []) at end b (refl, p.1, p.2) y in inr (omega (arith, w.0)))
          (Contains-append_cases (live_of xs) (live_of (tile at u l ∷ [])) b (subst (λ s. Contains s b) (live_of-append xs (tile at u l ∷ [])) c))

  -- the free structure contains the gaps before the tile
  pub larger-front : (allocator : ℕ) → HoldsGaps allocator old (free_of xs) → HoldsGaps allocator larger (free_of xs)
  larger-front allocator holds =
      let p = larger-places in
      let low = Fill-le xs heap_start at p.0 in
      let same = λ (q m : ℕ) (high : q + m ≤ at). IsSame-agrees old larger q (q + m) q m (larger-kept q (q + m) (inl high) (omega (arith, p.2))) (omega arith) (omega arith) (omega arith) in
      HoldsGaps-kept old larger allocator (free_of xs) (same 24 4 (omega arith)) (free_kept old larger xs heap_start at (λ q m a b. same q m b) p.0) holds

  -- an allocated tile is enlarged
  pub enlarges_live : (allocator : ℕ) → l ≡ true → HoldsGaps allocator old (free_of (xs ++ tile at u l ∷ [])) → Enlarges allocator old larger xs at u n l
  enlarges_live allocator is holds =
      let gaps : (v : ℕ) → free_of (xs ++ tile at v l ∷ []) ≡ free_of xs = λ v. free_of-append xs (tile at v l ∷ []) ∙ ap (λ b. free_of xs ++ free_of (tile at v b ∷ [])) is ∙ append-nil (free_of xs) in
      record {
        length_kept = larger-length;
        headers = larger-headers;
        free = subst (λ gs. HoldsGaps allocator larger gs) (sym (gaps n)) (larger-front allocator (subst (λ gs. HoldsGaps allocator old gs) (gaps u) holds));
        spared = larger-spared;
      }

-- from what the steps ensure
pub enlarged_live : {allocator : ℕ} (old new : List ℕ) (xs : List Tile) (at u n : ℕ) (l : Bool) → length old ≤ 2 ^ 30 → u ≤ n → Fill heap_start (xs ++ tile at u l ∷ []) (at + 16 * u)
    → AreHeaders old 0 (xs ++ tile at u l ∷ []) → HoldsGaps allocator old (free_of (xs ++ tile at u l ∷ [])) → at + 16 * n ≡ length old
    → is_live_at old at ≡ true → new ≡ set_size old at n true → Enlarges allocator old new xs at u n l
enlarged_live {allocator} old new xs at u n l small more filled heads holds inside flag new_is =
    let is : l ≡ true = sym (flag_is old xs at u l heads) ∙ flag in
    subst (λ b. Enlarges allocator old b xs at u n l) (sym (new_is ∙ ap (set_size old at n) (sym is))) (enlarges_live old xs at u n (at + 16 * u) l small more inside filled heads allocator is holds)
