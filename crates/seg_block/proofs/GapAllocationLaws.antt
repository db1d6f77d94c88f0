-- A gap is allocated, and its rest is a gap again.
use Rattle.std.proofs.Common.{◌≡◌, ℕ, ◌+◌, ◌-◌, ◌*◌, ◌<◌, ◌≤◌, true, false, List, [], ◌∷◌, ◌++◌, length, min, Option, Some, None, refl, sym, ap, ◌∙◌, subst, arith, ⊎_elim}
use Rattle.std.specs.Prelude.{Contains}
use Rattle.std.proofs.lemmas.Bool.{cases_lt}
use Rattle.seg_spec.specs.Bytes.{Agrees}
use Rattle.seg_spec.specs.Heap.{Span, Tile, end_of, link_at, Fill, AreApart, live_of, heap_start, tiles, live, gaps, IsHeap, pick, granted, with_block, Keeps, Takes}
use Rattle.seg_spec.proofs.BytesLaws.{Agrees-within}
use Rattle.seg_spec.proofs.Heap.TileLaws.{live_of-append, AreApart-append, AreApart-front, AreApart-back}
use Rattle.seg_block.specs.Tiling.{tile, IsTiling, Retiles, Spares}
use Rattle.seg_block.proofs.TileReplacementLaws.{around}
use Rattle.seg_block.proofs.Heaps.{tiling_of_heap, heap_of_tiling, with_block-between, AreApart-live, Keeps-same, Spares-trans, target-agrees}
use Rattle.seg_block.proofs.ResizedBlockLaws.{granted_all, granted_part}

pub takes_none : {allocator : ℕ} (bytes : List ℕ) (u : ℕ) (result : Option ℕ) → IsHeap allocator bytes → pick allocator (gaps bytes) u ≡ None → result ≡ None → Takes allocator bytes bytes u result
takes_none bytes u result h none e = record {
  heap = h;
  kept = Keeps-same bytes;
  taken = rw none (e, refl);
}

module _ {allocator : ℕ} (old new : List ℕ) (u at units : ℕ) (xs ys : List Tile) (h : IsHeap allocator old) (picked : pick allocator (gaps old) u ≡ Some (record { at = at; units = units }))
    (parts_are : tiles old ≡ xs ++ tile at units false ∷ ys) where
  gap_tiling : IsTiling allocator old (xs ++ tile at units false ∷ ys)
  gap_tiling = subst (λ l. IsTiling allocator old l) parts_are (tiling_of_heap old h)

  gap_apart : AreApart true (xs ++ tile at units false ∷ ys)
  gap_apart = subst (λ l. AreApart true l) parts_are h.apart

  old_live : live old ≡ live_of (xs ++ ys)
  old_live =
      (heap_of_tiling old (xs ++ tile at units false ∷ ys) gap_tiling gap_apart).live_is
      ∙ live_of-append xs (tile at units false ∷ ys) ∙ sym (live_of-append xs ys)

  spares_keeps : Spares old new (xs ++ ys) → Keeps old new
  spares_keeps s = record {
    length_kept = s.front_kept.length_kept;
    front_kept = s.front_kept;
    back_kept = s.back_kept;
    blocks_kept = λ b c held _ _. Agrees-within old new (b.at + 8) (end_of b) (b.at + 8) (b.at + 16 * min b.units c.units) (s.tiles_kept b (subst (λ l. Contains l b) old_live held)) (omega arith) (omega arith);
  }

  -- the block is at the gap's front, before these tiles
  finish : (n : ℕ) (zs : List Tile) → granted units u ≡ n → live_of zs ≡ live_of ys → AreApart true zs → Fill (at + 16 * n) zs (length new) → 2 ≤ n
      → IsTiling allocator new (xs ++ tile at n true ∷ zs) → Spares old new (xs ++ ys) → link_at new at ≡ None → Takes allocator old new u (Some at)
  finish n zs n_is same apart fits large tiling spared link_none =
      let parts = around xs ys heap_start (length old) at units false gap_tiling.tiled.filled in
      let now = heap_of_tiling new (xs ++ tile at n true ∷ zs) tiling (AreApart-append xs (tile at n true ∷ zs) true (AreApart-front xs (tile at units false ∷ ys) true gap_apart) (λ e. refl, apart)) in
      let block : Span = record { at = at; units = granted units u } in
      let live_is : live new ≡ with_block block (live old) =
      now.live_is ∙ live_of-append xs (tile at n true ∷ zs)
      ∙ (λ i. live_of xs ++ record { at = at; units = sym n_is i } ∷ same i)
      ∙ sym (with_block-between block xs ys heap_start (at + 16 * units) (length old) parts.0 (omega (arith, parts.1)) parts.2)
      ∙ ap (λ l. with_block block l) (sym old_live) in
      record {
        heap = now.heap;
        kept = spares_keeps spared;
        taken = rw picked (refl, live_is, link_none);
      }

  -- the gap is taken whole
  pub takes_whole : u ≤ units → units < u + 2 → Retiles allocator old new xs (tile at units true ∷ []) ys → link_at new at ≡ None → Takes allocator old new u (Some at)
  takes_whole enough small r link_none =
      let parts = around xs ys heap_start (length old) at units false gap_tiling.tiled.filled in
      let following = AreApart-back xs (tile at units false ∷ ys) true gap_apart in
      finish units ys (granted_all units u enough small) refl (AreApart-live false ys following.1) (subst (λ n. Fill (at + 16 * units) ys n) (sym r.spared.front_kept.length_kept) parts.2) parts.1 r.tiling r.spared link_none

  abbrev rest_tile : Tile
  rest_tile = tile (at + 16 * u) (units - u) false

  -- the gap's front is taken, and the rest stays a gap
  pub takes_front : 2 ≤ u → u + 2 ≤ units → Retiles allocator old new xs (tile at u true ∷ rest_tile ∷ []) ys → link_at new at ≡ None → Takes allocator old new u (Some at)
  takes_front large room r link_none =
      let parts = around xs ys heap_start (length old) at units false gap_tiling.tiled.filled in
      let following = AreApart-back xs (tile at units false ∷ ys) true gap_apart in
      let end : at + 16 * units ≡ at + 16 * u + 16 * (units - u) = omega arith in
      finish u (rest_tile ∷ ys) (granted_part units u room) refl ((λ e. absurd (no e)), following.1)
      (refl, omega arith, subst (λ n. Fill (at + 16 * u + 16 * (units - u)) ys n) (sym r.spared.front_kept.length_kept) (subst (λ p. Fill p ys (length old)) end parts.2))
      large r.tiling r.spared link_none
    where
      no : true ≡ false → ⊥
      no e = cc

  -- the gap is taken whole, and then its rest is freed
  takes_part : (mid : List ℕ) → 2 ≤ u → u + 2 ≤ units → Retiles allocator old mid xs (tile at units true ∷ []) ys → link_at mid at ≡ None
      → Retiles allocator mid new xs (tile at u true ∷ rest_tile ∷ []) ys × Agrees mid new (at + 8) (at + 16 * u) → Takes allocator old new u (Some at)
  takes_part mid large room r link_none s =
      takes_front large room (record { tiling = s.0.tiling; spared = Spares-trans old mid new (xs ++ ys) r.spared s.0.spared })
      (target-agrees mid new (at + 8) (at + 16 * u) (at + 12) s.1 (omega arith) (omega arith) ∙ link_none)

  pub takes : (mid : List ℕ) → 2 ≤ u → u ≤ units → Retiles allocator old mid xs (tile at units true ∷ []) ys × (link_at mid at ≡ None) → (units < u + 2 → new ≡ mid)
      → (u + 2 ≤ units → Retiles allocator mid new xs (tile at u true ∷ rest_tile ∷ []) ys × Agrees mid new (at + 8) (at + 16 * u)) → Takes allocator old new u (Some at)
  takes mid large enough t whole cut =
      ⊎_elim (λ small. let same = sym (whole small) in takes_whole enough small (subst (λ b. Retiles allocator old b xs (tile at units true ∷ []) ys) same t.0) (subst (λ b. link_at b at ≡ None) same t.1))
      (λ room. takes_part mid large room t.0 t.1 (cut room))
      (cases_lt units (u + 2))
