-- Tiles become one free tile, which is added to the free list.
use Rattle.std.proofs.Common.{◌≡◌, ℕ, ◌+◌, ◌*◌, ◌%◌, ◌≤◌, false, List, [], ◌∷◌, ◌++◌, length, Some, None, refl, sym, ap, ◌∙◌, arith, inl, inr}
use Rattle.seg_spec.specs.Bytes.{word, set_word}
use Rattle.seg_spec.specs.Pointer.{target, distance, set_pointer}
use Rattle.seg_spec.specs.Heap.{Tile, units_before, tag_at, Fill, AreHeaders, Links, free_of, heap_start}
use Rattle.seg_spec.proofs.BytesLaws.{number-set_same, number-set_other, length-set_number}
use Rattle.seg_spec.proofs.PointerLaws.{target-set_same, target-same}
use Rattle.seg_spec.proofs.Heap.TileLaws.{Fill-le, AreHeaders-back, units_after}
use Rattle.seg_block.specs.Sizes.{size_word, set_size}
use Rattle.seg_block.specs.Tiling.{tile, IsTiling, Retiles}
use Rattle.seg_seqfit.specs.Retiling.{link_past}
use Rattle.seg_block.proofs.SizeLaws.{IsHeader-set_size}
use Rattle.seg_seqfit.proofs.LinkLaws.{Links-after, link_past-low, names_tile}
use Rattle.seg_block.proofs.TileReplacementLaws.{aligned_end, beside}
use Rattle.seg_seqfit.proofs.Retile.{IsLocal, retile, spares, link_names, IsLocal-trans, IsLocal-word, IsLocal-link, IsLocal-set_size}

module _ (old : List ℕ) (xs ms ys : List Tile) (t : Tile) (at u : ℕ) (was : IsTiling 0 old (xs ++ ((t ∷ ms) ++ ys))) (fill : Fill at (t ∷ ms) (at + 16 * u)) where
  abbrev link : ℕ
  link = link_past 24 xs

  abbrev tagged : List ℕ
  tagged = set_word old (at + 8) 0

  abbrev linked : List ℕ
  linked = set_pointer tagged (at + 12) (target old (link_past link (t ∷ ms)))

  abbrev listed : List ℕ
  listed = set_pointer linked link (Some (at + 16))

  abbrev released : List ℕ
  released = set_size listed at u false

  parts : Fill heap_start xs at × Fill (at + 16 * u) ys (length old)
  parts = beside xs ms ys t heap_start (length old) at (at + 16 * u) was.tiled.filled fill

  large : 2 ≤ u
  large = let le = Fill-le ms (at + 16 * t.units) (at + 16 * u) fill.2 in omega (arith, fill.1)

  aligned : at % 16 ≡ 0
  aligned = aligned_end xs heap_start at refl parts.0

  inside : at + 16 * u ≤ length old
  inside = Fill-le ys (at + 16 * u) (length old) parts.1

  below : link + 4 ≤ at
  below = link_past-low xs 24 heap_start at (omega arith) parts.0

  rest_links : Links old (link_past link (t ∷ ms)) (free_of ys) None
  rest_links = Links-after old (t ∷ ms) ys link None (Links-after old xs ((t ∷ ms) ++ ys) 24 None was.free)

  length-linked : length linked ≡ length old
  length-linked = length-set_number 4 tagged (at + 12) (distance (at + 12) (target old (link_past link (t ∷ ms)))) ∙ length-set_number 4 old (at + 8) 0

  length-listed : length listed ≡ length old
  length-listed = length-set_number 4 linked link (distance link (Some (at + 16))) ∙ length-linked

  local : IsLocal old released link at (at + 16 * u)
  local =
      let two = large in
      IsLocal-trans old tagged released link at (at + 16 * u) (IsLocal-word old (at + 8) 0 link at (at + 16 * u) (omega arith) (omega arith))
      (IsLocal-trans tagged linked released link at (at + 16 * u) (IsLocal-word tagged (at + 12) (distance (at + 12) (target old (link_past link (t ∷ ms)))) link at (at + 16 * u) (omega arith) (omega arith))
      (IsLocal-trans linked listed released link at (at + 16 * u) (IsLocal-link linked (distance link (Some (at + 16))) link at (at + 16 * u))
      (IsLocal-set_size listed at u false link at (at + 16 * u) (omega arith) (omega arith) (inl refl))))

  header : AreHeaders released (units_after 0 xs) (tile at u false ∷ [])
  header =
      let h = (AreHeaders-back old xs ((t ∷ ms) ++ ys) 0 was.tiled.headers).0 in
      let room = inside in
      let low = below in
      let long = length-listed in
      let before_is : units_before listed at ≡ units_after 0 xs =
      number-set_other 4 4 linked link (distance link (Some (at + 16))) (at + 4) (inr (omega arith))
      ∙ number-set_other 4 4 tagged (at + 12) (distance (at + 12) (target old (link_past link (t ∷ ms)))) (at + 4) (inl (omega arith))
      ∙ number-set_other 4 4 old (at + 8) 0 (at + 4) (inl (omega arith)) ∙ ap (units_before old) (sym fill.0) ∙ h.before_is in
      let two = large in
      let tag_is : tag_at listed at ≡ 0 =
      number-set_other 4 4 linked link (distance link (Some (at + 16))) (at + 8) (inr (omega arith))
      ∙ number-set_other 4 4 tagged (at + 12) (distance (at + 12) (target old (link_past link (t ∷ ms)))) (at + 8) (inl (omega arith))
      ∙ number-set_same 4 old (at + 8) 0 (omega arith) (omega arith) in
      (IsHeader-set_size listed at u (units_after 0 xs) false two (omega arith) (omega (arith, was.tiled.small)) before_is (λ e. tag_is), tt)

  next_size : at + 16 * u + 8 ≤ length old → word released (at + 16 * u + 4) ≡ u
  next_size h =
      let long = length-listed in
      number-set_same 4 (set_word listed at (size_word u false)) (at + 16 * u + 4) u (omega (arith, length-set_number 4 listed at (size_word u false))) (omega (arith, was.tiled.small))

  names : Links released link (record { at = at; units = u } ∷ []) (target old (link_past link (t ∷ ms)))
  names =
      let low = below in
      let room = inside in
      let two = large in
      let even = aligned in
      let long = length-linked in
      let tagged_long = length-set_number 4 old (at + 8) 0 in (
        target-same listed released link
            (number-set_other 4 4 (set_word listed at (size_word u false)) (at + 16 * u + 4) u link (inl (omega arith))
            ∙ number-set_other 4 4 listed at (size_word u false) link (inl (omega arith)))
            ∙ target-set_same linked link (Some (at + 16)) (omega arith) (omega (arith, was.tiled.small))
            (λ s e. let is : at + 16 ≡ s = some_same e in (omega (arith, was.tiled.small), link_names xs at s parts.0 (omega arith))),
        target-same linked released (at + 12)
            (number-set_other 4 4 (set_word listed at (size_word u false)) (at + 16 * u + 4) u (at + 12) (inl (omega arith))
            ∙ number-set_other 4 4 listed at (size_word u false) (at + 12) (inr (omega arith))
            ∙ number-set_other 4 4 linked link (distance link (Some (at + 16))) (at + 12) (inr (omega arith)))
            ∙ target-set_same tagged (at + 12) (target old (link_past link (t ∷ ms))) (omega arith) (omega (arith, was.tiled.small))
            (λ s e. let is = names_tile old ys (link_past link (t ∷ ms)) (at + 16 * u) (length old) s (omega arith) parts.1 rest_links e in (omega (arith, was.tiled.small), λ k. absurd (omega arith))),
      )
    where
      some_same : {s : ℕ} → Some (at + 16) ≡ Some s → at + 16 ≡ s
      some_same e = cc

  pub release-retiles : Retiles 0 old released xs (tile at u false ∷ []) ys
  release-retiles = record {
    tiling = retile old released xs (t ∷ ms) (tile at u false ∷ []) ys at (at + 16 * u) was parts.0 (refl, large, refl) parts.1 local header next_size names;
    spared = spares old released xs (t ∷ ms) (tile at u false ∷ []) ys at (at + 16 * u) was parts.0 (refl, large, refl) parts.1 local;
  }
