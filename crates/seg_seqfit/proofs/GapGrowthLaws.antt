-- Tiles become one free tile. The first of them is in the free list already.
use Rattle.std.proofs.Common.{◌≡◌, ℕ, ◌+◌, ◌*◌, ◌%◌, ◌≤◌, false, List, [], ◌∷◌, ◌++◌, length, cond, Some, None, refl, sym, ap, ◌∙◌, subst, arith, inl, inr}
use Rattle.seg_spec.specs.Bytes.{word, set_word}
use Rattle.seg_spec.specs.Pointer.{target, distance, set_pointer}
use Rattle.seg_spec.specs.Heap.{Tile, span_of, units_before, tag_at, Fill, AreHeaders, Links, free_of, heap_start}
use Rattle.seg_spec.proofs.BytesLaws.{number-set_same, number-set_other, length-set_number}
use Rattle.seg_spec.proofs.PointerLaws.{target-set_same, target-same}
use Rattle.seg_spec.proofs.Heap.TileLaws.{Fill-le, AreHeaders-back, units_after}
use Rattle.seg_block.specs.Sizes.{size_word, set_size}
use Rattle.seg_block.specs.Tiling.{tile, IsTiling, Retiles}
use Rattle.seg_seqfit.specs.Retiling.{link_past}
use Rattle.seg_block.proofs.SizeLaws.{IsHeader-set_size}
use Rattle.seg_seqfit.proofs.LinkLaws.{Links-after, link_past-low, names_tile}
use Rattle.seg_block.proofs.TileReplacementLaws.{aligned_end, beside}
use Rattle.seg_seqfit.proofs.Retile.{IsLocal, retile, spares, IsLocal-trans, IsLocal-word, IsLocal-set_size, target-local}

module _ (old : List ℕ) (xs ms ys : List Tile) (t : Tile) (at u : ℕ) (free : t.live ≡ false) (was : IsTiling 0 old (xs ++ ((t ∷ ms) ++ ys))) (fill : Fill at (t ∷ ms) (at + 16 * u)) where
  abbrev last : ℕ
  last = link_past (at + 12) ms

  abbrev linked : List ℕ
  linked = set_pointer old (at + 12) (target old last)

  abbrev widened : List ℕ
  widened = set_size linked at u false

  parts : Fill heap_start xs at × Fill (at + 16 * u) ys (length old)
  parts = beside xs ms ys t heap_start (length old) at (at + 16 * u) was.tiled.filled fill

  large : 2 ≤ u
  large = let le = Fill-le ms (at + 16 * t.units) (at + 16 * u) fill.2 in omega (arith, fill.1)

  aligned : at % 16 ≡ 0
  aligned = aligned_end xs heap_start at refl parts.0

  inside : at + 16 * u ≤ length old
  inside = Fill-le ys (at + 16 * u) (length old) parts.1

  below : link_past 24 xs + 4 ≤ at
  below = link_past-low xs 24 heap_start at (omega arith) parts.0

  -- the first tile's own word is the next pointer word of the list
  past_first : (p : ℕ) → link_past p (t ∷ ms) ≡ last
  past_first p = (λ i. link_past (cond (free i) p (t.at + 12)) ms) ∙ ap (λ q. link_past (q + 12) ms) fill.0

  list : Links old (link_past 24 xs) (free_of ((t ∷ ms) ++ ys)) None
  list = Links-after old xs ((t ∷ ms) ++ ys) 24 None was.free

  named : target old (link_past 24 xs) ≡ Some (at + 16)
  named =
      (subst (λ b. Links old (link_past 24 xs) (cond b (free_of (ms ++ ys)) (span_of t ∷ free_of (ms ++ ys))) None) free list).0
      ∙ ap (λ p. Some (p + 16)) fill.0

  rest_links : Links old last (free_of ys) None
  rest_links = subst (λ p. Links old p (free_of ys) None) (past_first (link_past 24 xs)) (Links-after old (t ∷ ms) ys (link_past 24 xs) None list)

  length-linked : length linked ≡ length old
  length-linked = length-set_number 4 old (at + 12) (distance (at + 12) (target old last))

  local : (link : ℕ) → IsLocal old widened link at (at + 16 * u)
  local link =
      let two = large in
      IsLocal-trans old linked widened link at (at + 16 * u) (IsLocal-word old (at + 12) (distance (at + 12) (target old last)) link at (at + 16 * u) (omega arith) (omega arith))
      (IsLocal-set_size linked at u false link at (at + 16 * u) (omega arith) (omega arith) (inl refl))

  header : AreHeaders widened (units_after 0 xs) (tile at u false ∷ [])
  header =
      let h = (AreHeaders-back old xs ((t ∷ ms) ++ ys) 0 was.tiled.headers).0 in
      let two = large in
      let room = inside in
      let long = length-linked in
      let before_is : units_before linked at ≡ units_after 0 xs =
      number-set_other 4 4 old (at + 12) (distance (at + 12) (target old last)) (at + 4) (inl (omega arith)) ∙ ap (units_before old) (sym fill.0) ∙ h.before_is in
      let tag_is : tag_at linked at ≡ 0 =
      number-set_other 4 4 old (at + 12) (distance (at + 12) (target old last)) (at + 8) (inl (omega arith)) ∙ ap (tag_at old) (sym fill.0) ∙ h.tag_is free in
      (IsHeader-set_size linked at u (units_after 0 xs) false two (omega arith) (omega (arith, was.tiled.small)) before_is (λ e. tag_is), tt)

  next_size : at + 16 * u + 8 ≤ length old → word widened (at + 16 * u + 4) ≡ u
  next_size h =
      let long = length-linked in
      number-set_same 4 (set_word linked at (size_word u false)) (at + 16 * u + 4) u (omega (arith, length-set_number 4 linked at (size_word u false))) (omega (arith, was.tiled.small))

  names : Links widened (link_past 24 xs) (record { at = at; units = u } ∷ []) (target old last)
  names =
      let room = inside in
      let two = large in
      let low = below in
      let even = aligned in (
        target-local old widened (at + 12) at (at + 16 * u) (link_past 24 xs) (local (at + 12)) (omega arith) low (inl (omega arith)) ∙ named,
        target-same linked widened (at + 12)
            (number-set_other 4 4 (set_word linked at (size_word u false)) (at + 16 * u + 4) u (at + 12) (inl (omega arith))
            ∙ number-set_other 4 4 linked at (size_word u false) (at + 12) (inr (omega arith)))
            ∙ target-set_same old (at + 12) (target old last) (omega arith) (omega (arith, was.tiled.small))
            (λ s e. let is = names_tile old ys last (at + 16 * u) (length old) s (omega arith) parts.1 rest_links e in (omega (arith, was.tiled.small), λ k. absurd (omega arith))),
      )

  pub widen-retiles : Retiles 0 old widened xs (tile at u false ∷ []) ys
  widen-retiles = record {
    tiling = retile old widened xs (t ∷ ms) (tile at u false ∷ []) ys at (at + 16 * u) was parts.0 (refl, large, refl) parts.1 (local (link_past 24 xs)) header next_size
        (subst (λ p. Links widened (link_past 24 xs) (record { at = at; units = u } ∷ []) (target old p)) (sym (past_first (link_past 24 xs))) names);
    spared = spares old widened xs (t ∷ ms) (tile at u false ∷ []) ys at (at + 16 * u) was parts.0 (refl, large, refl) parts.1 (local (link_past 24 xs));
  }
