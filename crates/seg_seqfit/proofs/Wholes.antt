-- A free tile is removed from the free list. The word after the tile already states its size.
use Rattle.std.proofs.Common.{◌≡◌, ℕ, ◌+◌, ◌*◌, ◌≤◌, true, false, List, [], ◌∷◌, ◌++◌, length, Some, None, refl, sym, ap, ◌∙◌, arith, inl, inr, ◌⊎◌, ⊎_elim}
use Rattle.seg_spec.specs.Bytes.{word, set_word}
use Rattle.seg_spec.specs.Pointer.{target, distance, set_pointer}
use Rattle.seg_spec.specs.Heap.{Tile, units_before, link_at, Fill, AreHeaders, heap_start}
use Rattle.seg_spec.proofs.BytesLaws.{number-set_other, length-set_number}
use Rattle.seg_spec.proofs.PointerLaws.{target-set_same, target-same}
use Rattle.seg_spec.proofs.Heap.TileLaws.{Fill-le, AreHeaders-back, units_after}
use Rattle.seg_block.specs.Sizes.{size_word}
use Rattle.seg_block.specs.Tiling.{tile, IsTiling, Retiles}
use Rattle.seg_seqfit.specs.Retiling.{link_past}
use Rattle.seg_block.proofs.SizeLaws.{IsHeader-set_word}
use Rattle.seg_seqfit.proofs.LinkLaws.{link_past-low}
use Rattle.seg_block.proofs.TileReplacementLaws.{around}
use Rattle.seg_seqfit.proofs.Retile.{IsLocal, retile, spares, link_names, IsLocal-trans, IsLocal-word, IsLocal-link}
use Rattle.seg_seqfit.proofs.GapAllocationLaws.{named_after}

module _ (old : List ℕ) (xs ys : List Tile) (at u : ℕ) (was : IsTiling 0 old (xs ++ tile at u false ∷ ys)) where
  abbrev link : ℕ
  link = link_past 24 xs

  abbrev unlinked : List ℕ
  unlinked = set_pointer old link (target old (at + 12))

  abbrev closed : List ℕ
  closed = set_pointer unlinked (at + 12) None

  abbrev taken : List ℕ
  taken = set_word closed at (size_word u true)

  parts : (Fill heap_start xs at) × (2 ≤ u) × Fill (at + 16 * u) ys (length old)
  parts = around xs ys heap_start (length old) at u false was.tiled.filled

  length-closed : length closed ≡ length old
  length-closed = length-set_number 4 unlinked (at + 12) (distance (at + 12) None) ∙ length-set_number 4 old link (distance link (target old (at + 12)))

  inside : at + 16 * u ≤ length old
  inside = Fill-le ys (at + 16 * u) (length old) parts.2

  below : link + 4 ≤ at
  below = link_past-low xs 24 heap_start at (omega arith) parts.0

  local : IsLocal old taken link at (at + 16 * u)
  local =
      let large = parts.1 in
      IsLocal-trans old unlinked taken link at (at + 16 * u) (IsLocal-link old (distance link (target old (at + 12))) link at (at + 16 * u))
      (IsLocal-trans unlinked closed taken link at (at + 16 * u) (IsLocal-word unlinked (at + 12) (distance (at + 12) None) link at (at + 16 * u) (omega arith) (omega arith))
      (IsLocal-word closed at (size_word u true) link at (at + 16 * u) (omega arith) (omega arith)))

  -- a word that none of these writes overlaps is kept
  kept : (p : ℕ) → at + 4 ≤ p → (p + 4 ≤ at + 12) ⊎ (at + 16 ≤ p) → word taken p ≡ word old p
  kept p low out =
      let below_link = below in
      number-set_other 4 4 closed at (size_word u true) p (inr (omega arith))
      ∙ number-set_other 4 4 unlinked (at + 12) (distance (at + 12) None) p (⊎_elim (λ h. inl h) (λ h. inr (omega arith)) out)
      ∙ number-set_other 4 4 old link (distance link (target old (at + 12))) p (inr (omega arith))

  header : AreHeaders taken (units_after 0 xs) (tile at u true ∷ [])
  header =
      let h = (AreHeaders-back old xs (tile at u false ∷ ys) 0 was.tiled.headers).0 in
      let large = parts.1 in
      let room = inside in
      let low = below in
      let long = length-closed in
      let before_is : units_before closed at ≡ units_after 0 xs = number-set_other 4 4 unlinked (at + 12) (distance (at + 12) None) (at + 4) (inl (omega arith))
      ∙ number-set_other 4 4 old link (distance link (target old (at + 12))) (at + 4) (inr (omega arith)) ∙ h.before_is in
      (IsHeader-set_word closed at u (units_after 0 xs) true (omega arith) (omega (arith, was.tiled.small)) before_is (λ e. absurd (no e)), tt)
    where
      no : true ≡ false → ⊥
      no e = cc

  -- the next tile's header already states the size
  next_was : (zs : List Tile) → Fill (at + 16 * u) zs (length old) → AreHeaders old u zs → at + 16 * u + 8 ≤ length old → word old (at + 16 * u + 4) ≡ u
  next_was [] f h room = absurd (omega (arith, f))
  next_was (z ∷ zs) f h room = ap (λ p. word old (p + 4)) (sym f.0) ∙ h.0.before_is

  next_size : at + 16 * u + 8 ≤ length old → word taken (at + 16 * u + 4) ≡ u
  next_size room =
      let large = parts.1 in
      kept (at + 16 * u + 4) (omega arith) (inr (omega arith)) ∙ next_was ys parts.2 (AreHeaders-back old xs (tile at u false ∷ ys) 0 was.tiled.headers).1 room

  names : target taken link ≡ target old (at + 12)
  names =
      let low = below in
      let room = inside in
      let large = parts.1 in
      target-same unlinked taken link
      (number-set_other 4 4 closed at (size_word u true) link (inl (omega arith))
      ∙ number-set_other 4 4 unlinked (at + 12) (distance (at + 12) None) link (inl (omega arith)))
      ∙ target-set_same old link (target old (at + 12)) (omega arith) (omega (arith, was.tiled.small))
      (λ t e. let is = named_after old xs ys at u t was e in (omega (arith, was.tiled.small), link_names xs at t parts.0 is.0))

  pub whole-retiles : Retiles 0 old taken xs (tile at u true ∷ []) ys
  whole-retiles = record {
    tiling = retile old taken xs (tile at u false ∷ []) (tile at u true ∷ []) ys at (at + 16 * u) was parts.0 (refl, parts.1, refl) parts.2 local header next_size names;
    spared = spares old taken xs (tile at u false ∷ []) (tile at u true ∷ []) ys at (at + 16 * u) was parts.0 (refl, parts.1, refl) parts.2 local;
  }

  pub link_at-whole : link_at taken at ≡ None
  link_at-whole =
      let large = parts.1 in
      let room = inside in
      target-same closed taken (at + 12)
      (number-set_other 4 4 closed at (size_word u true) (at + 12) (inr (omega arith)))
      ∙ target-set_same unlinked (at + 12) None (omega (arith, length-set_number 4 old link (distance link (target old (at + 12))))) (omega (arith, was.tiled.small)) (λ t e. absurd (no t e))
    where
      no : (t : ℕ) → None ≡ Some t → ⊥
      no t e = cc
