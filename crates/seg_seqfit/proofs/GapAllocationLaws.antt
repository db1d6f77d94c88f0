-- A free tile is removed from the free list.
use Rattle.std.proofs.Common.{◌≡◌, ℕ, ◌+◌, ◌*◌, ◌%◌, ◌≤◌, true, false, List, [], ◌∷◌, ◌++◌, length, Some, None, refl, ◌∙◌, arith, inl, inr, ⊎_elim}
use Rattle.seg_spec.specs.Bytes.{word, set_word}
use Rattle.seg_spec.specs.Pointer.{target, distance, set_pointer}
use Rattle.seg_spec.specs.Heap.{Tile, link_at, units_before, Fill, AreHeaders, heap_start}
use Rattle.seg_spec.proofs.BytesLaws.{number-set_same, number-set_other, Agrees-trans, Agrees-set_number, length-set_number}
use Rattle.seg_spec.proofs.PointerLaws.{target-set_same, target-same}
use Rattle.seg_spec.proofs.Heap.TileLaws.{Fill-le, AreHeaders-back, units_after}
use Rattle.seg_block.specs.Sizes.{size_word, set_size}
use Rattle.seg_block.specs.Tiling.{tile, IsTiling, Retiles}
use Rattle.seg_seqfit.specs.Retiling.{link_past}
use Rattle.seg_block.proofs.SizeLaws.{IsHeader-set_size, Agrees-set_size, length-set_size}
use Rattle.seg_seqfit.proofs.LinkLaws.{Links-after, link_past-low, names_tile}
use Rattle.seg_block.proofs.TileReplacementLaws.{around, aligned_end}
use Rattle.seg_seqfit.proofs.Retile.{IsLocal, retile, spares, out_of, link_names}

-- the pointer word of a tile of the list has an aligned target that is not past the bytes
pub named_after : (bytes : List ℕ) (xs ys : List Tile) (at u t : ℕ) → IsTiling 0 bytes (xs ++ tile at u false ∷ ys) → target bytes (at + 12) ≡ Some t → (t % 16 ≡ 0) × (t ≤ length bytes)
named_after bytes xs ys at u t was e =
    let parts = around xs ys heap_start (length bytes) at u false was.tiled.filled in
    let even = aligned_end xs heap_start at refl parts.0 in
    let rest = Links-after bytes (tile at u false ∷ []) ys (link_past 24 xs) None (Links-after bytes xs (tile at u false ∷ ys) 24 None was.free) in
    names_tile bytes ys (at + 12) (at + 16 * u) (length bytes) t (omega arith) parts.2 rest e

module _ (old : List ℕ) (xs ys : List Tile) (at u : ℕ) (was : IsTiling 0 old (xs ++ tile at u false ∷ ys)) where
  abbrev link : ℕ
  link = link_past 24 xs

  abbrev unlinked : List ℕ
  unlinked = set_pointer old link (target old (at + 12))

  abbrev closed : List ℕ
  closed = set_pointer unlinked (at + 12) None

  abbrev taken : List ℕ
  taken = set_size closed at u true

  parts : (Fill heap_start xs at) × (2 ≤ u) × Fill (at + 16 * u) ys (length old)
  parts = around xs ys heap_start (length old) at u false was.tiled.filled

  length-closed : length closed ≡ length old
  length-closed = length-set_number 4 unlinked (at + 12) (distance (at + 12) None) ∙ length-set_number 4 old link (distance link (target old (at + 12)))

  length-taken : length taken ≡ length old
  length-taken = length-set_size closed at u true ∙ length-closed

  inside : at + 16 * u ≤ length old
  inside = Fill-le ys (at + 16 * u) (length old) parts.2

  below : link + 4 ≤ at
  below = link_past-low xs 24 heap_start at (omega arith) parts.0

  local : IsLocal old taken link at (at + 16 * u)
  local = record {
    length_kept = length-taken;
    kept = λ from to off out next.
        let large = parts.1 in
        Agrees-trans old unlinked taken from to (Agrees-set_number 4 old link (distance link (target old (at + 12))) from to off)
        (Agrees-trans unlinked closed taken from to (Agrees-set_number 4 unlinked (at + 12) (distance (at + 12) None) from to (out_of from to at (at + 16 * u) (at + 12) out (omega arith) (omega arith)))
        (Agrees-set_size closed at u true from to (out_of from to at (at + 16 * u) at out (omega arith) (omega arith)) (⊎_elim (λ h. inl h) (λ h. inr (omega arith)) next)));
  }

  header : AreHeaders taken (units_after 0 xs) (tile at u true ∷ [])
  header =
      let h = (AreHeaders-back old xs (tile at u false ∷ ys) 0 was.tiled.headers).0 in
      let large = parts.1 in
      let room = inside in
      let low = below in
      let long = length-closed in
      let before_is : units_before closed at ≡ units_after 0 xs = number-set_other 4 4 unlinked (at + 12) (distance (at + 12) None) (at + 4) (inl (omega arith))
      ∙ number-set_other 4 4 old link (distance link (target old (at + 12))) (at + 4) (inr (omega arith)) ∙ h.before_is in
      (IsHeader-set_size closed at u (units_after 0 xs) true large (omega arith) (omega (arith, was.tiled.small)) before_is (λ e. absurd (no e)), tt)
    where
      no : true ≡ false → ⊥
      no e = cc

  next_size : at + 16 * u + 8 ≤ length old → word taken (at + 16 * u + 4) ≡ u
  next_size h =
      let long = length-closed in
      number-set_same 4 (set_word closed at (size_word u true)) (at + 16 * u + 4) u (omega (arith, length-set_number 4 closed at (size_word u true))) (omega (arith, was.tiled.small))

  names : target taken link ≡ target old (at + 12)
  names =
      let low = below in
      let room = inside in
      let large = parts.1 in
      target-same unlinked taken link
      (number-set_other 4 4 (set_word closed at (size_word u true)) (at + 16 * u + 4) u link (inl (omega arith))
      ∙ number-set_other 4 4 closed at (size_word u true) link (inl (omega arith))
      ∙ number-set_other 4 4 unlinked (at + 12) (distance (at + 12) None) link (inl (omega arith)))
      ∙ target-set_same old link (target old (at + 12)) (omega arith) (omega (arith, was.tiled.small))
      (λ t e. let is = named_after old xs ys at u t was e in (omega (arith, was.tiled.small), link_names xs at t parts.0 is.0))

  pub take-retiles : Retiles 0 old taken xs (tile at u true ∷ []) ys
  take-retiles = record {
    tiling = retile old taken xs (tile at u false ∷ []) (tile at u true ∷ []) ys at (at + 16 * u) was parts.0 (refl, parts.1, refl) parts.2 local header next_size names;
    spared = spares old taken xs (tile at u false ∷ []) (tile at u true ∷ []) ys at (at + 16 * u) was parts.0 (refl, parts.1, refl) parts.2 local;
  }

  pub link_at-taken : link_at taken at ≡ None
  link_at-taken =
      let large = parts.1 in
      let room = inside in
      target-same closed taken (at + 12)
      (number-set_other 4 4 (set_word closed at (size_word u true)) (at + 16 * u + 4) u (at + 12) (inl (omega arith))
      ∙ number-set_other 4 4 closed at (size_word u true) (at + 12) (inr (omega arith)))
      ∙ target-set_same unlinked (at + 12) None (omega (arith, length-set_number 4 old link (distance link (target old (at + 12))))) (omega (arith, was.tiled.small)) (λ t e. absurd (no t e))
    where
      no : (t : ℕ) → None ≡ Some t → ⊥
      no t e = cc
