-- A tile becomes allocated or free, with the same size.
use Rattle.std.proofs.Common.{◌≡◌, ℕ, ◌+◌, ◌*◌, ◌≤◌, Bool, false, List, [], ◌∷◌, ◌++◌, length, refl, arith, inl, inr, ◌⊎◌}
use Rattle.seg_spec.specs.Bytes.{word, set_word, Agrees}
use Rattle.seg_spec.specs.Heap.{Tile, Fill, AreHeaders, heap_start, tag_at}
use Rattle.seg_spec.proofs.BytesLaws.{number-set_same, length-set_number}
use Rattle.seg_spec.proofs.Heap.TileLaws.{Fill-le, AreHeaders-back, units_after}
use Rattle.seg_block.specs.Sizes.{size_word, set_size}
use Rattle.seg_block.specs.Tiling.{tile, IsTiled, Replaces}
use Rattle.seg_block.proofs.SizeLaws.{IsHeader-set_size, Agrees-set_size}
use Rattle.seg_block.proofs.TileReplacementLaws.{around, replaces}

module _ (old : List ℕ) (xs ys : List Tile) (at u : ℕ) (live live' : Bool) (was : IsTiled old (xs ++ tile at u live ∷ ys)) where
  abbrev sized : List ℕ
  sized = set_size old at u live'

  pub relabel-places : (Fill heap_start xs at) × (2 ≤ u) × Fill (at + 16 * u) ys (length old)
  relabel-places = around xs ys heap_start (length old) at u live was.filled

  pub relabel-kept : (from to : ℕ) → (to ≤ at) ⊎ (at + 16 * u ≤ from) → (to ≤ at + 16 * u + 4) ⊎ (at + 16 * u + 8 ≤ from) → Agrees old sized from to
  relabel-kept from to (inl low) (inl next) = Agrees-set_size old at u live' from to (inl low) (inl next)
  relabel-kept from to (inl low) (inr next) = Agrees-set_size old at u live' from to (inl low) (inl (omega arith))
  relabel-kept from to (inr high) (inl next) = let p = relabel-places in Agrees-set_size old at u live' from to (inr (omega arith)) (inl next)
  relabel-kept from to (inr high) (inr next) = let p = relabel-places in Agrees-set_size old at u live' from to (inr (omega arith)) (inr (omega arith))

  inside : at + 16 * u ≤ length old
  inside = let p = relabel-places in Fill-le ys (at + 16 * u) (length old) p.2

  header : (live' ≡ false → tag_at old at ≡ 0) → AreHeaders sized (units_after 0 xs) (tile at u live' ∷ [])
  header tag =
      let h = (AreHeaders-back old xs (tile at u live ∷ ys) 0 was.headers).0 in
      let p = relabel-places in
      let room = inside in
      (IsHeader-set_size old at u (units_after 0 xs) live' p.1 (omega arith) was.small h.before_is tag, tt)

  next_size : at + 16 * u + 8 ≤ length old → word sized (at + 16 * u + 4) ≡ u
  next_size h = number-set_same 4 (set_word old at (size_word u live')) (at + 16 * u + 4) u (omega (arith, length-set_number 4 old at (size_word u live'))) (let k = was.small in omega arith)

  pub relabel-replaces : (live' ≡ false → tag_at old at ≡ 0) → Replaces old sized xs (tile at u live' ∷ []) ys at (16 * u)
  relabel-replaces tag =
      let p = relabel-places in
      replaces old sized xs (tile at u live ∷ []) (tile at u live' ∷ []) ys at (at + 16 * u) (16 * u) was p.0 (refl, p.1, refl) p.2
      relabel-kept (header tag) next_size (Agrees-set_size old at u live' (at + 8) (at + 16 * u) (inr (omega arith)) (inl (omega arith)))
