-- A tile is joined with the tile right after it.
use Rattle.std.proofs.Common.{◌≡◌, ℕ, ◌+◌, ◌*◌, ◌≤◌, Bool, List, [], ◌∷◌, ◌++◌, length, refl, ap, ◌∙◌, arith, inl, inr, ◌⊎◌}
use Rattle.seg_spec.specs.Bytes.{word, set_word, Agrees}
use Rattle.seg_spec.specs.Heap.{Tile, Fill, AreHeaders, heap_start}
use Rattle.seg_spec.proofs.BytesLaws.{number-set_same, length-set_number}
use Rattle.seg_spec.proofs.Heap.TileLaws.{Fill-le, AreHeaders-back, units_after}
use Rattle.seg_block.specs.Sizes.{size_word, set_size}
use Rattle.seg_block.specs.Tiling.{tile, IsTiled, Replaces}
use Rattle.seg_block.proofs.SizeLaws.{IsHeader-set_size, Agrees-set_size}
use Rattle.seg_block.proofs.TileReplacementLaws.{around, replaces}

module _ (old : List ℕ) (xs ys : List Tile) (at u v : ℕ) (live live' : Bool) (was : IsTiled old (xs ++ (tile at u live ∷ tile (at + 16 * u) v live' ∷ ys))) where
  abbrev following : ℕ
  following = at + 16 * u

  abbrev hi : ℕ
  hi = following + 16 * v

  abbrev joined : List ℕ
  joined = set_size old at (u + v) live

  first : (Fill heap_start xs at) × (2 ≤ u) × Fill following (tile following v live' ∷ ys) (length old)
  first = around xs (tile following v live' ∷ ys) heap_start (length old) at u live was.filled

  pub join-large : 2 ≤ v
  join-large = first.2.1

  end_is : at + 16 * (u + v) ≡ hi
  end_is = omega arith

  pub join-front : Fill heap_start xs at
  join-front = first.0

  pub join-middle : Fill at (tile at (u + v) live ∷ []) hi
  join-middle = (refl, (let a = first.1 in omega arith), end_is)

  pub join-back : Fill hi ys (length old)
  join-back = first.2.2

  inside : hi ≤ length old
  inside = Fill-le ys hi (length old) join-back

  pub join-kept : (from to : ℕ) → (to ≤ at) ⊎ (hi ≤ from) → (to ≤ hi + 4) ⊎ (hi + 8 ≤ from) → Agrees old joined from to
  join-kept from to (inl low) next = Agrees-set_size old at (u + v) live from to (inl low) (inl (omega arith))
  join-kept from to (inr high) (inl next) = Agrees-set_size old at (u + v) live from to (inr (omega (arith, join-large))) (inl (omega (arith, end_is)))
  join-kept from to (inr high) (inr next) = Agrees-set_size old at (u + v) live from to (inr (omega (arith, join-large))) (inr (omega (arith, end_is)))

  pub join-headers : AreHeaders joined (units_after 0 xs) (tile at (u + v) live ∷ [])
  join-headers =
      let h = (AreHeaders-back old xs (tile at u live ∷ tile following v live' ∷ ys) 0 was.headers).0 in
      let a = first.1 in
      let room = inside in
      (IsHeader-set_size old at (u + v) (units_after 0 xs) live (omega arith) (omega arith) was.small h.before_is h.tag_is, tt)

  pub join-next : hi + 8 ≤ length old → word joined (hi + 4) ≡ u + v
  join-next h =
      ap (λ p. word (set_word (set_word old at (size_word (u + v) live)) (p + 4) (u + v)) (hi + 4)) end_is
      ∙ number-set_same 4 (set_word old at (size_word (u + v) live)) (hi + 4) (u + v) (omega (arith, length-set_number 4 old at (size_word (u + v) live))) (omega (arith, was.small))

  pub join-replaces : Replaces old joined xs (tile at (u + v) live ∷ []) ys at (16 * u)
  join-replaces =
      replaces old joined xs (tile at u live ∷ tile following v live' ∷ []) (tile at (u + v) live ∷ []) ys at hi (16 * u) was first.0 join-middle join-back
      join-kept join-headers join-next (Agrees-set_size old at (u + v) live (at + 8) following (inr (omega arith)) (inl (omega arith)))
