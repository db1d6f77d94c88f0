-- A tile is split in two.
use Rattle.std.proofs.Common.{◌≡◌, ℕ, ◌+◌, ◌*◌, ◌≤◌, Bool, List, [], ◌∷◌, ◌++◌, length, refl, ◌∙◌, subst, arith, inl, inr, ◌⊎◌, ⊎_elim}
use Rattle.seg_spec.specs.Bytes.{word, set_word, Agrees}
use Rattle.seg_spec.specs.Heap.{Tile, units_before, IsHeader, Fill, AreHeaders, heap_start}
use Rattle.seg_spec.proofs.BytesLaws.{number-set_same, number-set_other, length-set_number, Agrees-trans, Agrees-set_number}
use Rattle.seg_spec.proofs.Heap.TileLaws.{Fill-le, AreHeaders-back, units_after}
use Rattle.seg_spec.proofs.Heap.HeaderLaws.{AreHeaders-after}
use Rattle.seg_block.specs.Sizes.{size_word, set_size, set_split}
use Rattle.seg_block.specs.Tiling.{tile, IsTiled, Replaces}
use Rattle.seg_block.proofs.SizeLaws.{IsHeader-set_size, Agrees-set_size, length-set_size}
use Rattle.seg_block.proofs.TileReplacementLaws.{around, replaces}

module _ (old : List ℕ) (xs ys : List Tile) (at n u r : ℕ) (live : Bool) (was : IsTiled old (xs ++ tile at n live ∷ ys)) (whole : n ≡ u + r) (front_large : 2 ≤ u) (rest_large : 2 ≤ r) where
  abbrev following : ℕ
  following = at + 16 * u

  abbrev hi : ℕ
  hi = following + 16 * r

  abbrev tagged : List ℕ
  tagged = set_word old (following + 8) 0

  abbrev sized : List ℕ
  sized = set_size tagged following r live

  abbrev cut : List ℕ
  cut = set_split old at u r live

  pub parts : (Fill heap_start xs at) × (2 ≤ n) × Fill hi ys (length old)
  parts =
      let a = around xs ys heap_start (length old) at n live was.filled in
      let e : at + 16 * n ≡ hi = omega arith in
      (a.0, a.1, subst (λ p. Fill p ys (length old)) e a.2)

  inside : hi ≤ length old
  inside = Fill-le ys hi (length old) parts.2

  length-sized : length sized ≡ length old
  length-sized = length-set_size tagged following r live ∙ length-set_number 4 old (following + 8) 0

  -- the tile's tag, link and payload are kept up to the cut
  keeps : Agrees old cut (at + 8) following
  keeps =
      Agrees-trans old tagged cut (at + 8) following (Agrees-set_number 4 old (following + 8) 0 (at + 8) following (inl (omega arith)))
      (Agrees-trans tagged sized cut (at + 8) following (Agrees-set_size tagged following r live (at + 8) following (inl (omega arith)) (inl (omega arith)))
      (Agrees-set_size sized at u live (at + 8) following (inr (omega arith)) (inl (omega arith))))

  pub split-kept : (from to : ℕ) → (to ≤ at) ⊎ (hi ≤ from) → (to ≤ hi + 4) ⊎ (hi + 8 ≤ from) → Agrees old cut from to
  split-kept from to (inl low) next =
      Agrees-trans old tagged cut from to (Agrees-set_number 4 old (following + 8) 0 from to (inl (omega arith)))
      (Agrees-trans tagged sized cut from to (Agrees-set_size tagged following r live from to (inl (omega arith)) (inl (omega arith)))
      (Agrees-set_size sized at u live from to (inl (omega arith)) (inl (omega arith))))
  split-kept from to (inr high) next =
      Agrees-trans old tagged cut from to (Agrees-set_number 4 old (following + 8) 0 from to (inr (omega arith)))
      (Agrees-trans tagged sized cut from to (Agrees-set_size tagged following r live from to (inr (omega arith)) (⊎_elim (λ h. inl h) (λ h. inr (omega arith)) next))
      (Agrees-set_size sized at u live from to (inr (omega arith)) (inr (omega arith))))

  front_header : IsHeader cut (units_after 0 xs) (tile at u live)
  front_header =
      let h = (AreHeaders-back old xs (tile at n live ∷ ys) 0 was.headers).0 in
      let room = inside in
      let long = length-sized in
      IsHeader-set_size sized at u (units_after 0 xs) live front_large (omega arith) (omega (arith, was.small))
      (front_word 4 (omega arith) (omega arith) ∙ h.before_is) (λ free. front_word 8 (omega arith) (omega arith) ∙ h.tag_is free)
    where
      front_word : (k : ℕ) → 4 ≤ k → k ≤ 8 → word sized (at + k) ≡ word old (at + k)
      front_word k low high =
          number-set_other 4 4 (set_word tagged following (size_word r live)) (following + 16 * r + 4) r (at + k) (inl (omega arith))
          ∙ number-set_other 4 4 tagged following (size_word r live) (at + k) (inl (omega arith))
          ∙ number-set_other 4 4 old (following + 8) 0 (at + k) (inl (omega arith))

  rest_header : AreHeaders cut u (tile following r live ∷ [])
  rest_header =
      let room = inside in
      let long = length-sized in
      let longer = length-set_number 4 old (following + 8) 0 in
      AreHeaders-after sized cut (tile following r live ∷ []) following hi (units_before tagged following) u
      (number-set_other 4 4 (set_word sized at (size_word u live)) (at + 16 * u + 4) u following (inl (omega arith)) ∙ number-set_other 4 4 sized at (size_word u live) following (inr (omega arith)))
      (λ h. number-set_same 4 (set_word sized at (size_word u live)) (at + 16 * u + 4) u (omega (arith, length-set_number 4 sized at (size_word u live))) (omega (arith, was.small)))
      (Agrees-set_size sized at u live (following + 8) hi (inr (omega arith)) (inr (omega arith)))
      (refl, rest_large, refl)
      (IsHeader-set_size tagged following r (units_before tagged following) live rest_large (omega arith) (omega (arith, was.small)) refl (λ free. number-set_same 4 old (following + 8) 0 (omega arith) (omega arith)), tt)

  pub split-headers : AreHeaders cut (units_after 0 xs) (tile at u live ∷ tile following r live ∷ [])
  split-headers = (front_header, rest_header)

  pub split-next : hi + 8 ≤ length old → word cut (hi + 4) ≡ r
  split-next h =
      let longer = length-set_number 4 old (following + 8) 0 in
      number-set_other 4 4 (set_word sized at (size_word u live)) (at + 16 * u + 4) u (hi + 4) (inr (omega arith))
      ∙ number-set_other 4 4 sized at (size_word u live) (hi + 4) (inr (omega arith))
      ∙ number-set_same 4 (set_word tagged following (size_word r live)) (hi + 4) r (omega (arith, length-set_number 4 tagged following (size_word r live))) (omega (arith, was.small))

  pub split-replaces : Replaces old cut xs (tile at u live ∷ tile following r live ∷ []) ys at (16 * u)
  split-replaces =
      replaces old cut xs (tile at n live ∷ []) (tile at u live ∷ tile following r live ∷ []) ys at hi (16 * u) was parts.0 (refl, front_large, (refl, rest_large, refl)) parts.2
      split-kept split-headers split-next keeps
