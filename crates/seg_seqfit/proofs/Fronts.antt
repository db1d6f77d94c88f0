-- The front of a free tile is allocated, and the rest takes its place in the free list.
use Rattle.std.proofs.Common.{◌≡◌, ℕ, ◌+◌, ◌*◌, ◌%◌, ◌≤◌, true, false, List, [], ◌∷◌, ◌++◌, length, Some, None, refl, ◌∙◌, subst, arith, inl, inr}
use Rattle.seg_spec.specs.Bytes.{word, set_word}
use Rattle.seg_spec.specs.Pointer.{target, distance, set_pointer}
use Rattle.seg_spec.specs.Heap.{Tile, IsHeader, units_before, link_at, Fill, AreHeaders, Links, heap_start}
use Rattle.seg_spec.proofs.BytesLaws.{number-set_same, number-set_other, length-set_number}
use Rattle.seg_spec.proofs.Heap.HeaderLaws.{AreHeaders-after, AreHeaders-set_link}
use Rattle.seg_spec.proofs.PointerLaws.{target-set_same, target-same}
use Rattle.seg_spec.proofs.Heap.TileLaws.{Fill-le, AreHeaders-back, units_after}
use Rattle.seg_block.specs.Sizes.{size_word, set_size}
use Rattle.seg_block.specs.Tiling.{tile, IsTiling, Retiles}
use Rattle.seg_block.proofs.SizeLaws.{IsHeader-set_size, Agrees-set_size, length-set_size}
use Rattle.seg_block.proofs.TileReplacementLaws.{around, aligned_end}
use Rattle.seg_seqfit.specs.Retiling.{link_past}
use Rattle.seg_seqfit.proofs.LinkLaws.{link_past-low}
use Rattle.seg_seqfit.proofs.Retile.{IsLocal, retile, spares, link_names, IsLocal-trans, IsLocal-word, IsLocal-link, IsLocal-set_size}
use Rattle.seg_seqfit.proofs.GapAllocationLaws.{named_after}

module _ (old : List ℕ) (xs ys : List Tile) (at n u r : ℕ) (was : IsTiling 0 old (xs ++ tile at n false ∷ ys)) (whole : n ≡ u + r) (front_large : 2 ≤ u) (rest_large : 2 ≤ r) where
  abbrev link : ℕ
  link = link_past 24 xs

  abbrev rest : ℕ
  rest = at + 16 * u

  abbrev hi : ℕ
  hi = rest + 16 * r

  abbrev tagged : List ℕ
  tagged = set_word old (rest + 8) 0

  abbrev sized : List ℕ
  sized = set_size tagged rest r false

  abbrev cut : List ℕ
  cut = set_size sized at u true

  abbrev linked : List ℕ
  linked = set_pointer cut (rest + 12) (target old (at + 12))

  abbrev listed : List ℕ
  listed = set_pointer linked link (Some (rest + 16))

  abbrev taken : List ℕ
  taken = set_pointer listed (at + 12) None

  parts : Fill heap_start xs at × Fill hi ys (length old)
  parts =
      let a = around xs ys heap_start (length old) at n false was.tiled.filled in
      let e : at + 16 * n ≡ hi = omega arith in
      (a.0, subst (λ p. Fill p ys (length old)) e a.2)

  middle : Fill at (tile at u true ∷ tile rest r false ∷ []) hi
  middle = (refl, front_large, (refl, rest_large, refl))

  aligned : at % 16 ≡ 0
  aligned = aligned_end xs heap_start at refl parts.0

  inside : hi ≤ length old
  inside = Fill-le ys hi (length old) parts.1

  below : link + 4 ≤ at
  below = link_past-low xs 24 heap_start at (omega arith) parts.0

  length-tagged : length tagged ≡ length old
  length-tagged = length-set_number 4 old (rest + 8) 0

  length-sized : length sized ≡ length old
  length-sized = length-set_size tagged rest r false ∙ length-tagged

  length-cut : length cut ≡ length old
  length-cut = length-set_size sized at u true ∙ length-sized

  length-linked : length linked ≡ length old
  length-linked = length-set_number 4 cut (rest + 12) (distance (rest + 12) (target old (at + 12))) ∙ length-cut

  length-listed : length listed ≡ length old
  length-listed = length-set_number 4 linked link (distance link (Some (rest + 16))) ∙ length-linked

  local : IsLocal old taken link at hi
  local =
      IsLocal-trans old tagged taken link at hi (IsLocal-word old (rest + 8) 0 link at hi (omega arith) (omega arith))
      (IsLocal-trans tagged sized taken link at hi (IsLocal-set_size tagged rest r false link at hi (omega arith) (omega arith) (inl refl))
      (IsLocal-trans sized cut taken link at hi (IsLocal-set_size sized at u true link at hi (omega arith) (omega arith) (inr (omega arith)))
      (IsLocal-trans cut linked taken link at hi (IsLocal-word cut (rest + 12) (distance (rest + 12) (target old (at + 12))) link at hi (omega arith) (omega arith))
      (IsLocal-trans linked listed taken link at hi (IsLocal-link linked (distance link (Some (rest + 16))) link at hi)
      (IsLocal-word listed (at + 12) (distance (at + 12) None) link at hi (omega arith) (omega arith))))))

  -- ---- the headers

  front_header : IsHeader cut (units_after 0 xs) (tile at u true)
  front_header =
      let h = (AreHeaders-back old xs (tile at n false ∷ ys) 0 was.tiled.headers).0 in
      let room = inside in
      let long = length-sized in
      let before_is : units_before sized at ≡ units_after 0 xs =
      number-set_other 4 4 (set_word tagged rest (size_word r false)) (hi + 4) r (at + 4) (inl (omega arith))
      ∙ number-set_other 4 4 tagged rest (size_word r false) (at + 4) (inl (omega arith))
      ∙ number-set_other 4 4 old (rest + 8) 0 (at + 4) (inl (omega arith)) ∙ h.before_is in
      IsHeader-set_size sized at u (units_after 0 xs) true front_large (omega arith) (omega (arith, was.tiled.small)) before_is (λ e. absurd (no e))
    where
      no : true ≡ false → ⊥
      no e = cc

  rest_header : AreHeaders cut u (tile rest r false ∷ [])
  rest_header =
      let room = inside in
      let long = length-sized in
      let longer = length-tagged in
      AreHeaders-after sized cut (tile rest r false ∷ []) rest hi (units_before tagged rest) u
      (number-set_other 4 4 (set_word sized at (size_word u true)) (rest + 4) u rest (inl (omega arith)) ∙ number-set_other 4 4 sized at (size_word u true) rest (inr (omega arith)))
      (λ h. number-set_same 4 (set_word sized at (size_word u true)) (rest + 4) u (omega (arith, length-set_number 4 sized at (size_word u true))) (omega (arith, was.tiled.small)))
      (Agrees-set_size sized at u true (rest + 8) hi (inr (omega arith)) (inr (omega arith)))
      (refl, rest_large, refl)
      (IsHeader-set_size tagged rest r (units_before tagged rest) false rest_large (omega arith) (omega (arith, was.tiled.small)) refl (λ e. number-set_same 4 old (rest + 8) 0 (omega arith) (omega arith)), tt)

  headers : AreHeaders taken (units_after 0 xs) (tile at u true ∷ tile rest r false ∷ [])
  headers =
      let low = below in
      let even = aligned in
      let before = units_after 0 xs in
      let ts : List Tile = tile at u true ∷ tile rest r false ∷ [] in
      AreHeaders-set_link listed ts at hi before (at + 12) (distance (at + 12) None) even (inr (omega arith)) middle
      (AreHeaders-set_link linked ts at hi before link (distance link (Some (rest + 16))) even (inl low) middle
      (AreHeaders-set_link cut ts at hi before (rest + 12) (distance (rest + 12) (target old (at + 12))) even (inr (omega arith)) middle (front_header, rest_header)))

  next_size : hi + 8 ≤ length old → word taken (hi + 4) ≡ r
  next_size h =
      let low = below in
      let longer = length-tagged in
      number-set_other 4 4 listed (at + 12) (distance (at + 12) None) (hi + 4) (inr (omega arith))
      ∙ number-set_other 4 4 linked link (distance link (Some (rest + 16))) (hi + 4) (inr (omega arith))
      ∙ number-set_other 4 4 cut (rest + 12) (distance (rest + 12) (target old (at + 12))) (hi + 4) (inr (omega arith))
      ∙ number-set_other 4 4 (set_word sized at (size_word u true)) (rest + 4) u (hi + 4) (inr (omega arith))
      ∙ number-set_other 4 4 sized at (size_word u true) (hi + 4) (inr (omega arith))
      ∙ number-set_same 4 (set_word tagged rest (size_word r false)) (hi + 4) r (omega (arith, length-set_number 4 tagged rest (size_word r false))) (omega (arith, was.tiled.small))

  -- ---- the list

  names : Links taken link (record { at = rest; units = r } ∷ []) (target old (at + 12))
  names =
      let low = below in
      let room = inside in
      let even = aligned in
      let long = length-cut in
      let longer = length-linked in (
        target-same listed taken link (number-set_other 4 4 listed (at + 12) (distance (at + 12) None) link (inl (omega arith)))
            ∙ target-set_same linked link (Some (rest + 16)) (omega arith) (omega (arith, was.tiled.small))
            (λ s e. let is : rest + 16 ≡ s = some_same e in (omega (arith, was.tiled.small), link_names xs at s parts.0 (omega arith))),
        target-same linked taken (rest + 12)
            (number-set_other 4 4 listed (at + 12) (distance (at + 12) None) (rest + 12) (inr (omega arith))
            ∙ number-set_other 4 4 linked link (distance link (Some (rest + 16))) (rest + 12) (inr (omega arith)))
            ∙ target-set_same cut (rest + 12) (target old (at + 12)) (omega arith) (omega (arith, was.tiled.small))
            (λ s e. let is = named_after old xs ys at n s was e in (omega (arith, was.tiled.small), λ k. absurd (omega arith))),
      )
    where
      some_same : {s : ℕ} → Some (rest + 16) ≡ Some s → rest + 16 ≡ s
      some_same e = cc

  pub front-retiles : Retiles 0 old taken xs (tile at u true ∷ tile rest r false ∷ []) ys
  front-retiles = record {
    tiling = retile old taken xs (tile at n false ∷ []) (tile at u true ∷ tile rest r false ∷ []) ys at hi was parts.0 middle parts.1 local headers next_size names;
    spared = spares old taken xs (tile at n false ∷ []) (tile at u true ∷ tile rest r false ∷ []) ys at hi was parts.0 middle parts.1 local;
  }

  pub link_at-front : link_at taken at ≡ None
  link_at-front =
      let room = inside in
      target-set_same listed (at + 12) None (omega (arith, length-listed)) (omega (arith, was.tiled.small)) (λ s e. absurd (no s e))
    where
      no : (s : ℕ) → None ≡ Some s → ⊥
      no s e = cc
