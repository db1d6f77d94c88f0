-- Tiles outside the tree become one free tile, which is added to the tree.
use Rattle.std.proofs.Common.{◌≡◌, ℕ, ◌+◌, ◌*◌, ◌≤◌, false, List, [], ◌∷◌, ◌++◌, length, Some, None, refl, sym, ap, ◌∙◌, subst, arith, inl, inr, ◌⊎◌, ⊎_elim}
use Rattle.seg_spec.specs.Bytes.{word, set_word, Agrees}
use Rattle.seg_spec.specs.Pointer.{distance, set_pointer}
use Rattle.seg_spec.specs.Heap.{Tile, units_before, tag_at, link_at, Fill, AreHeaders, free_of, heap_start, IsFreeTree}
use Rattle.seg_spec.proofs.BytesLaws.{number-set_same, number-set_other, length-set_number, Agrees-set_number, Agrees-trans}
use Rattle.seg_spec.proofs.PointerLaws.{target-same, target-set_same}
use Rattle.seg_spec.proofs.Heap.TileLaws.{Fill-le, AreHeaders-back, units_after}
use Rattle.seg_block.specs.FreeBlocks.{AreFreeBlocks}
use Rattle.seg_block.specs.Sizes.{size_word}
use Rattle.seg_block.specs.Tiling.{tile, IsTiled, Retiles, Replaces}
use Rattle.seg_block.proofs.SizeLaws.{IsHeader-set_size, Agrees-set_size}
use Rattle.seg_block.proofs.TileReplacementLaws.{beside, replaces}
use Rattle.seg_block.proofs.FreeKept.{beside_kept}
use Rattle.seg_bestfit.specs.FreeTree.{KeepsBesideNodes, JoinsTree, set_free}
use Rattle.seg_bestfit.proofs.GapAllocationLaws.{gaps_around, blocks_around}
use Rattle.seg_bestfit.proofs.TreeFrame.{retiles_before}

module _ (old : List ℕ) (xs ms ys : List Tile) (t : Tile) (at u : ℕ) (was : IsTiled old (xs ++ ((t ∷ ms) ++ ys))) (fill : Fill at (t ∷ ms) (at + 16 * u)) where
  abbrev hi : ℕ
  hi = at + 16 * u

  abbrev tagged : List ℕ
  tagged = set_word old (at + 8) 0

  abbrev linked : List ℕ
  linked = set_pointer tagged (at + 12) None

  abbrev freed : List ℕ
  freed = set_free old at u

  pub freed-places : (Fill heap_start xs at) × Fill hi ys (length old)
  freed-places = beside xs ms ys t heap_start (length old) at hi was.filled fill

  large : 2 ≤ u
  large = let le = Fill-le ms (at + 16 * t.units) hi fill.2 in omega (arith, fill.1)

  pub freed-inside : hi ≤ length old
  freed-inside = Fill-le ys hi (length old) freed-places.1

  length-linked : length linked ≡ length old
  length-linked = length-set_number 4 tagged (at + 12) (distance (at + 12) None) ∙ length-set_number 4 old (at + 8) 0

  -- all bytes outside the new header are kept, also bytes of the tiles
  pub freed-kept_by : (from to : ℕ) → (to ≤ at) ⊎ (at + 16 ≤ from) → (to ≤ hi + 4) ⊎ (hi + 8 ≤ from) → Agrees old freed from to
  freed-kept_by from to out next =
      Agrees-trans old tagged freed from to (Agrees-set_number 4 old (at + 8) 0 from to (⊎_elim (λ l. inl (omega arith)) (λ l. inr (omega arith)) out))
      (Agrees-trans tagged linked freed from to (Agrees-set_number 4 tagged (at + 12) (distance (at + 12) None) from to (⊎_elim (λ l. inl (omega arith)) (λ l. inr (omega arith)) out))
      (Agrees-set_size linked at u false from to (⊎_elim (λ l. inl l) (λ l. inr (omega arith)) out) (⊎_elim (λ l. inl l) (λ l. inr (omega arith)) next)))

  pub freed-kept : (from to : ℕ) → (to ≤ at) ⊎ (hi ≤ from) → (to ≤ hi + 4) ⊎ (hi + 8 ≤ from) → Agrees old freed from to
  freed-kept from to out next = let two = large in freed-kept_by from to (⊎_elim (λ l. inl l) (λ l. inr (omega arith)) out) next

  header : AreHeaders freed (units_after 0 xs) (tile at u false ∷ [])
  header =
      let h = (AreHeaders-back old xs ((t ∷ ms) ++ ys) 0 was.headers).0 in
      let two = large in
      let room = freed-inside in
      let long = length-linked in
      let before_is : units_before linked at ≡ units_after 0 xs =
      number-set_other 4 4 tagged (at + 12) (distance (at + 12) None) (at + 4) (inl (omega arith)) ∙ number-set_other 4 4 old (at + 8) 0 (at + 4) (inl (omega arith))
      ∙ ap (units_before old) (sym fill.0) ∙ h.before_is in
      let tag_is : tag_at linked at ≡ 0 =
      number-set_other 4 4 tagged (at + 12) (distance (at + 12) None) (at + 8) (inl (omega arith)) ∙ number-set_same 4 old (at + 8) 0 (omega arith) (omega arith) in
      (IsHeader-set_size linked at u (units_after 0 xs) false two (omega arith) (omega (arith, was.small)) before_is (λ e. tag_is), tt)

  next_size : hi + 8 ≤ length old → word freed (hi + 4) ≡ u
  next_size h =
      let long = length-linked in
      number-set_same 4 (set_word linked at (size_word u false)) (hi + 4) u (omega (arith, length-set_number 4 linked at (size_word u false))) (omega (arith, was.small))

  freed-replaces : Replaces old freed xs (tile at u false ∷ []) ys at 0
  freed-replaces =
      replaces old freed xs (t ∷ ms) (tile at u false ∷ []) ys at hi 0 was freed-places.0 (refl, large, refl) freed-places.1 freed-kept header next_size
      (freed-kept (at + 8) (at + 0) (inl (omega arith)) (inl (omega arith)))

  pub freed_blocks : AreFreeBlocks freed 704 (free_of xs ++ record { at = at; units = u } ∷ free_of ys)
  freed_blocks = blocks_around freed xs ys at u freed-replaces.tiled

  pub freed_tree : IsFreeTree old (free_of xs ++ free_of ys) → IsFreeTree freed (free_of xs ++ free_of ys)
  freed_tree holds = let two = large in beside_kept old freed at hi (omega arith) freed-kept xs ys freed-places.0 freed-places.1 1 holds

  pub freed_link : link_at freed at ≡ None
  freed_link =
      let two = large in
      let room = freed-inside in
      target-same linked freed (at + 12)
      (number-set_other 4 4 (set_word linked at (size_word u false)) (hi + 4) u (at + 12) (inl (omega arith)) ∙ number-set_other 4 4 linked at (size_word u false) (at + 12) (inr (omega arith)))
      ∙ target-set_same tagged (at + 12) None (omega (arith, length-set_number 4 old (at + 8) 0)) (omega (arith, was.small)) (λ t e. absurd (no t e))
    where
      no : (t : ℕ) → None ≡ Some t → ⊥
      no t e = cc

  pub freed_length : length freed ≡ length old
  freed_length = (freed-kept 0 0 (inl (omega arith)) (inl (omega arith))).length_kept

  pub released-retiles : (new : List ℕ) → JoinsTree freed new (free_of xs) (record { at = at; units = u }) (free_of ys) → Retiles 1 old new xs (tile at u false ∷ []) ys
  released-retiles new j =
      retiles_before old freed new xs (tile at u false ∷ []) ys at 0 freed-replaces
      (subst (λ gs. KeepsBesideNodes freed new gs) (sym (gaps_around xs ys at u)) j.kept) (subst (λ gs. IsFreeTree new gs) (sym (gaps_around xs ys at u)) j.tree)
