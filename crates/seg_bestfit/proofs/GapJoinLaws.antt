-- Tiles outside the tree become one gap with the free tile after them. If that is the last in the
-- order, the whole gap takes its place in the tree.
use Rattle.std.proofs.Common.{◌≡◌, ◌≢◌, ℕ, ◌+◌, ◌*◌, ◌≤◌, ◌⊎◌, inl, inr, false, List, [], ◌∷◌, ◌++◌, length, refl, sym, subst, arith}
use Rattle.std.proofs.lemmas.List.{append_assoc}
use Rattle.seg_spec.specs.Bytes.{IsSame}
use Rattle.seg_spec.specs.Heap.{Span, Tile, Fill, free_of, by_size, heap_start, IsFreeTree}
use Rattle.seg_spec.proofs.Heap.HeapFrameLaws.{each_by_size}
use Rattle.seg_spec.proofs.SliceLaws.{IsSame-agrees}
use Rattle.seg_spec.proofs.Heap.TileLaws.{Fill-le, Fill-append}
use Rattle.seg_block.specs.FreeBlocks.{AreFreeBlocks}
use Rattle.seg_block.specs.Tiling.{tile, IsTiled, Retiles}
use Rattle.seg_block.proofs.FreeKept.{KeepsGaps, KeepsGaps-append, free_kept}
use Rattle.seg_block.proofs.TileReplacementLaws.{beside}
use Rattle.seg_rbtree.specs.declared.path.Path.{Path}
use Rattle.seg_rbtree.specs.Paths.{IsLastAt, TakesOutAt, RenamesAt}
use Rattle.seg_bestfit.specs.FreeTree.{KeepsPlace, LeadsToGap, KeepsBesideNodes, JoinsTree, MakesGap, MakesGapWith, set_free}
use Rattle.seg_bestfit.proofs.FreeGaps.{others_elsewhere}
use Rattle.seg_bestfit.proofs.TreeChangeLaws.{room_of}
use Rattle.seg_bestfit.proofs.TileReleaseLaws.{freed-places, freed-inside, freed-kept_by, freed-kept, freed_blocks, freed_link, freed_length, released-retiles}
use Rattle.seg_bestfit.proofs.GapReplacementLaws.{last_here, left_here, replaced}
use Rattle.seg_bestfit.proofs.SizeOrder.{last_keeps}
use Rattle.seg_bestfit.proofs.GapAllocationLaws.{blocks_beside}
use Rattle.seg_bestfit.proofs.TreeFrame.{tiled_kept, kept_among, retiles_after}

module _ (old : List ℕ) (xs ms ys : List Tile) (t : Tile) (at u r : ℕ) (was : IsTiled old (xs ++ ((t ∷ ms) ++ (tile (at + 16 * u) r false ∷ ys))))
    (holds : IsFreeTree old (free_of xs ++ record { at = at + 16 * u; units = r } ∷ free_of ys)) (filled : Fill at (t ∷ ms) (at + 16 * u)) where
  abbrev end : ℕ
  end = at + 16 * u

  abbrev n : ℕ
  n = u + r

  abbrev hi : ℕ
  hi = at + 16 * n

  abbrev next : Tile
  next = tile end r false

  -- the tiles after the first that are merged with it
  abbrev all : List Tile
  all = ms ++ next ∷ []

  abbrev one : List Tile
  one = tile at n false ∷ []

  abbrev freed : List ℕ
  freed = set_free old at n

  large : 2 ≤ r
  large = (beside xs ms (next ∷ ys) t heap_start (length old) at end was.filled filled).1.1

  covered : IsTiled old (xs ++ ((t ∷ all) ++ ys))
  covered = subst (λ l. IsTiled old (xs ++ t ∷ l)) (sym (append_assoc ms (next ∷ []) ys)) was

  fill : Fill at (t ∷ all) hi
  fill = Fill-append (t ∷ ms) (next ∷ []) at end hi filled (refl, large, omega arith)

  front : Fill heap_start xs at
  front = (freed-places old xs all ys t at n covered fill).0

  inside : hi ≤ length old
  inside = freed-inside old xs all ys t at n covered fill

  -- ---- the gaps

  abbrev gap : Span
  gap = record { at = end; units = r }

  abbrev whole : Span
  whole = record { at = at; units = n }

  was_free : AreFreeBlocks old 704 (free_of xs ++ gap ∷ free_of ys)
  was_free = blocks_beside old xs (t ∷ ms) (next ∷ ys) was

  -- the gap is removed from the tree, and then the merged gap is added
  pub moved-retiles : (mid new : List ℕ) (path : Path) → LeadsToGap old path (end + 16) → TakesOutAt old mid path → MakesGap mid new at n → Retiles 1 old new xs one ys
  moved-retiles mid new path way takes makes =
      let out = left_here old (free_of xs) gap (free_of ys) path was.small was_free holds way mid takes in
      let k : KeepsBesideNodes old mid (free_of (xs ++ ((t ∷ all) ++ ys))) =
      subst (λ l. KeepsBesideNodes old mid (free_of (xs ++ t ∷ l))) (sym (append_assoc ms (next ∷ []) ys)) (kept_among old mid xs (t ∷ ms) (next ∷ ys) out.kept) in
      retiles_after old mid new xs (t ∷ all) one ys covered k (makes xs all ys t (tiled_kept old mid (xs ++ ((t ∷ all) ++ ys)) covered k) out.tree fill)

  -- ---- the merged gap takes the gap's place

  kept : (p m : ℕ) → (p + m ≤ at) ⊎ (hi ≤ p) → (p + m ≤ hi + 4) ⊎ (hi + 8 ≤ p) → p + m ≤ length old → IsSame old freed p m
  kept p m out beyond fits = IsSame-agrees old freed p (p + m) p m (freed-kept old xs all ys t at n covered fill p (p + m) out beyond) (omega arith) (omega arith) fits

  others_kept : KeepsGaps old freed (free_of xs ++ free_of ys)
  others_kept =
      let room = inside in
      KeepsGaps-append old freed (free_of xs) (free_of ys)
      (free_kept old freed xs heap_start at (λ p m a b. kept p m (inl b) (inl (omega arith)) (omega arith)) front)
      (free_kept old freed ys hi (length old) (λ p m a b. kept p m (inr (omega arith)) (inr (omega arith)) b) (freed-places old xs all ys t at n covered fill).1)

  node_kept : IsSame old freed (end + 16) 16
  node_kept =
      let room = inside in
      let two = large in
      let low = Fill-le (t ∷ ms) at end filled in
      IsSame-agrees old freed (end + 16) (end + 32) (end + 16) 16 (freed-kept_by old xs all ys t at n covered fill (end + 16) (end + 32) (inr (omega arith)) (inl (omega arith))) (omega arith) (omega arith) (omega arith)

  root_kept : IsSame old freed 24 4
  root_kept =
      let low = Fill-le xs heap_start at front in
      let room = inside in
      kept 24 4 (inl (omega arith)) (inl (omega arith)) (omega arith)

  module _ (new : List ℕ) (path : Path) (way : LeadsToGap old path (end + 16)) (last : IsLastAt old path) (renames : RenamesAt freed new path (at + 16)) where
    keeps : KeepsPlace (by_size (free_of xs ++ free_of ys)) gap whole
    keeps =
        let some = filled.1 in
        let le = Fill-le ms (at + 16 * t.units) end filled.2 in
        let l = last_here old (free_of xs) gap (free_of ys) path was.small was_free holds way last in
        last_keeps gap whole (omega arith) (by_size (free_of xs ++ free_of ys))
        (each_by_size (λ h. h.at ≢ end) (free_of xs ++ free_of ys) (others_elsewhere old (free_of xs) gap (free_of ys) (room_of old (free_of xs) gap (free_of ys) was_free) was.small was_free)) l.front l.nodes_are

    joined : JoinsTree freed new (free_of xs) whole (free_of ys)
    joined =
        replaced old freed new (free_of xs) gap whole (free_of ys) path was.small was_free holds way (freed_length old xs all ys t at n covered fill) root_kept others_kept node_kept
        (freed_blocks old xs all ys t at n covered fill) (freed_link old xs all ys t at n covered fill) keeps renames

    pub down-retiles : Retiles 1 old new xs one ys
    down-retiles = released-retiles old xs all ys t at n covered fill new joined

-- ---- the case without a gap

pub makes_alone : (old new : List ℕ) (at u more : ℕ) → more ≡ 0 → MakesGap old new at u → MakesGapWith old new at u more
makes_alone old new at u more zero makes xs ms ls ys t is was holds fill =
    let none = is.0 zero in
    let same : u ≡ u + more = omega arith in
    subst (λ n. Retiles 1 old new xs (tile at n false ∷ []) ys) same
    (makes xs ms ys t (subst (λ l. IsTiled old (xs ++ ((t ∷ ms) ++ (l ++ ys)))) none was) (subst (λ l. IsFreeTree old (free_of xs ++ free_of (l ++ ys))) none holds) fill)

pub makes_with : (old new : List ℕ) (at u more : ℕ) → more ≢ 0
    → ((xs ms ys : List Tile) (t : Tile) → IsTiled old (xs ++ ((t ∷ ms) ++ (tile (at + 16 * u) more false ∷ ys))) → IsFreeTree old (free_of xs ++ record { at = at + 16 * u; units = more } ∷ free_of ys) → Fill at (t ∷ ms) (at + 16 * u)
    → Retiles 1 old new xs (tile at (u + more) false ∷ []) ys)
    → MakesGapWith old new at u more
makes_with old new at u more some makes xs ms ls ys t is was holds fill =
    let there = is.1 some in
    makes xs ms ys t (subst (λ l. IsTiled old (xs ++ ((t ∷ ms) ++ (l ++ ys)))) there was) (subst (λ l. IsFreeTree old (free_of xs ++ free_of (l ++ ys))) there holds) fill
