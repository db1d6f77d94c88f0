-- The front of a free tile is allocated, and the rest takes its place in the tree.
use Rattle.std.proofs.Common.{◌≡◌, ◌≢◌, ℕ, ◌+◌, ◌-◌, ◌*◌, ◌≤◌, ◌⊎◌, inl, inr, ⊎_elim, true, false, List, [], ◌∷◌, ◌++◌, length, Some, None, refl, sym, ap, ◌∙◌, subst, arith}
use Rattle.seg_spec.specs.Bytes.{word, set_word, Agrees, IsSame}
use Rattle.seg_spec.specs.Pointer.{distance, set_pointer}
use Rattle.seg_spec.specs.Heap.{Span, Tile, IsHeader, units_before, link_at, Fill, AreHeaders, free_of, by_size, AreBySize, first_fit, best_fit, heap_start, IsFreeTree}
use Rattle.seg_spec.proofs.BytesLaws.{number-set_same, number-set_other, length-set_number, Agrees-set_number, Agrees-trans}
use Rattle.seg_spec.proofs.Heap.GapOrderLaws.{by_size-middle, best_fit-first}
use Rattle.seg_spec.proofs.Heap.HeapFrameLaws.{each_by_size}
use Rattle.seg_spec.proofs.Heap.HeaderLaws.{AreHeaders-after}
use Rattle.seg_spec.proofs.PointerLaws.{target-set_same, target-same}
use Rattle.seg_spec.proofs.SliceLaws.{IsSame-agrees}
use Rattle.seg_spec.proofs.Heap.TileLaws.{Fill-le, AreHeaders-back, units_after, free_of-append}
use Rattle.seg_block.specs.FreeBlocks.{AreFreeBlocks}
use Rattle.seg_block.specs.Sizes.{size_word, set_size}
use Rattle.seg_block.specs.Tiling.{tile, IsTiling, Retiles, Replaces}
use Rattle.seg_block.proofs.FreeKept.{KeepsGaps, KeepsGaps-append, free_kept}
use Rattle.seg_block.proofs.FreeTiles.{free_blocks}
use Rattle.seg_block.proofs.Heaps.{target-agrees}
use Rattle.seg_block.proofs.SizeLaws.{IsHeader-set_size, Agrees-set_size, length-set_size}
use Rattle.seg_block.proofs.TileReplacementLaws.{around, replaces}
use Rattle.seg_rbtree.specs.declared.path.Path.{Path}
use Rattle.seg_rbtree.specs.Paths.{RenamesAt}
use Rattle.seg_bestfit.specs.FreeTree.{KeepsPlace, LeadsToGap, KeepsBesideNodes, JoinsTree}
use Rattle.seg_bestfit.proofs.FreeGaps.{each_pick, free_rising, sorted_by_size, others_elsewhere}
use Rattle.seg_bestfit.proofs.TreeChangeLaws.{room_of}
use Rattle.seg_bestfit.proofs.GapReplacementLaws.{replaced}
use Rattle.seg_bestfit.proofs.SizeOrder.{rest_keeps}
use Rattle.seg_bestfit.proofs.GapAllocationLaws.{blocks_around, tree_around}
use Rattle.seg_bestfit.proofs.TreeFrame.{link_kept, retiles_before}

module _ (old : List ℕ) (xs ys : List Tile) (at n u r : ℕ) (was : IsTiling 1 old (xs ++ tile at n false ∷ ys)) (whole : n ≡ u + r) (front_large : 2 ≤ u) (rest_large : 2 ≤ r) where
  abbrev rest : ℕ
  rest = at + 16 * u

  abbrev hi : ℕ
  hi = rest + 16 * r

  abbrev tagged : List ℕ
  tagged = set_word old (rest + 8) 0

  abbrev linked : List ℕ
  linked = set_pointer tagged (rest + 12) None

  abbrev sized : List ℕ
  sized = set_size linked rest r false

  abbrev pub cut : List ℕ
  cut = set_size sized at u true

  abbrev halves : List Tile
  halves = tile at u true ∷ tile rest r false ∷ []

  abbrev now : List Tile
  now = xs ++ (halves ++ ys)

  parts : Fill heap_start xs at × Fill hi ys (length old)
  parts =
      let a = around xs ys heap_start (length old) at n false was.tiled.filled in
      let e : at + 16 * n ≡ hi = omega arith in
      (a.0, subst (λ p. Fill p ys (length old)) e a.2)

  middle : Fill at halves hi
  middle = (refl, front_large, (refl, rest_large, refl))

  inside : hi ≤ length old
  inside = Fill-le ys hi (length old) parts.1

  length-linked : length linked ≡ length old
  length-linked = length-set_number 4 tagged (rest + 12) (distance (rest + 12) None) ∙ length-set_number 4 old (rest + 8) 0

  length-sized : length sized ≡ length old
  length-sized = length-set_size linked rest r false ∙ length-linked

  kept_by : (from to : ℕ) → (to ≤ rest + 8) ⊎ (rest + 12 ≤ from) → (to ≤ rest + 12) ⊎ (rest + 16 ≤ from) → (to ≤ rest) ⊎ (rest + 4 ≤ from) → (to ≤ hi + 4) ⊎ (hi + 8 ≤ from) → (to ≤ at) ⊎ (at + 4 ≤ from) → (to ≤ rest + 4) ⊎ (rest + 8 ≤ from)
      → Agrees old cut from to
  kept_by from to a b c d e f =
      Agrees-trans old tagged cut from to (Agrees-set_number 4 old (rest + 8) 0 from to (⊎_elim (λ l. inl l) (λ l. inr (omega arith)) a))
      (Agrees-trans tagged linked cut from to (Agrees-set_number 4 tagged (rest + 12) (distance (rest + 12) None) from to (⊎_elim (λ l. inl l) (λ l. inr (omega arith)) b))
      (Agrees-trans linked sized cut from to (Agrees-set_size linked rest r false from to c (⊎_elim (λ l. inl l) (λ l. inr (omega arith)) d))
      (Agrees-set_size sized at u true from to e (⊎_elim (λ l. inl l) (λ l. inr (omega arith)) f))))

  kept : (from to : ℕ) → (to ≤ at) ⊎ (hi ≤ from) → (to ≤ hi + 4) ⊎ (hi + 8 ≤ from) → Agrees old cut from to
  kept from to out next =
      kept_by from to (⊎_elim (λ l. inl (omega arith)) (λ l. inr (omega arith)) out) (⊎_elim (λ l. inl (omega arith)) (λ l. inr (omega arith)) out) (⊎_elim (λ l. inl (omega arith)) (λ l. inr (omega arith)) out)
      next (⊎_elim (λ l. inl l) (λ l. inr (omega arith)) out) (⊎_elim (λ l. inl (omega arith)) (λ l. inr (omega arith)) out)

  -- the bytes of the front after its size are kept
  front_kept : (from to : ℕ) → at + 4 ≤ from → to ≤ rest → Agrees old cut from to
  front_kept from to low high = kept_by from to (inl (omega arith)) (inl (omega arith)) (inl high) (inl (omega arith)) (inr low) (inl (omega arith))

  -- ---- the headers

  front_header : IsHeader cut (units_after 0 xs) (tile at u true)
  front_header =
      let h = (AreHeaders-back old xs (tile at n false ∷ ys) 0 was.tiled.headers).0 in
      let room = inside in
      let long = length-sized in
      let before_is : units_before sized at ≡ units_after 0 xs =
      number-set_other 4 4 (set_word linked rest (size_word r false)) (hi + 4) r (at + 4) (inl (omega arith))
      ∙ number-set_other 4 4 linked rest (size_word r false) (at + 4) (inl (omega arith))
      ∙ number-set_other 4 4 tagged (rest + 12) (distance (rest + 12) None) (at + 4) (inl (omega arith))
      ∙ number-set_other 4 4 old (rest + 8) 0 (at + 4) (inl (omega arith)) ∙ h.before_is in
      IsHeader-set_size sized at u (units_after 0 xs) true front_large (omega arith) (omega (arith, was.tiled.small)) before_is (λ e. absurd (no e))
    where
      no : true ≡ false → ⊥
      no e = cc

  rest_header : AreHeaders cut u (tile rest r false ∷ [])
  rest_header =
      let room = inside in
      let long = length-sized in
      let longer = length-linked in
      AreHeaders-after sized cut (tile rest r false ∷ []) rest hi (units_before linked rest) u
      (number-set_other 4 4 (set_word sized at (size_word u true)) (rest + 4) u rest (inl (omega arith)) ∙ number-set_other 4 4 sized at (size_word u true) rest (inr (omega arith)))
      (λ h. number-set_same 4 (set_word sized at (size_word u true)) (rest + 4) u (omega (arith, length-set_number 4 sized at (size_word u true))) (omega (arith, was.tiled.small)))
      (Agrees-set_size sized at u true (rest + 8) hi (inr (omega arith)) (inr (omega arith)))
      (refl, rest_large, refl) (
        IsHeader-set_size linked rest r (units_before linked rest) false rest_large (omega arith) (omega (arith, was.tiled.small)) refl (λ e.
            number-set_other 4 4 tagged (rest + 12) (distance (rest + 12) None) (rest + 8) (inl (omega arith)) ∙ number-set_same 4 old (rest + 8) 0 (omega arith) (omega arith)),
        tt,
      )

  next_size : hi + 8 ≤ length old → word cut (hi + 4) ≡ r
  next_size h =
      let longer = length-linked in
      number-set_other 4 4 (set_word sized at (size_word u true)) (rest + 4) u (hi + 4) (inr (omega arith))
      ∙ number-set_other 4 4 sized at (size_word u true) (hi + 4) (inr (omega arith))
      ∙ number-set_same 4 (set_word linked rest (size_word r false)) (hi + 4) r (omega (arith, length-set_number 4 linked rest (size_word r false))) (omega (arith, was.tiled.small))

  cut_replaces : Replaces old cut xs halves ys at 0
  cut_replaces = replaces old cut xs (tile at n false ∷ []) halves ys at hi 0 was.tiled parts.0 middle parts.1 kept (front_header, rest_header) next_size (kept (at + 8) (at + 0) (inl (omega arith)) (inl (omega arith)))

  -- ---- the gaps

  abbrev gap : Span
  gap = record { at = at; units = n }

  abbrev left_over : Span
  left_over = record { at = rest; units = r }

  gaps_now : free_of now ≡ free_of xs ++ left_over ∷ free_of ys
  gaps_now = free_of-append xs (halves ++ ys)

  cut_blocks : AreFreeBlocks cut 704 (free_of xs ++ left_over ∷ free_of ys)
  cut_blocks = subst (λ gs. AreFreeBlocks cut 704 gs) gaps_now (free_blocks cut now cut_replaces.tiled)

  others_kept : KeepsGaps old cut (free_of xs ++ free_of ys)
  others_kept =
      let low = Fill-le xs heap_start at parts.0 in
      KeepsGaps-append old cut (free_of xs) (free_of ys)
      (free_kept old cut xs heap_start at (λ p m a b. IsSame-agrees old cut p (p + m) p m (kept p (p + m) (inl b) (inl (omega arith))) (omega arith) (omega arith) (omega (arith, inside))) parts.0)
      (free_kept old cut ys hi (length old) (λ p m a b. IsSame-agrees old cut p (p + m) p m (kept p (p + m) (inr (omega arith)) (inr (omega arith))) (omega arith) (omega arith) b) parts.1)

  node_kept : IsSame old cut (at + 16) 16
  node_kept = let room = inside in IsSame-agrees old cut (at + 16) (at + 32) (at + 16) 16 (front_kept (at + 16) (at + 32) (omega arith) (omega arith)) (omega arith) (omega arith) (omega arith)

  root_kept : IsSame old cut 24 4
  root_kept =
      let low = Fill-le xs heap_start at parts.0 in
      let room = inside in
      IsSame-agrees old cut 24 28 24 4 (kept 24 28 (inl (omega arith)) (inl (omega arith))) (omega arith) (omega arith) (omega arith)

  unlinked : link_at cut rest ≡ None
  unlinked =
      let room = inside in
      target-same linked cut (rest + 12)
      (number-set_other 4 4 (set_word sized at (size_word u true)) (rest + 4) u (rest + 12) (inr (omega arith))
      ∙ number-set_other 4 4 sized at (size_word u true) (rest + 12) (inr (omega arith))
      ∙ number-set_other 4 4 (set_word linked rest (size_word r false)) (hi + 4) r (rest + 12) (inl (omega arith))
      ∙ number-set_other 4 4 linked rest (size_word r false) (rest + 12) (inr (omega arith)))
      ∙ target-set_same tagged (rest + 12) None (omega (arith, length-set_number 4 old (rest + 8) 0)) (omega (arith, was.tiled.small)) (λ t e. absurd (no t e))
    where
      no : (t : ℕ) → None ≡ Some t → ⊥
      no t e = cc

  front_link : link_at cut at ≡ None
  front_link =
      target-agrees old cut (at + 4) rest (at + 12) (front_kept (at + 4) rest (omega arith) (omega arith)) (omega arith) (omega arith)
      ∙ each_pick (λ g. link_at old g.at ≡ None) (free_of xs) gap (free_of ys) (tree_around old xs ys at n was).links

  -- ---- the tree

  module _ (new : List ℕ) (path : Path) (way : LeadsToGap old path (at + 16)) (keeps : KeepsPlace (by_size (free_of xs ++ free_of ys)) (record { at = at; units = n }) left_over) (renames : RenamesAt cut new path (rest + 16)) where
    joined : JoinsTree cut new (free_of xs) left_over (free_of ys)
    joined =
        replaced old cut new (free_of xs) (record { at = at; units = n }) left_over (free_of ys) path was.tiled.small (blocks_around old xs ys at n was.tiled) (tree_around old xs ys at n was) way
        cut_replaces.spared.front_kept.length_kept root_kept others_kept node_kept cut_blocks unlinked keeps renames

    now_kept : KeepsBesideNodes cut new (free_of now)
    now_kept = subst (λ gs. KeepsBesideNodes cut new gs) (sym gaps_now) joined.kept

    pub front-retiles : Retiles 1 old new xs halves ys
    front-retiles = retiles_before old cut new xs halves ys at 0 cut_replaces now_kept (subst (λ gs. IsFreeTree new gs) (sym gaps_now) joined.tree)

    pub link_at-front : link_at new at ≡ None
    link_at-front = link_kept cut new xs (tile rest r false ∷ ys) (tile at u true) at (length cut) parts.0 (refl, front_large, fill_rest) now_kept ∙ front_link
      where
        fill_rest : Fill (at + 16 * u) (tile rest r false ∷ ys) (length cut)
        fill_rest = (refl, rest_large, subst (λ m. Fill hi ys m) (sym cut_replaces.spared.front_kept.length_kept) parts.1)

-- ---- the rest of the smallest gap

-- if the rest is large enough for the request, it keeps the gap's place
pub rest_in_place : (old : List ℕ) (xs ys : List Tile) (at n need : ℕ) → IsTiling 1 old (xs ++ tile at n false ∷ ys) → need + need ≤ n → 1 ≤ need
    → best_fit (free_of xs ++ record { at = at; units = n } ∷ free_of ys) need ≡ Some (record { at = at; units = n })
    → KeepsPlace (by_size (free_of xs ++ free_of ys)) (record { at = at; units = n }) (record { at = at + 16 * need; units = n - need })
rest_in_place old xs ys at n need was enough some best =
    let g : Span = record { at = at; units = n } in
    let gs = free_of xs ++ g ∷ free_of ys in
    let free = blocks_around old xs ys at n was.tiled in
    let rising = free_rising old 704 gs free in
    let place = by_size-middle (free_of xs) g (free_of ys) in
    rest_keeps g (record { at = at + 16 * need; units = n - need }) need (omega arith) (omega arith) (by_size (free_of xs ++ free_of ys))
    (each_by_size (λ h. h.at ≢ at) (free_of xs ++ free_of ys) (others_elsewhere old (free_of xs) g (free_of ys) (room_of old (free_of xs) g (free_of ys) free) was.tiled.small free))
    (subst (λ hs. AreBySize hs) place (sorted_by_size gs rising)) (ap (λ hs. first_fit hs need) (sym place) ∙ sym (best_fit-first gs need rising) ∙ best)
