-- An allocated tile is merged with the free tiles next to it, from what the steps ensure.
use Rattle.std.proofs.Common.{◌≡◌, ℕ, ◌+◌, ◌*◌, true, false, List, [], ◌∷◌, ◌++◌, length, refl, subst, arith}
use Rattle.seg_spec.specs.Heap.{Span, Tile, free_of, heap_start, IsFreeTree}
use Rattle.seg_spec.proofs.Heap.TileLaws.{free_of-append}
use Rattle.seg_block.specs.FreeBlocks.{AreFreeBlocks}
use Rattle.seg_block.specs.Tiling.{tile, IsTiling, Retiles}
use Rattle.seg_block.proofs.TileReplacementLaws.{around}
use Rattle.seg_bestfit.specs.FreeTree.{LeavesTree, MakesGap, IsGapAt, MakesGapWith}
use Rattle.seg_bestfit.proofs.GapAllocationLaws.{blocks_around, tree_around, left_kept, left_tiled}
use Rattle.seg_bestfit.proofs.TreeFrame.{retiles_after}

-- the tile has no free neighbours
pub lone-retiles : (old new : List ℕ) (xs ys : List Tile) (at u : ℕ) → IsTiling 1 old (xs ++ tile at u true ∷ ys) → MakesGap old new at u → Retiles 1 old new xs (tile at u false ∷ []) ys
lone-retiles old new xs ys at u was makes =
    let places = around xs ys heap_start (length old) at u true was.tiled.filled in
    makes xs [] ys (tile at u true) was.tiled (subst (λ gs. IsFreeTree old gs) (free_of-append xs (tile at u true ∷ ys)) was.free) (refl, places.1, refl)

-- the tile is merged with the gap after it, if there is one
pub after-retiles : (old new : List ℕ) (xs gap ys : List Tile) (at u room : ℕ) → IsGapAt (at + 16 * u) room gap → IsTiling 1 old (xs ++ (tile at u true ∷ (gap ++ ys))) → MakesGapWith old new at u room
    → Retiles 1 old new xs (tile at (u + room) false ∷ []) ys
after-retiles old new xs gap ys at u room is was makes =
    let places = around xs (gap ++ ys) heap_start (length old) at u true was.tiled.filled in
    makes xs [] gap ys (tile at u true) is was.tiled (subst (λ gs. IsFreeTree old gs) (free_of-append xs (tile at u true ∷ (gap ++ ys))) was.free) (refl, places.1, refl)

-- The tile is merged with the gap before it, which is first removed from the tree, and with the gap
-- after it, if there is one.
pub both-retiles : (old mid new : List ℕ) (xs gap ys : List Tile) (at v u room : ℕ) → IsGapAt (at + 16 * v + 16 * u) room gap → IsTiling 1 old (xs ++ (tile at v false ∷ tile (at + 16 * v) u true ∷ (gap ++ ys)))
    → ((gs hs : List Span) → AreFreeBlocks old 704 (gs ++ record { at = at; units = v } ∷ hs) → IsFreeTree old (gs ++ record { at = at; units = v } ∷ hs) → LeavesTree old mid gs (record { at = at; units = v }) hs)
    → MakesGapWith mid new at (v + u) room → Retiles 1 old new xs (tile at (v + u + room) false ∷ []) ys
both-retiles old mid new xs gap ys at v u room is was leaves makes =
    let block = tile (at + 16 * v) u true in
    let rest = block ∷ (gap ++ ys) in
    let places = around xs rest heap_start (length old) at v false was.tiled.filled in
    let out = leaves (free_of xs) (free_of rest) (blocks_around old xs rest at v was.tiled) (tree_around old xs rest at v was) in
    let end : at + 16 * v + 16 * u ≡ at + 16 * (v + u) = omega arith in
    retiles_after old mid new xs (tile at v false ∷ block ∷ gap) (tile at (v + u + room) false ∷ []) ys was.tiled (left_kept old xs rest at v was mid out)
    (makes xs (block ∷ []) gap ys (tile at v false) (subst (λ p. IsGapAt p room gap) end is) (left_tiled old xs rest at v was mid out) out.tree (refl, places.1, (refl, places.2.1, end)))
