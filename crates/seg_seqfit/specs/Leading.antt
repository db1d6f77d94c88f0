-- The pointer word after some tiles, if one more is added to them.
use Rattle.std.proofs.Common.{◌≡◌, ℕ, ◌+◌, true, List, [], ◌∷◌, ◌++◌, cond, refl, sym, ◌∙◌}
use Rattle.seg_spec.specs.Heap.{Tile}
use Rattle.seg_ptr.specs.declared.header.TheConstants.{FREE}
use Rattle.seg_block.specs.declared.header.TheConstants.{LINK}
use Rattle.seg_block.specs.Tiling.{tile}
use Rattle.seg_seqfit.specs.Retiling.{link_past, link_to}

pub link_past-append : (xs ys : List Tile) (p : ℕ) →
    link_past p (xs ++ ys) ≡ link_past (link_past p xs) ys
link_past-append [] ys p = refl
link_past-append (t ∷ xs) ys p = link_past-append xs ys (cond t.live p (t.at + LINK))

-- an allocated tile doesn't change the pointer word after the tiles
pub leads_past : (link : ℕ) (xs : List Tile) (at u : ℕ) → link ≡ link_to xs →
    link ≡ link_to (xs ++ tile at u true ∷ [])
leads_past link xs at u e = e ∙ sym (link_past-append xs (tile at u true ∷ []) FREE)
