-- The pointer word that an allocator needs: the one after the free tiles before a tile.
use Rattle.std.proofs.Common.{◌≡◌, ℕ, List, sym, ap, ◌∙◌}
use Rattle.seg_spec.specs.Heap.{Tile, gaps, tiles, IsHeap}
use Rattle.seg_block.proofs.FreeTiles.{HasFree, around_gap}
use Rattle.seg_seqfit.specs.FreeBlocks.{link_after, IsFirstFit}
use Rattle.seg_seqfit.specs.Retiling.{link_past}
use Rattle.seg_seqfit.proofs.Predecessor.{link_after-free_of}

abbrev pub Place : ℕ → List Tile → Type 0
Place link xs = link ≡ link_past 24 xs

-- the pointer word to the first gap that fits is the word after the free tiles before this gap
pub place_of_gap : (old : List ℕ) (u link at units : ℕ) (h : IsHeap 0 old) (f : IsFirstFit (gaps old) u link at units) → Place link (around_gap (Place link) old u at units h f.is_first f.seen f.rest f.parts).xs
place_of_gap old u link at units h f =
    let around : HasFree (tiles old) f.seen (record { at = at; units = units }) = around_gap (Place link) old u at units h f.is_first f.seen f.rest f.parts in
    f.link_is ∙ ap (link_after 24) (sym around.seen_are) ∙ link_after-free_of around.xs 24
