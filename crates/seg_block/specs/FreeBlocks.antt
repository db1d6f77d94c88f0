-- Free blocks by ascending position.
use Rattle.std.specs.Prelude.{ℕ, ◌≤◌, List, [], ◌∷◌, ⊤}
use Rattle.seg_spec.specs.Heap.{Span, end_of}
use Rattle.seg_block.specs.Blocks.{IsSized}

-- free blocks from a position on, each after the one before
abbrev pub AreFreeBlocks : List ℕ → ℕ → List Span → Type 0
AreFreeBlocks bytes from [] = ⊤
AreFreeBlocks bytes from (g ∷ gs) =
    (from ≤ g.at) × IsSized bytes g × AreFreeBlocks bytes (end_of g) gs
