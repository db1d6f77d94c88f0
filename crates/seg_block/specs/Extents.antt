-- A heap to which the units after it are added.
use Rattle.std.specs.Prelude.{◌≡◌, ℕ, Bool, List, [], ◌∷◌, ◌++◌, length}
use Rattle.seg_spec.specs.Heap.{Tile, AreHeaders, HoldsGaps, free_of}
use Rattle.seg_block.specs.Tiling.{tile, Spares}

-- The last of these tiles, which had u units, now has n, and the free structure has the gaps among
-- them.
pub record Enlarges (allocator : ℕ) (old new : List ℕ) (xs : List Tile) (at u n : ℕ)
    (live : Bool) : Type 0 where
  pub length_kept : length new ≡ length old
  pub headers : AreHeaders new 0 (xs ++ tile at n live ∷ [])
  pub free : HoldsGaps allocator new (free_of (xs ++ tile at n live ∷ []))
  pub spared : Spares old new (xs ++ tile at u live ∷ [])
