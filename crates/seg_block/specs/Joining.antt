-- An allocated block that is freed and merged with the gap before it.
use Rattle.std.specs.Prelude.{◌≡◌, ℕ, true, false, List, ◌∷◌, ◌++◌}
use Rattle.seg_spec.specs.Heap.{Tile, AreApart, live_of}
use Rattle.seg_spec.proofs.Heap.TileLaws.{live_after}
use Rattle.seg_block.specs.Tiling.{tile, IsTiling, Spares}

-- The allocated tile after xs is now free, merged with the gap before it if there is one. It begins
-- at `at`.
pub record JoinsBefore (allocator : ℕ) (old new : List ℕ) (xs : List Tile)
    (at units : ℕ) (ys : List Tile) : Type 0 where
  pub front : List Tile
  pub tiling : IsTiling allocator new (front ++ tile at units false ∷ ys)
  pub apart : AreApart true front
  pub after_live : live_after true front ≡ true
  pub live_is : live_of front ≡ live_of xs
  pub spared : Spares old new (xs ++ ys)
