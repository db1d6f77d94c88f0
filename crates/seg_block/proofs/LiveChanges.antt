-- Allocated tiles are joined and split. The free structure doesn't change.
use Rattle.std.proofs.Common.{◌≡◌, ℕ, ◌+◌, ◌*◌, ◌≤◌, true, List, [], ◌∷◌, ◌++◌, refl, arith}
use Rattle.seg_spec.specs.Heap.{Tile}
use Rattle.seg_block.specs.Sizes.{set_size, set_split}
use Rattle.seg_block.specs.Tiling.{tile, IsTiling, Retiles}
use Rattle.seg_block.proofs.TileJoinLaws.{join-front, join-back, join-kept, join-replaces}
use Rattle.seg_block.proofs.TileSplitLaws.{parts, split-kept, split-replaces}
use Rattle.seg_block.proofs.FreeKept.{between_kept}

pub join-retiles : {allocator : ℕ} (old : List ℕ) (xs ys : List Tile) (at u v : ℕ) → IsTiling allocator old (xs ++ (tile at u true ∷ tile (at + 16 * u) v true ∷ ys))
    → Retiles allocator old (set_size old at (u + v) true) xs (tile at (u + v) true ∷ []) ys
join-retiles {allocator} old xs ys at u v was =
    let done = join-replaces old xs ys at u v true true was.tiled in
    record {
      tiling = record {
        tiled = done.tiled;
        free = between_kept old (set_size old at (u + v) true) at (at + 16 * u + 16 * v) (omega arith) (join-kept old xs ys at u v true true was.tiled) xs ys
            (join-front old xs ys at u v true true was.tiled) (join-back old xs ys at u v true true was.tiled)
            allocator (tile at u true ∷ tile (at + 16 * u) v true ∷ []) (tile at (u + v) true ∷ []) refl refl was.free;
      };
      spared = done.spared;
    }

pub split-retiles : {allocator : ℕ} (old : List ℕ) (xs ys : List Tile) (at n u r : ℕ) → IsTiling allocator old (xs ++ tile at n true ∷ ys) → n ≡ u + r → 2 ≤ u → 2 ≤ r
    → Retiles allocator old (set_split old at u r true) xs (tile at u true ∷ tile (at + 16 * u) r true ∷ []) ys
split-retiles {allocator} old xs ys at n u r was whole large rest_large =
    let done = split-replaces old xs ys at n u r true was.tiled whole large rest_large in
    let places = parts old xs ys at n u r true was.tiled whole large rest_large in
    record {
      tiling = record {
        tiled = done.tiled;
        free = between_kept old (set_split old at u r true) at (at + 16 * u + 16 * r) (omega arith) (split-kept old xs ys at n u r true was.tiled whole large rest_large) xs ys places.0 places.2
            allocator (tile at n true ∷ []) (tile at u true ∷ tile (at + 16 * u) r true ∷ []) refl refl was.free;
      };
      spared = done.spared;
    }
