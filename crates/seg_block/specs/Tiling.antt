-- The tiles of a heap, apart from how an allocator stores the free ones. Free tiles may be adjacent
-- here.
use Rattle.std.specs.Prelude.{ℕ, ◌+◌, ◌-◌, ◌*◌, ◌≤◌, Bool, List, [], ◌∷◌, ◌++◌, length, Contains}
use Rattle.seg_spec.specs.Bytes.{Agrees}
use Rattle.seg_spec.specs.Heap.{Span, Tile, end_of, Fill, AreHeaders, HoldsGaps, live_of, free_of, heap_start}
use Rattle.seg_ptr.specs.declared.window.TheConstants.{MAX_LEN}
use Rattle.seg_ptr.specs.declared.header.TheConstants.{FREE}
use Rattle.seg_block.specs.declared.block.Block.{Block}
use Rattle.seg_block.specs.declared.header.TheConstants.{TAG}

abbrev pub tile : ℕ → ℕ → Bool → Tile
tile at units live = record { at = at; units = units; live = live }

-- a block as a tile
abbrev pub tile_of : Block → Bool → Tile
tile_of b live = tile b.at b.units live

-- the units right after a block as a tile
abbrev pub tile_after : Block → ℕ → Bool → Tile
tile_after b units live = tile (b.at + 16 * b.units) units live

-- a block with more units as a tile
abbrev pub grown : Block → ℕ → Bool → Tile
grown b more live = tile b.at (b.units + more) live

-- the two tiles of a split block: the front has `units` units
abbrev pub halves : Block → ℕ → Bool → Bool → List Tile
halves b units front_live back_live =
    tile b.at units front_live ∷ tile (b.at + 16 * units) (b.units - units) back_live ∷ []

-- these tiles, and then a block as the last one
abbrev pub ending : List Tile → Block → Bool → List Tile
ending xs b live = xs ++ tile_of b live ∷ []

-- these tiles fill the heap with their headers
pub record IsTiled (bytes : List ℕ) (ts : List Tile) : Type 0 where
  pub small : length bytes ≤ MAX_LEN
  pub filled : Fill heap_start ts (length bytes)
  pub headers : AreHeaders bytes 0 ts

-- The bytes before the heap are kept, except the pointer to the free blocks. The tag, link and
-- payload of each of these allocated tiles are kept too.
pub record Spares (old new : List ℕ) (ts : List Tile) : Type 0 where
  pub front_kept : Agrees old new 0 FREE
  pub back_kept : Agrees old new (FREE + 4) heap_start
  pub tiles_kept : (b : Span) → Contains (live_of ts) b → Agrees old new (b.at + TAG) (end_of b)

-- The tiles between xs and ys were replaced by ns. The first of ns kept n bytes of its own tag,
-- link and payload.
pub record Replaces (old new : List ℕ) (xs ns ys : List Tile) (at n : ℕ) : Type 0 where
  pub tiled : IsTiled new (xs ++ (ns ++ ys))
  pub spared : Spares old new (xs ++ ys)
  pub own_kept : Agrees old new (at + TAG) (at + n)

-- These tiles fill the heap with their headers, and the allocator's free structure has the free
-- ones.
pub record IsTiling (allocator : ℕ) (bytes : List ℕ) (ts : List Tile) : Type 0 where
  pub tiled : IsTiled bytes ts
  pub free : HoldsGaps allocator bytes (free_of ts)

-- The tiles between xs and ys were replaced by ns, and the free structure has the free ones.
pub record Retiles (allocator : ℕ) (old new : List ℕ) (xs ns ys : List Tile) : Type 0 where
  pub tiling : IsTiling allocator new (xs ++ (ns ++ ys))
  pub spared : Spares old new (xs ++ ys)

-- ---- the neighbours of a block, whatever the other tiles are

-- P is true of the tile right after the block
abbrev pub ForNext : List ℕ → Block → (Tile → Type 0) → Type 0
ForNext bytes b P =
    (xs ys : List Tile) (l : Bool) (t : Tile) → IsTiled bytes (xs ++ (tile_of b l ∷ t ∷ ys)) → P t

-- P is true if the block is the last one
abbrev pub WhereLast : List ℕ → Block → Type 0 → Type 0
WhereLast bytes b P = (xs : List Tile) (l : Bool) → IsTiled bytes (xs ++ tile_of b l ∷ []) → P

-- P is true of the tile right before the block
abbrev pub ForPrevious : List ℕ → Block → (Tile → Type 0) → Type 0
ForPrevious bytes b P =
    (xs ys : List Tile) (l : Bool) (t : Tile) → IsTiled bytes (xs ++ (t ∷ tile_of b l ∷ ys)) → P t

-- P is true if the block is the first one
abbrev pub WhereFirst : List ℕ → Block → Type 0 → Type 0
WhereFirst bytes b P = (ys : List Tile) (l : Bool) → IsTiled bytes (tile_of b l ∷ ys) → P
