-- A block, with the size in its header.
use Rattle.std.specs.Prelude.{◌≡◌, ℕ, ◌+◌, ◌-◌, ◌*◌, ◌⊎◌, Bool, true, false, ◌%◌, ◌≤◌, List, [], ◌∷◌, ◌++◌, length, Contains, IsSomeAnd, Option, None}
use Rattle.seg_spec.specs.Heap.{Tile, Span, span, span_of, end_of, units_at, live, gaps, room_at, IsHeap, Keeps, resized}
use Rattle.seg_ptr.specs.declared.window.TheConstants.{MAX_LEN}
use Rattle.seg_block.specs.Tiling.{tile}
use Rattle.seg_block.specs.declared.block.Block.{Block}

-- the position where a block ends
abbrev pub block_end : Block → ℕ
block_end b = b.at + 16 * b.units

-- a block and a run of units are the same
abbrev pub Covers : Block → Span → Type 0
Covers b g = (b.at ≡ g.at) × (b.units ≡ g.units)

-- the block lies in the bytes of a segment
abbrev pub LiesIn : List ℕ → Block → Type 0
LiesIn bytes b = (2 ≤ b.units) × (block_end b ≤ length bytes) × (length bytes ≤ MAX_LEN)

-- the block ends at a position, and may lie in a segment
abbrev pub IsJustBefore : ℕ → Block → Type 0
IsJustBefore at b = (block_end b ≡ at) × (2 ≤ b.units)

-- the size in the header at a position is possible, and the block lies in the bytes
abbrev pub HasRoom : List ℕ → ℕ → Type 0
HasRoom bytes at = (2 ≤ units_at bytes at) × (at + 16 * units_at bytes at ≤ length bytes)

-- the size of the payload in bytes, by the size in the header
abbrev pub payload_at : List ℕ → ℕ → ℕ
payload_at bytes at = 16 * units_at bytes at - 16

-- the header has this size, and the block lies in the segment
pub record IsSized (bytes : List ℕ) (g : Span) : Type 0 where
  pub aligned : g.at % 16 ≡ 0
  pub large : 2 ≤ g.units
  pub inside : end_of g ≤ length bytes
  pub size_is : units_at bytes g.at ≡ g.units

-- the result is the neighbour, if that is free, and otherwise empty
pub record IsReadFree (t : Tile) (result : Option Block) : Type 0 where
  pub free : t.live ≡ false → IsSomeAnd result (λ f. Covers f (span_of t))
  pub live : t.live ≡ true → result ≡ None

-- the last tile has this position and size
pub record HasEnd (bytes : List ℕ) (ts : List Tile) (at units : ℕ) : Type 0 where
  pub front : List Tile
  pub live : Bool
  pub parts : ts ≡ front ++ tile at units live ∷ []

-- ---- an allocated block of the heap

-- the block at a position is allocated and has this size
abbrev pub IsLiveBlock : List ℕ → ℕ → ℕ → Type 0
IsLiveBlock bytes at units = Contains (live bytes) (span at units)

-- the size of the gap right after the block, or 0 if there is none
abbrev pub room_after : List ℕ → ℕ → ℕ → ℕ
room_after bytes at units = room_at (gaps bytes) (at + 16 * units)

-- a block of `whole` units may be cut to n: nothing remains, or at least 2 units
abbrev pub IsCut : ℕ → ℕ → Type 0
IsCut whole n = (n ≡ whole) ⊎ (n + 2 ≤ whole)

-- the block at a position now has n units
pub record IsResized (allocator : ℕ) (old new : List ℕ) (at n : ℕ) : Type 0 where
  pub heap : IsHeap allocator new
  pub kept : Keeps old new
  pub live_is : live new ≡ resized at n (live old)
