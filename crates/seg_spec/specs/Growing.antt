-- The results of calls that request blocks, and buffers that grow.
--     Succeeds allocator old new table place w asks gives blocks others   the requests were granted, and the
--                                                 place contains w
--     HasRoomFor bytes at n                       the buffer of a cell has room for n bytes
--     MovesBuffer allocator old taken new table place v blocks u   the buffer of a place moved to a block of u units
--     Reserves allocator old new table place v blocks asks n     the buffer got room for n bytes, and the
--                                                 place contains the same value
use Rattle.std.specs.Prelude.{◌≡◌, ℕ, ◌-◌, ◌*◌, ◌≤◌, List, [], length, Some, MatchOption}
use Rattle.seg_spec.specs.Pointer.{target}
use Rattle.seg_spec.specs.Types.{Table}
use Rattle.seg_spec.specs.Value.{Value}
use Rattle.seg_spec.specs.Heap.{Span, live}
use Rattle.seg_spec.specs.Block.{block_of, payload_size}
use Rattle.seg_spec.specs.Reads.{Place, named}
use Rattle.seg_spec.specs.Parts.{KeepsAllParts}
use Rattle.seg_spec.specs.Roots.{ChangesPlace}
use Rattle.seg_spec.specs.Demand.{Ask, after_gives}
use Rattle.seg_spec.specs.Spending.{spent}

-- The common form of success. The requests were granted. The buffers that were replaced were freed,
-- together with `gives`. The place owned `blocks`. It now contains w and owns `others`.
pub record Succeeds (allocator : ℕ) (old new : List ℕ) (table : Table) (place : Place) (w : Value)
    (asks : List Ask) (gives blocks others : List ℕ) : Type 0 where
  pub left : List Span
  pub left_is : spent allocator (live old) (length old) asks gives ≡ Some left
  pub changes : ChangesPlace old new table place w others left blocks others

-- The buffer of a cell has room for n bytes. Without a buffer n must be 0.
abbrev pub HasRoomFor : List ℕ → ℕ → ℕ → Type 0
HasRoomFor bytes at n =
    MatchOption (target bytes at) (n ≡ 0) (λ p. n ≤ payload_size bytes (block_of p))

pub record Reserves (allocator : ℕ) (old new : List ℕ) (table : Table) (place : Place) (v : Value)
    (blocks : List ℕ) (asks : List Ask) (n : ℕ) : Type 0 where
  pub others : List ℕ
  pub succeeds : Succeeds allocator old new table place v asks [] blocks others
  pub parts : KeepsAllParts old new table place
  pub room : HasRoomFor new place.at n

-- The buffer of a place moved to a block of u units that was allocated before. The old buffer was
-- freed.
pub record MovesBuffer (allocator : ℕ) (old taken new : List ℕ) (table : Table) (place : Place)
    (v : Value) (blocks : List ℕ) (u : ℕ) : Type 0 where
  pub others : List ℕ
  pub changes : ChangesPlace old new table place v others
      (after_gives (live taken) (named old place.at)) blocks others
  pub parts : KeepsAllParts old new table place
  pub room : HasRoomFor new place.at (16 * u - 16)
