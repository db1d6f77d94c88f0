-- Whether the buffer to which a cell points has room for one more entry, as the program reads it.
--     LacksEntry bytes cell size      the cell has no buffer or doesn't lie in the segment, or the buffer has no room for
--                                     an entry of `size` bytes
--     HasEntry bytes cell size room   the buffer has room, and this is the position of the new entry
use Rattle.std.specs.Prelude.{◌≡◌, ℕ, ◌+◌, ◌*◌, ◌<◌, ◌≤◌, ◌⊎◌, List, length, Some, None}
use Rattle.seg_spec.specs.Pointer.{target}
use Rattle.seg_spec.specs.Reads.{count_at}
use Rattle.seg_spec.specs.Spending.{units_named}
use Rattle.seg_seq.specs.declared.room.Room.{Room}

-- the cell's pointer is null, or the cell doesn't lie in the segment
abbrev pub NamesNone : List ℕ → ℕ → Type 0
NamesNone bytes cell = (target bytes cell ≡ None) ⊎ (length bytes < cell + 8)

-- the buffer at `start` has no room for one more entry, or the entry would end after the segment
abbrev pub LacksEntryRoom : List ℕ → ℕ → ℕ → ℕ → Type 0
LacksEntryRoom bytes cell size start =
    (16 * units_named bytes cell < (count_at bytes cell + 1) * size + 16)
    ⊎ (length bytes < start + (count_at bytes cell + 1) * size)

-- the cell has a buffer without room for one more entry
pub record NamesShort (bytes : List ℕ) (cell size : ℕ) : Type 0 where
  pub start : ℕ
  pub start_is : target bytes cell ≡ Some start
  pub short : 16 ≤ start → LacksEntryRoom bytes cell size start

abbrev pub LacksEntry : List ℕ → ℕ → ℕ → Type 0
LacksEntry bytes cell size = NamesNone bytes cell ⊎ NamesShort bytes cell size

pub record HasEntry (bytes : List ℕ) (cell size : ℕ) (room : Room) : Type 0 where
  pub start : ℕ
  pub start_is : target bytes cell ≡ Some start
  pub count_is : room.count ≡ count_at bytes cell
  pub fits : 16 ≤ start → (room.count + 1) * size + 16 ≤ 16 * units_named bytes cell
  pub at_is : 16 ≤ start → room.at ≡ start + room.count * size
  pub inside : room.at + size ≤ length bytes
