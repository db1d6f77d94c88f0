-- The buffer of the flat index before and after calls.
--     index_cell                          the position of the index's cell
--     name_entry bytes i                  the position of an entry
--     FindsNames allocator bytes table    the heap is well-formed, and the cell points to a buffer of entries
--     FindsIndex allocator bytes table content cell    the call is on the index, with its layout
--     ChangesIndex old new table spans    only the cell and its buffer changed
--     IsSameEntry old new from to         an entry was copied
--     KeepsNames old new                  all entries are kept
--     ReservesIndex ..                    the buffer has room for n bytes
--     MakesIndexRoom ..                   the buffer got room, or the request was refused
--     MovesIndex ..                       the buffer moved to a block that was allocated before
--     OpensName ..                        there is room for an entry at an index
--     AddsName ..                         an entry was written at an index
--     ClosesName old new table index      the entry at an index was removed
--     EmptiesIndex old new table          the buffer was freed
use Rattle.std.specs.Prelude.{◌≡◌, ℕ, ◌+◌, ◌*◌, ◌%◌, ◌<◌, ◌≤◌, ◌-◌, List, [], length, Some, None, Result, MatchResult}
use Rattle.std.specs.List.{AllByRecursion}
use Rattle.seg_spec.specs.Bytes.{word, IsSame, ChangesOnly, slice}
pub use Rattle.seg_spec.specs.Header.{index_cell}
use Rattle.seg_spec.specs.Header.{KeepsFront, back_start, reserved, heap_start}
use Rattle.seg_spec.specs.Pointer.{target}
use Rattle.seg_spec.specs.Types.{Table}
use Rattle.seg_spec.specs.Heap.{Span, IsHeap, live}
use Rattle.seg_spec.specs.Block as block
use Rattle.seg_spec.specs.Block.{tag_of, IsOwnable, KeepsBlock}
use Rattle.seg_spec.specs.Demand.{Ask, after_gives}
use Rattle.seg_spec.specs.Cells.{IsWithin}
use Rattle.seg_spec.specs.Growing.{HasRoomFor}
use Rattle.seg_spec.specs.Calls.{Refuses}
use Rattle.seg_spec.specs.Spending.{buffer_asks, entry_asks, spent}
use Rattle.seg_spec.specs.Reads.{count_at, named, start, NamesRoom}
use Rattle.seg_spec.specs.Sound.{times, positions}
use Rattle.seg_cells.specs.Contents.{IsIndexBuffer}
use Rattle.seg_cells.specs.declared.content.Content.{Content}

abbrev pub name_entry : List ℕ → ℕ → ℕ
name_entry bytes i = start bytes index_cell + i * 8

-- The state in which calls on the index begin. The heap is well-formed. The index's cell has a null
-- pointer and counts 0, or points to an allocated block with room for its entries. Each entry
-- points to a multiple of 8, or has a null pointer.
pub record FindsNames (allocator : ℕ) (bytes : List ℕ) (table : Table) : Type 0 where
  pub heap : IsHeap allocator bytes
  pub allocator_is : word bytes 16 ≡ allocator
  pub ownable : AllByRecursion (λ b. IsOwnable bytes table b.at) (live bytes)
  pub room : NamesRoom bytes index_cell (tag_of block.Kind.index_buffer 0) 8
  pub is_live : (h : ℕ) → 1 ≤ times h (named bytes index_cell) →
      1 ≤ times h (positions (live bytes))
  pub aligned : (i t : ℕ) → i < count_at bytes index_cell →
      target bytes (name_entry bytes i) ≡ Some t → t % 8 ≡ 0

-- the call is on the index, with its cell and the layout of its buffer
abbrev pub FindsIndex : ℕ → List ℕ → Table → Content → ℕ → Type 0
FindsIndex allocator bytes table content cell =
    IsIndexBuffer content × (cell ≡ index_cell) × FindsNames allocator bytes table

-- Only the index's cell and its buffer changed. The allocated blocks are now these, and all others
-- are kept.
pub record ChangesIndex (old new : List ℕ) (table : Table) (spans : List Span) : Type 0 where
  pub length_kept : length new ≡ length old
  pub front_kept : KeepsFront old new
  pub middle_kept : IsSame old new back_start (index_cell - back_start)
  pub back_kept : IsSame old new reserved (heap_start - reserved)
  pub heap : IsHeap (word old 16) new
  pub ownable : AllByRecursion (λ b. IsOwnable new table b.at) (live new)
  pub live_is : live new ≡ spans
  pub live_are : (h : ℕ) →
      times h (positions (live new)) + times h (named old index_cell)
      ≡ times h (positions (live old)) + times h (named new index_cell)
  pub kept : (h : ℕ) → 1 ≤ times h (positions (live old)) → times h (named old index_cell) ≡ 0 →
      KeepsBlock old new h
  pub room : NamesRoom new index_cell (tag_of block.Kind.index_buffer 0) 8

-- the two entries have the same target, and the same bytes after their pointers
abbrev pub IsSameEntry : List ℕ → List ℕ → ℕ → ℕ → Type 0
IsSameEntry old new from to =
    (target new to ≡ target old from) × (slice new (to + 4) 4 ≡ slice old (from + 4) 4)

-- each entry is kept, also if the buffer moved
pub record KeepsNames (old new : List ℕ) : Type 0 where
  pub counted : count_at new index_cell ≡ count_at old index_cell
  pub entries : (i : ℕ) → i < count_at old index_cell →
      IsSameEntry old new (name_entry old i) (name_entry new i)

-- the requests were granted, and the buffer has room for n bytes
pub record ReservesIndex (allocator : ℕ) (old new : List ℕ) (table : Table) (asks : List Ask)
    (n : ℕ) : Type 0 where
  pub left : List Span
  pub left_is : spent allocator (live old) (length old) asks [] ≡ Some left
  pub changes : ChangesIndex old new table left
  pub names : KeepsNames old new
  pub room : HasRoomFor new index_cell n

-- the buffer got room for `limit` entries, or the request was refused
abbrev pub MakesIndexRoom : {X Y : Type 0} → ℕ → List ℕ → List ℕ → Table → ℕ → Result X Y → Type 0
MakesIndexRoom allocator old new table limit result = MatchResult result
    (λ done. ReservesIndex allocator old new table (buffer_asks old index_cell 8 limit) (limit * 8))
    (λ code. Refuses allocator old new (buffer_asks old index_cell 8 limit))

-- the buffer moved to a block of u units that was allocated before, and the old buffer was freed
pub record MovesIndex (old taken new : List ℕ) (table : Table) (u : ℕ) : Type 0 where
  pub changes : ChangesIndex old new table (after_gives (live taken) (named old index_cell))
  pub names : KeepsNames old new
  pub room : HasRoomFor new index_cell (16 * u - 16)

-- an entry was written at the position of an index, before the entries that were there
pub record AddsName (old new : List ℕ) (table : Table) (left : List Span) (index at : ℕ)
    : Type 0 where
  pub changes : ChangesIndex old new table left
  pub at_is : name_entry new index ≡ at
  pub counted : count_at new index_cell ≡ count_at old index_cell + 1
  pub before : (i : ℕ) → i < index →
      IsSameEntry old new (name_entry old i) (name_entry new i)
  pub after : (i : ℕ) → index ≤ i → i < count_at old index_cell →
      IsSameEntry old new (name_entry old i) (name_entry new (i + 1))

-- the requests were granted, and there is room for any entry at an index
pub record OpensName (allocator : ℕ) (old new : List ℕ) (table : Table) (index at : ℕ)
    : Type 0 where
  pub left : List Span
  pub left_is : spent allocator (live old) (length old) (entry_asks 0 old) [] ≡ Some left
  pub aligned : at % 8 ≡ 0
  pub within : IsWithin new at 8
  pub becomes : (written : List ℕ) → ChangesOnly new written at 8 →
      AddsName old written table left index at

-- the entry at an index was removed, and those after it moved down by one
pub record ClosesName (old new : List ℕ) (table : Table) (index : ℕ) : Type 0 where
  pub changes : ChangesIndex old new table (live old)
  pub counted : count_at old index_cell ≡ count_at new index_cell + 1
  pub before : (i : ℕ) → i < index →
      IsSameEntry old new (name_entry old i) (name_entry new i)
  pub after : (i : ℕ) → index ≤ i → i < count_at new index_cell →
      IsSameEntry old new (name_entry old (i + 1)) (name_entry new i)

-- the index has no buffer and no entries
pub record EmptiesIndex (old new : List ℕ) (table : Table) : Type 0 where
  pub changes : ChangesIndex old new table (after_gives (live old) (named old index_cell))
  pub names_none : target new index_cell ≡ None
  pub counts_none : count_at new index_cell ≡ 0
