-- The positions of the fixed parts of a segment, in bytes, and the possible lengths of a segment. A
-- unit has 16 bytes.
--     min_length, max_length         the length of the shortest and of the longest segment, in bytes
--     version_word (8), units_word (12), allocator_word (16), index_kind_word (20), free_word (24),
--     next_word (28), index_cell (32), reserved (40)     the header's words, after 8 magic bytes
--     IsVersion version next         an image of this version may have this next number
--     types_start (64), types_size       the type table, and its size in bytes
--     uniques_start (576), uniques_size  the pointers to the unique objects, and their size in bytes
--     heap_start (704)                   the heap
--     back_start, back_size          the bytes between the free structure's word and the heap
--     KeepsFront, KeepsBack          the bytes before that word are kept; the bytes after it, up to the heap, are kept
use Rattle.std.specs.Prelude.{◌≡◌, ◌⊎◌, ℕ, ◌+◌, ◌-◌, ◌*◌, ◌^◌, List}
use Rattle.seg_spec.specs.Bytes.{IsSame}

-- the type table begins right after the header
abbrev pub types_start : ℕ
types_start = 64

-- ---- the header

abbrev pub version_word : ℕ
version_word = 8

-- the segment's size in units
abbrev pub units_word : ℕ
units_word = 12

-- the word of the allocator: 0 for sequential fit, 1 for best fit
abbrev pub allocator_word : ℕ
allocator_word = 16

-- the word of the kind of index: 0 for a flat index, 1 for a tree
abbrev pub index_kind_word : ℕ
index_kind_word = 20

-- the pointer to the free structure
abbrev pub free_word : ℕ
free_word = 24

-- the number of the next frozen object; 0 in version 1, which has no frozen objects
abbrev pub next_word : ℕ
next_word = 28

-- the cell of the index: its pointer, and the number of names
abbrev pub index_cell : ℕ
index_cell = 32

-- the zeros between the header's words and the type table
abbrev pub reserved : ℕ
reserved = 40

abbrev pub reserved_size : ℕ
reserved_size = types_start - reserved

-- the version that may have frozen objects
abbrev pub sharing_version : ℕ
sharing_version = 2

-- the versions of images, and the next numbers that each may have
abbrev pub IsVersion : ℕ → ℕ → Type 0
IsVersion version next = ((version ≡ 1) × (next ≡ 0)) ⊎ (version ≡ sharing_version)

-- ---- what follows the header

-- the size of 32 entries of 16 bytes
abbrev pub types_size : ℕ
types_size = 32 * 16

abbrev pub uniques_start : ℕ
uniques_start = types_start + types_size

-- the size of a word for each of 32 types
abbrev pub uniques_size : ℕ
uniques_size = 32 * 4

abbrev pub heap_start : ℕ
heap_start = uniques_start + uniques_size

-- ---- the whole segment

-- the size of a segment whose heap has two units
abbrev pub min_length : ℕ
min_length = heap_start + 2 * 16

abbrev pub max_length : ℕ
max_length = 2 ^ 30

-- ---- bytes that changes of the heap keep

-- the position right after the word of the free structure
abbrev pub back_start : ℕ
back_start = free_word + 4

abbrev pub back_size : ℕ
back_size = heap_start - back_start

abbrev pub KeepsFront : List ℕ → List ℕ → Type 0
KeepsFront old new = IsSame old new 0 free_word

abbrev pub KeepsBack : List ℕ → List ℕ → Type 0
KeepsBack old new = IsSame old new back_start back_size
