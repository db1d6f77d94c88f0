-- A new segment.
--     nothing                             the empty picture
--     word_of_kind index                  the image's word for a kind of index
--     IsNewSegment allocator s region base len index
--                                         an empty segment at a base of a region, whose free memory is 0
use Rattle.std.specs.Prelude.{◌≡◌, ℕ, ◌+◌, take, drop, List, [], length}
use Rattle.std.specs.List.{AllByRecursion}
use Rattle.seg_spec.specs.Bytes.{word}
use Rattle.seg_spec.specs.Header.{version_word, index_kind_word, next_word, sharing_version}
use Rattle.seg_spec.specs.Heap.{live, gaps}
use Rattle.seg_spec.specs.Sound.{Picture}
use Rattle.seg_value.specs.Stored.{Stored}
use Rattle.seg_cells.specs.declared.kind.IndexKind.{IndexKind}
use Rattle.seg_cells.specs.declared.kind.IndexKind.TheVariants as kind
use Rattle.seg_manager.specs.Segments.{IsSegment}
use Rattle.seg_manager.specs.Gaps.{IsZeroed}

-- the picture without types and roots
abbrev pub nothing : Picture
nothing = record { table = []; names = []; uniques = []; loose = []; frozen = [] }

abbrev pub word_of_kind : IndexKind → ℕ
word_of_kind kind.Flat = 0
word_of_kind kind.Tree = 1

-- An empty segment of this length, at a base of a region. The region is kept around it. Its version
-- is the one that may have frozen objects, of which none was numbered yet. The unused bytes of its
-- free memory are 0.
pub record IsNewSegment (allocator : ℕ) (s : Stored) (region : List ℕ) (base len : ℕ)
    (index : IndexKind) : Type 0 where
  pub segment : IsSegment allocator s nothing
  pub version_is : word s.window.bytes version_word ≡ sharing_version
  pub next_is : word s.window.bytes next_word ≡ 0
  pub kind_is : word s.window.bytes index_kind_word ≡ word_of_kind index
  pub length_is : length s.window.bytes ≡ len
  pub no_block : live s.window.bytes ≡ []
  pub zeroed : AllByRecursion (IsZeroed allocator s.window.bytes) (gaps s.window.bytes)
  pub before_is : s.window.before ≡ take base region
  pub after_is : s.window.after ≡ drop (base + len) region
