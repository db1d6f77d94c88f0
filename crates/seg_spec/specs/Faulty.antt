-- The faults of images that aren't sound. The parts of an image are checked in an order, and each
-- `Lacks..` states that one part is wrong and all parts before it are right. Except for a type's
-- number they leave out positions, since the order of the checker's steps decides which of several
-- faults it finds.
--     IsImageLength n            n may be the length of an image
--     IsTagOf version tag        an image of this version may have a block with this tag
--     HasTiles bytes table       the blocks are right: the whole heap except the free structure
--     HoldsAll bytes             a sound image, except that a block may have several owners or none
--     LacksHeader, LacksType, LacksTiles, LacksGaps, LacksContent, LacksOwner
--         one part is wrong, and all parts before it are right; LacksOwner is a case of LacksContent
--     Failure, Lacks bytes failure        a name for each of the first five
use Rattle.std.specs.Prelude.{◌≡◌, ℕ, ◌%◌, ◌≤◌, true, List, [], ◌++◌, length}
use Rattle.std.specs.List.{AllByRecursion}
use Rattle.seg_spec.specs.Bytes.{word, slice}
use Rattle.seg_spec.specs.Types.{Table, IsTable, AreOfVersion, HasTable, IsFirstWrong}
use Rattle.seg_spec.specs.Heap.{heap_start, tag_at, tiles, Fill, AreHeaders, AreApart, live, gaps, HoldsGaps}
use Rattle.seg_spec.specs.Block.{Kind, kind_number, IsOwnable}
use Rattle.seg_spec.specs.Sound.{Picture, roots_of, HasHeader, HoldsRoots, IsLaidOut, times, positions}
use Rattle.seg_spec.specs.Counting.{AreCounted}
use Rattle.seg_spec.specs.Images.{IsSound}
use Rattle.seg_spec.specs.Header.{min_length, max_length, types_start, types_size, allocator_word, version_word, next_word, sharing_version}

-- A multiple of 16 between the lengths of the shortest and the longest segment.
pub record IsImageLength (n : ℕ) : Type 0 where
  pub not_small : min_length ≤ n
  pub not_large : n ≤ max_length
  pub whole_units : n % 16 ≡ 0

-- Only images of the version with frozen objects have blocks of frozen objects.
abbrev pub IsTagOf : ℕ → ℕ → Type 0
IsTagOf version tag = tag % 256 ≡ kind_number Kind.frozen → version ≡ sharing_version

-- The blocks fill the heap. Each has its header, an allowed tag and no link, and no two free ones
-- are adjacent.
pub record HasTiles (bytes : List ℕ) (table : Table) : Type 0 where
  pub filled : Fill heap_start (tiles bytes) (length bytes)
  pub headers : AreHeaders bytes 0 (tiles bytes)
  pub apart : AreApart true (tiles bytes)
  pub ownable : AllByRecursion (λ b. IsOwnable bytes table b.at) (live bytes)
  pub of_version :
      AllByRecursion (λ b. IsTagOf (word bytes version_word) (tag_at bytes b.at)) (live bytes)

-- The image is laid out, and has only tags of its version. Each value reads, and frozen objects
-- count their cells. All blocks of the index and the roots are allocated, but may have several
-- owners or none.
pub record HoldsAll (bytes : List ℕ) : Type 0 where
  pub picture : Picture
  pub none_loose : picture.loose ≡ []
  pub counted : AreCounted (word bytes next_word) picture
  pub index_blocks : List ℕ
  pub laid_out : IsLaidOut bytes picture index_blocks
  pub of_version :
      AllByRecursion (λ b. IsTagOf (word bytes version_word) (tag_at bytes b.at)) (live bytes)
  pub root_blocks : List ℕ
  pub roots : HoldsRoots bytes picture.table (roots_of picture) root_blocks
  pub live_ones : AllByRecursion (λ h. 1 ≤ times h (positions (live bytes)))
      (index_blocks ++ root_blocks)

-- ---- one part is wrong, and all parts before it are right

-- header and types are right
pub record HasFront (bytes : List ℕ) (table : Table) : Type 0 where
  pub header : HasHeader bytes
  pub types : HasTable bytes types_start table
  pub is_table : IsTable table
  pub of_version : AreOfVersion (word bytes version_word) table

-- the fixed words or the length are wrong
abbrev pub LacksHeader : List ℕ → Type 0
LacksHeader bytes = HasHeader bytes → ⊥

-- entry k of the type table is wrong
abbrev pub LacksType : List ℕ → ℕ → Type 0
LacksType bytes k = HasHeader bytes ×
    IsFirstWrong (word bytes version_word) (slice bytes types_start types_size) k

-- blocks, headers, tags or links are wrong
abbrev pub LacksTiles : List ℕ → Type 0
LacksTiles bytes = (table : Table) × HasFront bytes table × (HasTiles bytes table → ⊥)

-- the free structure is wrong
abbrev pub LacksGaps : List ℕ → Type 0
LacksGaps bytes = (table : Table) × HasFront bytes table × HasTiles bytes table ×
    (HoldsGaps (word bytes allocator_word) bytes (gaps bytes) → ⊥)

-- the index, a unique object, a value, a count or an owner is wrong
abbrev pub LacksContent : List ℕ → Type 0
LacksContent bytes =
    (table : Table) × HasFront bytes table × HasTiles bytes table ×
    HoldsGaps (word bytes allocator_word) bytes (gaps bytes) × (IsSound bytes → ⊥)

-- only owners are wrong
abbrev pub LacksOwner : List ℕ → Type 0
LacksOwner bytes = HoldsAll bytes × (IsSound bytes → ⊥)

-- ---- the failures by name

-- the failures, in the order in which they are checked
pub data Failure : Type 0 where
  bad_header : Failure
  bad_type : (k : ℕ) → Failure
  bad_tiles : Failure
  bad_gaps : Failure
  bad_content : Failure

abbrev pub Lacks : List ℕ → Failure → Type 0
Lacks bytes Failure.bad_header = LacksHeader bytes
Lacks bytes (Failure.bad_type k) = LacksType bytes k
Lacks bytes Failure.bad_tiles = LacksTiles bytes
Lacks bytes Failure.bad_gaps = LacksGaps bytes
Lacks bytes Failure.bad_content = LacksContent bytes
