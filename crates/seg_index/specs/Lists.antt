-- The index of names, of either kind, before and after calls. `names` are the named objects in
-- order, and `blocks` the blocks that the index owns.
--     entry_of root                         the index's entry for a root
--     comes_before name other               whether a name precedes another
--     root_after names name                 the first root whose name is after another one
--     PartedNames names name index these    the roots before a name, the root with the name, if any, and those after
--     IsNamed bytes table root              a named object's block, with its name after the values
--     FindsNamesOf allocator bytes table names blocks
--                                           the heap is well-formed, and its index lists these names
--     WhereNames allocator bytes table claim      the claim is true of the names that the index lists
--     WhereKind kind allocator bytes table claim      the same, if the index is of this kind
--     LeadsToName bytes table name path     the path ends at a name's node, or at the place to insert it at
--     IsSpot bytes table names name these spot    where a search for a name ended
--     LooksUp names name found IsAt         the result of a search for a name
--     IsOccupied, IsVacant                  the results for a name with an entry, and for one without
--     IsRootOf object n len root            a root's position, its number of values, and the length of its name
--     MayEnter bytes table names blocks root      a root that can be added to the index
--     ChangesNames ..                       only the index changed, which now lists these names
--     EntersName, EntersOrNot               the root was added to the index, or there was no room for it
--     LeavesName                            the root was removed from the index
use Rattle.std.specs.Prelude.{◌≡◌, ℕ, ◌+◌, ◌*◌, ◌≤◌, ◌==◌, ◌&&◌, ◌||◌, nat_lt, Bool, true, false, if◌then◌else◌, List, [], ◌∷◌, ◌++◌, length, Option, Some, None, MatchOption, Result, MatchResult}
use Rattle.std.specs.List.{AllByRecursion}
use Rattle.std.specs.Ordering.{nat_cmp, ordering_reverse}
use Rattle.std.specs.Cmp.Lexicographic.{slice_cmp}
use Rattle.seg_spec.specs.Bytes.{word, slice, IsSame}
use Rattle.seg_spec.specs.Header.{allocator_word, index_kind_word, back_start, index_cell, reserved, KeepsFront}
use Rattle.seg_spec.specs.Types.{Table, IsTable, size}
use Rattle.seg_spec.specs.Value.{count}
use Rattle.seg_spec.specs.Heap.{Span, IsHeap, live}
use Rattle.seg_spec.specs.Block as block
use Rattle.seg_spec.specs.Block.{block_of, tag_of, IsBlock, IsOwnable, KeepsBlock}
use Rattle.seg_spec.specs.Shapes as shapes
use Rattle.seg_spec.specs.Search.{IsSearchTree}
use Rattle.seg_spec.specs.Index.{Root, IsName, Precedes, ListsNames, root_named}
use Rattle.seg_spec.specs.Sound.{times, positions}
use Rattle.seg_spec.specs.Roots.{KeepsNodes}
use Rattle.seg_spec.specs.Calls.{Refuses}
use Rattle.seg_spec.specs.Demand.{after_gives}
use Rattle.seg_spec.specs.Spending.{spent, entry_asks, EntryBlocks}
use Rattle.seg_rbtree.specs.declared.path.Path.{Path}
use Rattle.seg_rbtree.specs.Ways.{LeadsTo}
use Rattle.seg_rbtree.specs.Roots.{path_root}
use Rattle.seg_cells.specs.Names.{name_at}
use Rattle.seg_cells.specs.declared.name_entry.NameEntry.{NameEntry}
use Rattle.seg_index.specs.declared.lookup.Spot.{Spot}
use Rattle.seg_index.specs.declared.lookup.Spot.TheVariants as spot
use Rattle.seg_index.specs.declared.lookup.Occupied.{Occupied}
use Rattle.seg_index.specs.declared.lookup.Vacant.{Vacant}

-- ---- entries and names

abbrev pub entry_of : Root → NameEntry
entry_of root = record {
  object = Some root.at;
  count = count root.values;
  name_len = length root.name;
  zero = 0;
}

-- the order of names: by bytes, with a prefix first
abbrev pub comes_before : List ℕ → List ℕ → Bool
comes_before [] [] = false
comes_before [] (y ∷ ys) = true
comes_before (x ∷ xs) [] = false
comes_before (x ∷ xs) (y ∷ ys) = nat_lt x y || ((x == y) && comes_before xs ys)

abbrev pub root_after : List Root → List ℕ → Option Root
root_after [] name = None
root_after (root ∷ roots) name =
    if comes_before name root.name then Some root else root_after roots name

-- The roots are those before a name, the one with the name, if there is one, and those after it.
pub record PartedNames (names : List Root) (name : List ℕ) (index : ℕ)
    (these : List Root) : Type 0 where
  pub before : List Root
  pub after : List Root
  pub names_are : names ≡ before ++ (these ++ after)
  pub index_is : index ≡ length before
  pub low : AllByRecursion (λ r. Precedes r.name name) before
  pub its : AllByRecursion (λ r. r.name ≡ name) these
  pub high : AllByRecursion (λ r. Precedes name r.name) after

-- ---- the state in which calls begin

-- an allocated block has the tag of a named object, with the name after the values
pub record IsNamed (bytes : List ℕ) (table : Table) (root : Root) : Type 0 where
  pub block : IsBlock bytes root.at (tag_of block.Kind.named root.type)
      (count root.values * size table root.type + length root.name)
  pub name_is : slice bytes (root.at + count root.values * size table root.type)
      (length root.name) ≡ root.name
  pub is_live : 1 ≤ times (block_of root.at) (positions (live bytes))

-- The heap is well-formed. The index lists these names and owns these allocated blocks, each once.
-- The object of each name is another allocated block.
pub record FindsNamesOf (allocator : ℕ) (bytes : List ℕ) (table : Table) (names : List Root)
    (blocks : List ℕ) : Type 0 where
  pub heap : IsHeap allocator bytes
  pub allocator_is : word bytes allocator_word ≡ allocator
  pub kind_is : word bytes index_kind_word ≤ 1
  pub is_table : IsTable table
  pub ownable : AllByRecursion (λ b. IsOwnable bytes table b.at) (live bytes)
  pub lists : ListsNames bytes names blocks
  pub owned : (h : ℕ) → times h blocks ≤ times h (positions (live bytes))
  pub named : AllByRecursion (λ r. IsNamed bytes table r × (times (block_of r.at) blocks ≡ 0)) names

-- the claim is true of the names that the index lists, and of the blocks that it owns
abbrev pub WhereNames : ℕ → List ℕ → Table → (List Root → List ℕ → Type 0) → Type 0
WhereNames allocator bytes table claim = (names : List Root) (blocks : List ℕ) →
    FindsNamesOf allocator bytes table names blocks → claim names blocks

-- the same, if the index is of this kind
abbrev pub WhereKind : ℕ → ℕ → List ℕ → Table → (List Root → List ℕ → Type 0) → Type 0
WhereKind kind allocator bytes table claim = (names : List Root) (blocks : List ℕ) →
    FindsNamesOf allocator bytes table names blocks → word bytes index_kind_word ≡ kind →
    claim names blocks

-- ---- where a search ends

-- the path in the index's tree ends at a name's node, or at the place to insert it at
pub record LeadsToName (bytes : List ℕ) (table : Table) (name : List ℕ) (path : Path) : Type 0 where
  pub root_is : path_root path ≡ index_cell
  pub leads : (tree : shapes.Tree) → IsSearchTree bytes index_cell tree →
      LeadsTo (λ x. ordering_reverse (slice_cmp nat_cmp (name_at table bytes (x + 16)) name))
      tree path

-- These are the roots with the name, none or one. The spot is where the entry is, or where to
-- insert it.
abbrev pub IsSpot : List ℕ → Table → List Root → List ℕ → List Root → Spot → Type 0
IsSpot bytes table names name these (spot.Flat index) =
    (word bytes index_kind_word ≡ 0) × PartedNames names name index these
IsSpot bytes table names name these (spot.Tree path) =
    (word bytes index_kind_word ≡ 1) × LeadsToName bytes table name path

-- the entry of the name's root and its spot, or no entry and the spot to insert it at
abbrev pub LooksUp : List Root → List ℕ → Option NameEntry → (List Root → Type 0) → Type 0
LooksUp names name found IsAt = MatchOption (root_named names name)
    ((found ≡ None) × IsAt [])
    (λ root. (found ≡ Some (entry_of root)) × IsAt (root ∷ []))

-- the entry of the root with a name, and its spot
pub record IsOccupied (bytes : List ℕ) (table : Table) (names : List Root) (name : List ℕ)
    (root : Root) (occupied : Occupied) : Type 0 where
  pub found : root_named names name ≡ Some root
  pub entry_is : occupied.entry ≡ entry_of root
  pub spot : IsSpot bytes table names name (root ∷ []) occupied.spot

-- no root has the name, and this is the spot to insert it at
pub record IsVacant (bytes : List ℕ) (table : Table) (names : List Root) (name : List ℕ)
    (vacant : Vacant) : Type 0 where
  pub missing : root_named names name ≡ None
  pub spot : IsSpot bytes table names name [] vacant.spot

-- ---- the state after calls

-- the position of a root, the number of its values, and the length of its name
abbrev pub IsRootOf : ℕ → ℕ → ℕ → Root → Type 0
IsRootOf object n len root =
    (root.at ≡ object) × (count root.values ≡ n) × (length root.name ≡ len)

-- a named object in a separate block, which can be added to the index
pub record MayEnter (bytes : List ℕ) (table : Table) (blocks : List ℕ) (root : Root) : Type 0 where
  pub is_name : IsName root.name
  pub no_words : root.words ≡ []
  pub some : 1 ≤ count root.values
  pub few : count root.values ≤ 65535
  pub named : IsNamed bytes table root
  pub other : times (block_of root.at) blocks ≡ 0

-- Only the index changed, which owned `blocks`. It now lists these names and owns `others`, and the
-- allocated blocks are these. Other names keep their nodes.
pub record ChangesNames (old new : List ℕ) (table : Table) (spans : List Span) (blocks : List ℕ)
    (names : List Root) (others : List ℕ) : Type 0 where
  pub length_kept : length new ≡ length old
  pub front_kept : KeepsFront old new
  pub middle_kept : IsSame old new back_start 4
  pub back_kept : IsSame old new reserved 664
  pub heap : IsHeap (word old allocator_word) new
  pub ownable : AllByRecursion (λ b. IsOwnable new table b.at) (live new)
  pub live_is : live new ≡ spans
  pub live_are : (h : ℕ) → times h (positions (live new)) + times h blocks
      ≡ times h (positions (live old)) + times h others
  pub kept : (h : ℕ) → 1 ≤ times h (positions (live old)) → times h blocks ≡ 0 →
      KeepsBlock old new h
  pub nodes_kept : KeepsNodes old new blocks
  pub lists : ListsNames new names others

-- the requests were granted, and the root was added to the index in order
pub record EntersName (allocator : ℕ) (old new : List ℕ) (table : Table) (names : List Root)
    (blocks : List ℕ) (root : Root) : Type 0 where
  pub before : List Root
  pub after : List Root
  pub names_are : names ≡ before ++ after
  pub left : List Span
  pub left_is : spent allocator (live old) (length old)
      (entry_asks (word old index_kind_word) old) [] ≡ Some left
  pub others : List ℕ
  pub changes : ChangesNames old new table left blocks (before ++ root ∷ after) others

-- the root was added to the index, or one of the requests for its entry wasn't granted
abbrev pub EntersOrNot : {X Y : Type 0} → ℕ → List ℕ → List ℕ → Table → List Root → List ℕ → Root
    → Result X Y → Type 0
EntersOrNot allocator old new table names blocks root result = MatchResult result
    (λ done. EntersName allocator old new table names blocks root)
    (λ code. Refuses allocator old new (entry_asks (word old index_kind_word) old))

-- the root was removed from the index, and the blocks of its entry were freed
pub record LeavesName (old new : List ℕ) (table : Table) (names : List Root)
    (blocks : List ℕ) (root : Root) : Type 0 where
  pub before : List Root
  pub after : List Root
  pub names_are : names ≡ before ++ root ∷ after
  pub gives : List ℕ
  pub entry : EntryBlocks (word old index_kind_word) old blocks root gives
  pub others : List ℕ
  pub changes : ChangesNames old new table (after_gives (live old) gives) blocks
      (before ++ after) others
