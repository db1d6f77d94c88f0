-- What a fault of the content states about the position that it reports.
--     PointsTo bytes pointer tag room
--                                    the pointer points to an allocated block with this tag and a payload of
--                                    `room` bytes
--     IsBlockFor table T form n tag room
--                                    the cell of a value of this type, which counts n, and the nodes to which it
--                                    points, must point to blocks with this tag and room
--     IsNodeAt bytes tag room node   a node of this tag and room is there
--     IsLinkAt bytes tag room cell at
--                                    the pointer there is the cell's, or one of such a node's
--     IsEntryAt bytes at             an entry of the index is there
--     MustPointTo, MayPointTo bytes table at tag room
--                                    the pointer there must point to such a block, or may
--     LacksBlockAt bytes table at    the pointer there must point to a block, and doesn't
--     HasEntryAt bytes table at name there is an entry with this name
--     LacksNameAt bytes table at     the index isn't right there, apart from what it points to
--     LacksValueAt bytes table at    the cell there isn't right, apart from what its pointers point to, or
--                                    the frozen object there isn't
--     HasOwnerAt bytes table at      a pointer that may own the allocated block there points to it
--     LacksAt bytes table fault      the statement of a fault of the content
--     IsFaultAt bytes fault          the same for any fault of an image
use Rattle.std.specs.Prelude.{◌≡◌, ℕ, ◌+◌, ◌*◌, ◌<◌, ◌≤◌, ◌⊎◌, ⊤, List, [], ◌∷◌, ◌++◌, length, map, None, Some}
use Rattle.seg_spec.specs.Bytes.{word, half, byte, slice}
use Rattle.seg_spec.specs.Pointer.{target}
use Rattle.seg_spec.specs.Types.{Form, Table, form_at, size}
use Rattle.seg_spec.specs.Value.{IsAscending}
use Rattle.seg_spec.specs.Header.{index_kind_word, index_cell}
use Rattle.seg_spec.specs.Heap.{live}
use Rattle.seg_spec.specs.Block.{Kind, tag_of, block_of, IsBlock}
use Rattle.seg_spec.specs.Shapes.{IsRing, Tree, nodes_of, IsTree, IsRedBlack, tree_words}
use Rattle.seg_spec.specs.Reads.{count_at, start, spaced, keys_at, map_words}
use Rattle.seg_spec.specs.Frozen.{frozen_words}
use Rattle.seg_spec.specs.Index.{Index, OpensIndex, IsName, Precedes, unique_word, index_node_size}
use Rattle.seg_spec.specs.Sound.{times, positions}
use Rattle.seg_spec.specs.Faulty.{HasFront}
use Rattle.seg_raw.specs.declared.fault.Fault.{Fault}
use Rattle.seg_raw.specs.declared.fault.Fault.TheVariants as fault
use Rattle.seg_check.specs.declared.fault.ContentFault.{ContentFault}
use Rattle.seg_check.specs.declared.fault.ContentFault.TheVariants.{Memory, BadIndex, BadPointer, DoubleOwner, BadValue}
use Rattle.seg_check.specs.Claiming.{PointsAmong}
use Rattle.seg_check.specs.Marks.{Within}
use Rattle.seg_check.specs.Naming.{IsFrozen}
use Rattle.seg_check.specs.Turns.{LiesAt}

abbrev pub PointsTo : List ℕ → ℕ → ℕ → ℕ → Type 0
PointsTo bytes pointer tag room = PointsAmong bytes (positions (live bytes)) pointer tag room

-- ---- pointers

-- A buffer has room for n entries. All other blocks have room for one.
abbrev pub IsBlockFor : Table → ℕ → Form → ℕ → ℕ → ℕ → Type 0
IsBlockFor table T Form.str n tag room = (tag ≡ tag_of Kind.buffer T) × (room ≡ n)
IsBlockFor table T (Form.vec U) n tag room =
    (tag ≡ tag_of Kind.buffer T) × (room ≡ n * size table U)
IsBlockFor table T (Form.flat_map U) n tag room =
    (tag ≡ tag_of Kind.buffer T) × (room ≡ n * (8 + size table U))
IsBlockFor table T (Form.list U) n tag room =
    (tag ≡ tag_of Kind.node T) × (room ≡ 8 + size table U)
IsBlockFor table T (Form.map U) n tag room =
    (tag ≡ tag_of Kind.node T) × (room ≡ map_words + size table U)
IsBlockFor table T (Form.own U) n tag room =
    (tag ≡ tag_of Kind.object U) × (room ≡ size table U)
IsBlockFor table T (Form.shared U) n tag room =
    (tag ≡ tag_of Kind.frozen U) × (room ≡ frozen_words + size table U)
IsBlockFor table T _ n tag room = ⊥

abbrev pub HasNodes : Form → Type 0
HasNodes (Form.list U) = ⊤
HasNodes (Form.map U) = ⊤
HasNodes _ = ⊥

-- a node of this tag and room
pub record IsNodeAt (bytes : List ℕ) (tag room node : ℕ) : Type 0 where
  pub is_block : IsBlock bytes node tag room
  pub among : 1 ≤ times (block_of node) (positions (live bytes))

-- a pointer in a list or a tree: the cell's, or one of the two at the start of a node
pub data IsLinkAt (bytes : List ℕ) (tag room cell : ℕ) : ℕ → Type 0 where
  of_cell : {at : ℕ} → at ≡ cell → IsLinkAt bytes tag room cell at
  of_node : {at : ℕ} → IsNodeAt bytes tag room at → IsLinkAt bytes tag room cell at
  of_right : (node : ℕ) → IsNodeAt bytes tag room node → IsLinkAt bytes tag room cell (node + 4)

-- an entry of the index is there
abbrev pub IsEntryAt : List ℕ → ℕ → Type 0
IsEntryAt bytes at = (index : Index) × OpensIndex bytes (word bytes index_kind_word) index ×
    (1 ≤ times at index.entries)

-- What a pointer must point to, if it isn't null: a block with this tag and room.
pub data MustPointTo (bytes : List ℕ) (table : Table) (at : ℕ) : ℕ → ℕ → Type 0 where
  -- the pointer to the buffer of a flat index
  to_entries : at ≡ index_cell → word bytes index_kind_word ≡ 0 →
      MustPointTo bytes table at (tag_of Kind.index_buffer 0) (count_at bytes at * 8)
  -- a pointer to a node of a tree index
  to_index_node : word bytes index_kind_word ≡ 1 →
      IsLinkAt bytes (tag_of Kind.index_node 0) index_node_size index_cell at →
      MustPointTo bytes table at (tag_of Kind.index_node 0) index_node_size
  -- the pointer to a type's unique object
  to_unique : (T : ℕ) → T < 32 → at ≡ unique_word T →
      MustPointTo bytes table at (tag_of Kind.object T) (size table T)
  -- the pointer of a value
  in_value : {tag room : ℕ} (T : ℕ) (form : Form) →
      LiesAt bytes table (record { at = at; type = T }) → form_at table T ≡ Some form →
      IsBlockFor table T form (count_at bytes at) tag room → MustPointTo bytes table at tag room
  -- a pointer in a node of a list or a map
  in_node : {tag room : ℕ} (cell T : ℕ) (form : Form) →
      LiesAt bytes table (record { at = cell; type = T }) → form_at table T ≡ Some form →
      HasNodes form → IsBlockFor table T form (count_at bytes cell) tag room →
      IsLinkAt bytes tag room cell at → MustPointTo bytes table at tag room

-- the room that the object of an entry needs for its values, of this type, and its name
abbrev pub entry_room : List ℕ → Table → ℕ → ℕ → ℕ
entry_room bytes table at T = half bytes (at + 4) * size table T + byte bytes (at + 6)

-- the same for the pointer of an entry, whose object may have any type
abbrev pub MayPointTo : List ℕ → Table → ℕ → ℕ → ℕ → Type 0
MayPointTo bytes table at tag room = MustPointTo bytes table at tag room ⊎
    (IsEntryAt bytes at × (T : ℕ) × (tag ≡ tag_of Kind.named T) ×
    (room ≡ entry_room bytes table at T))

-- The pointer is null, or it points to something else than an allocated block with the right tag
-- and enough room.
pub data LacksBlockAt (bytes : List ℕ) (table : Table) (at : ℕ) : Type 0 where
  lacks_block : (tag room : ℕ) → MustPointTo bytes table at tag room →
      (PointsTo bytes at tag room → ⊥) → LacksBlockAt bytes table at
  -- the pointer of an entry
  lacks_object : IsEntryAt bytes at → ((T : ℕ) → T < length table →
      PointsTo bytes at (tag_of Kind.named T) (entry_room bytes table at T) → ⊥) →
      LacksBlockAt bytes table at

-- ---- the index

-- an entry with this name, which its object has after n values
pub record HasEntryAt (bytes : List ℕ) (table : Table) (at : ℕ) (name : List ℕ) : Type 0 where
  pub type : ℕ
  pub n : ℕ
  pub points : PointsTo bytes at (tag_of Kind.named type) (n * size table type + length name)
  pub counted : half bytes (at + 4) ≡ n
  pub some : 1 ≤ n
  pub measured : byte bytes (at + 6) ≡ length name
  pub zero_is : byte bytes (at + 7) ≡ 0
  pub is_name : IsName name
  pub name_is : slice bytes (points.start + n * size table type) (length name) ≡ name

-- the name of the last of these entries, or the empty name without any
pub data IsLastName (bytes : List ℕ) (table : Table) : List ℕ → List ℕ → Type 0 where
  no_name : IsLastName bytes table [] []
  name_of_last : {name : List ℕ} (before : List ℕ) (entry : ℕ) → HasEntryAt bytes table entry name →
      IsLastName bytes table (before ++ entry ∷ []) name

-- the entries of the index are some entries, the last of which has this name, and then `rest`
pub record AreEntriesBefore (bytes : List ℕ) (table : Table) (entries rest name : List ℕ) :
    Type 0 where
  pub before : List ℕ
  pub entries_are : entries ≡ before ++ rest
  pub last : IsLastName bytes table before name

pub data LacksNameAt (bytes : List ℕ) (table : Table) (at : ℕ) : Type 0 where
  -- there is no flat or tree index of as many names
  as_index : at ≡ index_cell →
      ((index : Index) → OpensIndex bytes (word bytes index_kind_word) index →
      Within index.blocks (positions (live bytes)) → ⊥) →
      LacksNameAt bytes table at
  -- the entry has a wrong number, or its name is no name, or isn't above the name before it
  as_entry : (index : Index) (rest before : List ℕ) →
      OpensIndex bytes (word bytes index_kind_word) index →
      AreEntriesBefore bytes table index.entries (at ∷ rest) before →
      ((name : List ℕ) → HasEntryAt bytes table at name → Precedes before name → ⊥) →
      LacksNameAt bytes table at

-- ---- values

-- a cell counts more than one object, or points to something and counts nothing
abbrev pub IsWrongCount : List ℕ → ℕ → Type 0
IsWrongCount bytes at = (2 ≤ count_at bytes at) ⊎
    ((count_at bytes at ≡ 0) × (target bytes at ≡ None → ⊥))

-- the pointer isn't null, but there is no ring of as many nodes as the cell counts
pub record LacksRing (bytes : List ℕ) (at : ℕ) : Type 0 where
  pub names : target bytes at ≡ None → ⊥
  pub none : (nodes : List ℕ) → IsRing bytes (target bytes at) nodes →
      length nodes ≡ count_at bytes at → ⊥

-- The pointer isn't null, but there is no red-black tree of as many nodes as the cell counts, with
-- ascending keys and in allocated blocks.
pub record LacksTree (bytes : List ℕ) (at : ℕ) : Type 0 where
  pub names : target bytes at ≡ None → ⊥
  pub none : (tree : Tree) → IsTree bytes (target bytes at) tree → IsRedBlack tree →
      length (nodes_of tree) ≡ count_at bytes at →
      Within (map block_of (nodes_of tree)) (positions (live bytes)) →
      IsAscending (keys_at bytes (map (λ p. p + tree_words) (nodes_of tree))) → ⊥

-- A value of this form at a position is wrong, apart from what its pointers point to. A shared cell
-- that points to a frozen object is wrong if the object's number is too high.
abbrev pub IsWrongCell : List ℕ → Table → Form → ℕ → Type 0
IsWrongCell bytes table (Form.flat_map U) at =
    IsAscending (keys_at bytes
    (spaced (start bytes at) (8 + size table U) (count_at bytes at))) → ⊥
IsWrongCell bytes table (Form.list U) at = LacksRing bytes at
IsWrongCell bytes table (Form.map U) at = LacksTree bytes at
IsWrongCell bytes table (Form.own U) at = IsWrongCount bytes at
IsWrongCell bytes table (Form.shared U) at = IsWrongCount bytes at ⊎
    PointsTo bytes at (tag_of Kind.frozen U) (frozen_words + size table U)
IsWrongCell bytes table _ at = ⊥

pub data LacksValueAt (bytes : List ℕ) (table : Table) (at : ℕ) : Type 0 where
  in_cell : (T : ℕ) (form : Form) → LiesAt bytes table (record { at = at; type = T }) →
      form_at table T ≡ Some form → IsWrongCell bytes table form at →
      LacksValueAt bytes table at
  -- the payload of a frozen object whose count or number is wrong
  in_frozen : (block : ℕ) → at ≡ block + 16 → IsFrozen bytes block →
      1 ≤ times block (positions (live bytes)) →
      LacksValueAt bytes table at

-- ---- owners

pub record HasOwnerAt (bytes : List ℕ) (table : Table) (at : ℕ) : Type 0 where
  pub pointer : ℕ
  pub tag : ℕ
  pub room : ℕ
  pub may : MayPointTo bytes table pointer tag room
  pub points : PointsTo bytes pointer tag room
  pub at_is : at ≡ block_of points.start

-- ---- the statement of each fault

abbrev pub LacksAt : List ℕ → Table → ContentFault → Type 0
LacksAt bytes table Memory = ⊤
LacksAt bytes table (BadIndex at) = LacksNameAt bytes table at
LacksAt bytes table (BadPointer at) = LacksBlockAt bytes table at
LacksAt bytes table (DoubleOwner at) = HasOwnerAt bytes table at
LacksAt bytes table (BadValue at) = LacksValueAt bytes table at

-- the types are right, and the fault's statement is true with them
abbrev pub IsFaultAt : List ℕ → Fault → Type 0
IsFaultAt bytes (fault.BadIndex at) =
    (table : Table) × HasFront bytes table × LacksNameAt bytes table at
IsFaultAt bytes (fault.BadPointer at) =
    (table : Table) × HasFront bytes table × LacksBlockAt bytes table at
IsFaultAt bytes (fault.DoubleOwner at) =
    (table : Table) × HasFront bytes table × HasOwnerAt bytes table at
IsFaultAt bytes (fault.BadValue at) =
    (table : Table) × HasFront bytes table × LacksValueAt bytes table at
IsFaultAt bytes _ = ⊤
