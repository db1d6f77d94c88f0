-- Blocks that wait to be destroyed, and what is freed with each. A waiting block shows this itself:
-- by its values, and for a node by the pointers to further nodes. Each entry for which a buffer has
-- room is a value, and has null pointers if it is unused. See `Destroying`.
--     OpensBlock bytes table p kind T form values links
--                                         what a waiting block shows: the places of its values, and the
--                                         pointer words to further nodes
--     Owes bytes table p blocks names     the block with payload p is freed with `blocks`: itself, those
--                                         that its values own, and the nodes after it; their shared cells
--                                         point to the positions `names`
--     Waits bytes table first blocks names
--                                         a list of waiting blocks through their links, with all that is
--                                         freed with them
--     KeepsLinked old new h               the block is kept, with its payload, its size and its link
use Rattle.std.specs.Prelude.{◌≡◌, ℕ, ◌+◌, ◌/◌, ◌⊎◌, ⊤, List, [], ◌∷◌, ◌++◌, map, Option, Some, None}
use Rattle.seg_spec.specs.Pointer.{target}
use Rattle.seg_spec.specs.Types.{Form, Table, form_at, size}
use Rattle.seg_spec.specs.Value.{Value}
use Rattle.seg_spec.specs.Heap.{link_at}
use Rattle.seg_spec.specs.Block.{Kind, tag_of, IsBlock, KeepsBlock, block_of, payload_size}
use Rattle.seg_spec.specs.Reads.{Place, spaced, places_of, Holds, map_words}
use Rattle.seg_spec.specs.Cells.{EachCell}
use Rattle.seg_spec.specs.Shared.{named_in}
use Rattle.seg_spec.specs.Frozen.{frozen_words}

-- the cell's pointer is null
abbrev pub NamesNothing : List ℕ → ℕ → Option Form → Type 0
NamesNothing bytes at (Some Form.i64) = ⊤
NamesNothing bytes at _ = target bytes at ≡ None

-- A value of a waiting block owns `blocks`, and its shared cells point to `names`. Or its pointers
-- are all null, as in an unused entry.
abbrev pub IsPart : List ℕ → Table → Place → List ℕ → List ℕ → Type 0
IsPart bytes table place blocks names =
    ((v : Value) × Holds bytes table place v blocks × (names ≡ named_in v)) ⊎
    (EachCell table place.type (λ d form. NamesNothing bytes (place.at + d) form) ×
    (blocks ≡ []) × (names ≡ []))

-- the values of a block, each with its blocks and its targets
pub data AreParts (bytes : List ℕ) (table : Table) :
    List Place → List ℕ → List ℕ → Type 0 where
  no_parts : AreParts bytes table [] [] []
  more_parts : {place : Place} {places : List Place} {blocks rest names others : List ℕ} →
      IsPart bytes table place blocks names → AreParts bytes table places rest others →
      AreParts bytes table (place ∷ places) (blocks ++ rest) (names ++ others)

-- the values of n entries from a position on, each after `before` bytes
abbrev pub entries_at : Table → ℕ → ℕ → ℕ → ℕ → List Place
entries_at table start before U n =
    places_of U (map (λ q. q + before) (spaced start (before + size table U) n))

-- the values of all entries for which a block has room
abbrev pub entries_of : List ℕ → Table → ℕ → ℕ → ℕ → List Place
entries_of bytes table p before U =
    entries_at table p before U (payload_size bytes (block_of p) / (before + size table U))

-- what a block of a kind and a type shows: its values, and the pointer words to further nodes
abbrev pub OpensBlock :
    List ℕ → Table → ℕ → Kind → ℕ → Option Form → List Place → List ℕ → Type 0
OpensBlock bytes table p Kind.object T form values links =
    IsBlock bytes p (tag_of Kind.object T) (size table T) ×
    (values ≡ record { at = p; type = T } ∷ []) × (links ≡ [])
OpensBlock bytes table p Kind.buffer T (Some Form.str) values links =
    IsBlock bytes p (tag_of Kind.buffer T) 0 × (values ≡ []) × (links ≡ [])
OpensBlock bytes table p Kind.buffer T (Some (Form.vec U)) values links =
    IsBlock bytes p (tag_of Kind.buffer T) 0 ×
    (values ≡ entries_of bytes table p 0 U) × (links ≡ [])
OpensBlock bytes table p Kind.buffer T (Some (Form.flat_map U)) values links =
    IsBlock bytes p (tag_of Kind.buffer T) 0 ×
    (values ≡ entries_of bytes table p 8 U) × (links ≡ [])
OpensBlock bytes table p Kind.node T (Some (Form.list U)) values links =
    IsBlock bytes p (tag_of Kind.node T) (8 + size table U) ×
    (values ≡ record { at = p + 8; type = U } ∷ []) × (links ≡ p ∷ [])
OpensBlock bytes table p Kind.node T (Some (Form.map U)) values links =
    IsBlock bytes p (tag_of Kind.node T) (map_words + size table U) ×
    (values ≡ record { at = p + map_words; type = U } ∷ []) × (links ≡ p ∷ (p + 4) ∷ [])
OpensBlock bytes table p Kind.frozen T form values links =
    IsBlock bytes p (tag_of Kind.frozen T) (frozen_words + size table T) ×
    (values ≡ record { at = p + frozen_words; type = T } ∷ []) × (links ≡ [])
OpensBlock bytes table p _ T _ values links = ⊥

mutual
  -- the block, the blocks that its values own, and the blocks of the nodes to which it links
  pub data Owes (bytes : List ℕ) (table : Table) : ℕ → List ℕ → List ℕ → Type 0 where
    owes : {p : ℕ} {blocks names : List ℕ} (kind : Kind) (T : ℕ) (values : List Place)
        (links : List ℕ) (xs ys ns ms : List ℕ) →
        OpensBlock bytes table p kind T (form_at table T) values links →
        AreParts bytes table values xs ns → OwesLinks bytes table links ys ms →
        blocks ≡ block_of p ∷ (xs ++ ys) → names ≡ ns ++ ms → Owes bytes table p blocks names

  -- each of these pointer words is null, or points to a node that is freed with its blocks
  pub data OwesLinks (bytes : List ℕ) (table : Table) :
      List ℕ → List ℕ → List ℕ → Type 0 where
    no_links : OwesLinks bytes table [] [] []
    null_link : {at : ℕ} {ats ys ms : List ℕ} → target bytes at ≡ None →
        OwesLinks bytes table ats ys ms → OwesLinks bytes table (at ∷ ats) ys ms
    node_link : {at : ℕ} {ats xs ys ns ms : List ℕ} (p : ℕ) → target bytes at ≡ Some p →
        Owes bytes table p xs ns → OwesLinks bytes table ats ys ms →
        OwesLinks bytes table (at ∷ ats) (xs ++ ys) (ns ++ ms)

-- a list of waiting blocks, through their links
pub data Waits (bytes : List ℕ) (table : Table) : Option ℕ → List ℕ → List ℕ → Type 0 where
  none_waits : Waits bytes table None [] []
  waits : {p : ℕ} {xs ys ns ms : List ℕ} (next : Option ℕ) → Owes bytes table p xs ns →
      link_at bytes (block_of p) ≡ next → Waits bytes table next ys ms →
      Waits bytes table (Some p) (xs ++ ys) (ns ++ ms)

-- ---- blocks that keep their size

-- the block is kept, with its payload and its size
pub record KeepsWhole (old new : List ℕ) (h : ℕ) : Type 0 where
  pub kept : KeepsBlock old new h
  pub size_kept : payload_size new h ≡ payload_size old h

pub record KeepsLinked (old new : List ℕ) (h : ℕ) : Type 0 where
  pub whole : KeepsWhole old new h
  pub link_kept : link_at new h ≡ link_at old h
