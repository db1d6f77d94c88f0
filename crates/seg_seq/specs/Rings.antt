-- Rings of nodes, to which the cell of a list points. Each node begins with a pointer to the next
-- and one to the previous node.
--     coupled bytes x y                   the bytes after y was made the node after x
--     AreSpread bytes places              the 8 bytes at these positions don't overlap
--     ChangesAt old new places            only the 8 bytes at each of these positions changed
--     HasRing bytes cell nodes            the cell points to these nodes and counts them
--     Relinks old new cell nodes others   the ring was replaced by another, and nothing else changed
--     link_of way node                    the pointer word of a node to its neighbour
--     around way n i steps                the index at a distance from index i in a ring of n nodes
use Rattle.std.specs.Prelude.{◌≡◌, ℕ, ◌+◌, ◌-◌, ◌%◌, ◌^◌, ◌≤◌, nat_le, nat_lt, if◌then◌else◌, List, ◌∷◌, length, Some}
use Rattle.std.specs.List.{AllByRecursion}
use Rattle.seg_spec.specs.Bytes.{IsSame}
use Rattle.seg_spec.specs.Pointer.{target, set_pointer}
use Rattle.seg_spec.specs.Apart.{Separate}
use Rattle.seg_spec.specs.Reads.{count_at}
use Rattle.seg_spec.specs.Shapes.{IsRing}
use Rattle.seg_spec.specs.Sound.{times}
use Rattle.seg_seq.specs.declared.ring.Way.{Way}
use Rattle.seg_seq.specs.declared.ring.Way.TheVariants as way

-- the bytes after x and y were coupled: x points to y as the next node, and y to x as the previous
-- one
abbrev pub coupled : List ℕ → ℕ → ℕ → List ℕ
coupled bytes x y = set_pointer (set_pointer bytes x (Some y)) (y + 4) (Some x)

-- At each of these positions are the 8 bytes of a cell or of a node's pointers. They lie in a
-- segment, and don't overlap.
pub record AreSpread (bytes : List ℕ) (places : List ℕ) : Type 0 where
  pub small : length bytes ≤ 2 ^ 30
  pub few : length places ≤ length bytes
  pub fit : AllByRecursion (λ p. (p % 8 ≡ 0) × (p + 8 ≤ length bytes)) places
  pub once : (h : ℕ) → times h places ≤ 1

pub record ChangesAt (old new : List ℕ) (places : List ℕ) : Type 0 where
  pub length_kept : length new ≡ length old
  pub others : (q m : ℕ) → AllByRecursion (λ p. Separate q m p 8) places → IsSame old new q m

-- the cell points to a ring of these nodes, and counts them
pub record HasRing (bytes : List ℕ) (cell : ℕ) (nodes : List ℕ) : Type 0 where
  pub ring : IsRing bytes (target bytes cell) nodes
  pub counted : length nodes ≡ count_at bytes cell

-- the cell's ring now has these nodes, and nothing else changed
pub record Relinks (old new : List ℕ) (cell : ℕ) (nodes others : List ℕ) : Type 0 where
  pub changes : ChangesAt old new (cell ∷ nodes)
  pub ring : HasRing new cell others

-- the pointer word of a node to its neighbour
abbrev pub link_of : Way → ℕ → ℕ
link_of way.Forward node = node
link_of way.Backward node = (node + 4) % 2 ^ 32

-- the index after `steps` steps, of which there are at most n
abbrev pub around : Way → ℕ → ℕ → ℕ → ℕ
around way.Forward n i steps = if nat_lt (i + steps) n then i + steps else i + steps - n
around way.Backward n i steps = if nat_le steps i then i - steps else i + n - steps
