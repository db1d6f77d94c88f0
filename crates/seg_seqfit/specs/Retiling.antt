-- The pointer words of the free list, for tiles among which free ones may be adjacent.
use Rattle.std.specs.Prelude.{ℕ, ◌+◌, List, [], ◌∷◌, if◌then◌else◌}
use Rattle.seg_spec.specs.Heap.{Tile}
use Rattle.seg_ptr.specs.declared.header.TheConstants.{FREE}
use Rattle.seg_block.specs.declared.header.TheConstants.{LINK}

-- the position of the pointer word that points to the first free tile after these, in a list that
-- begins at a pointer word
abbrev pub link_past : ℕ → List Tile → ℕ
link_past at [] = at
link_past at (t ∷ ts) = link_past (if t.live then at else t.at + LINK) ts

-- the same, in the heap's list
abbrev pub link_to : List Tile → ℕ
link_to ts = link_past FREE ts
