-- A change of the tree to which a pointer word points.
use Rattle.std.specs.Prelude.{ℕ, List}
use Rattle.seg_spec.specs.Pointer.{target}
use Rattle.seg_spec.specs.Shapes.{Tree, nodes_of, IsTree}
use Rattle.seg_rbtree.specs.Changes.{KeepsBeside}

-- The pointer word points to the tree `after`. All bytes outside that word and the nodes of the
-- tree `room` are kept.
pub record Turns (old new : List ℕ) (word : ℕ) (room after : Tree) : Type 0 where
  pub hangs : IsTree new (target new word) after
  pub kept : KeepsBeside old new word (nodes_of room)
