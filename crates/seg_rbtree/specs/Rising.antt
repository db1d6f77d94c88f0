-- Repairing a red node below a red node, after an insertion.
--     IsRising bytes root steps nodes node      it is a red-black tree, except that this red node may have a red parent
--     IsSettled bytes root nodes                the pointer word points to a red-black tree of these nodes
--     Settles old new root steps rest nodes result      one step: the tree is repaired, or another red node may have a red parent
use Rattle.std.specs.Prelude.{◌≡◌, ℕ, ◌+◌, ◌≤◌, List, length, Option, MatchOption}
use Rattle.seg_spec.specs.Pointer.{target}
use Rattle.seg_spec.specs.Shapes.{red, Tree, fork, nodes_of, IsTree, IsBalanced, IsRedBlack}
use Rattle.seg_rbtree.specs.declared.step.Step.{Step}
use Rattle.seg_rbtree.specs.Ways.{Layer, plug, steps_of}
use Rattle.seg_rbtree.specs.Changes.{StandApart, KeepsBeside}
use Rattle.seg_rbtree.specs.Balance.{Wants}

-- The steps end at a red node. The tree is a red-black tree, except that the node's parent may be
-- red, or that the node is the root.
pub record IsRising (bytes : List ℕ) (root : ℕ) (steps : List Step) (nodes : List ℕ)
    (node : ℕ) : Type 0 where
  pub layers : List Layer
  pub left : Tree
  pub right : Tree
  pub steps_are : steps ≡ steps_of layers
  pub hangs : IsTree bytes (target bytes root) (plug (fork left node red right) layers)
  pub nodes_are : nodes_of (plug (fork left node red right) layers) ≡ nodes
  pub apart : StandApart (length bytes) root nodes
  pub height : ℕ
  pub balanced : IsBalanced (fork left node red right) height
  pub wants : Wants layers height

pub record IsSettled (bytes : List ℕ) (root : ℕ) (nodes : List ℕ) : Type 0 where
  pub shape : Tree
  pub hangs : IsTree bytes (target bytes root) shape
  pub nodes_are : nodes_of shape ≡ nodes
  pub red_black : IsRedBlack shape

-- one step: the tree is repaired, or a red node two steps further up may have a red parent
pub record Settles (old new : List ℕ) (root : ℕ) (steps rest : List Step) (nodes : List ℕ)
    (result : Option ℕ) : Type 0 where
  pub kept : KeepsBeside old new root nodes
  pub rises : MatchOption result (IsSettled new root nodes)
      (λ up. IsRising new root rest nodes up × (length rest + 2 ≤ length steps))
