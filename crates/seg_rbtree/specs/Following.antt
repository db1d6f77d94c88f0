-- From a place in a tree to the next node in order.
--     IsPartAt bytes path layers part      a subtree of a search tree is at the end of a path
--     LeadsInside bytes path               the path is valid in each search tree at its root
--     AlwaysGoesRight layers               the path always goes right
--     Climbs layers path node              the path goes up to the nearest node from which it went left
--     GoesToNextNode bytes layers part path next
--                                          the path goes to the first node after a place
use Rattle.std.specs.Prelude.{◌≡◌, ℕ, List, [], ◌∷◌, ◌++◌, slice_get, Option, Some, MatchOption}
use Rattle.std.specs.List.{AllByRecursion}
use Rattle.seg_spec.specs.Shapes.{Tree}
use Rattle.seg_spec.specs.Search.{IsSearchTree}
use Rattle.seg_rbtree.specs.declared.node.Side.TheVariants.{Left, Right}
use Rattle.seg_rbtree.specs.declared.path.Path.{Path}
use Rattle.seg_rbtree.specs.Ways.{Layer, plug, steps_of, IsWayIn, following, after_root}
use Rattle.seg_rbtree.specs.Paths.{node_at}

-- the subtree at the end of a path, below layers
pub record IsPartAt (bytes : List ℕ) (path : Path) (layers : List Layer) (part : Tree) :
    Type 0 where
  pub steps_are : path.steps.items ≡ steps_of layers
  pub whole : IsSearchTree bytes path.root (plug part layers)

abbrev pub LeadsInside : List ℕ → Path → Type 0
LeadsInside bytes path = (shape : Tree) → IsSearchTree bytes path.root shape → IsWayIn shape path

abbrev pub AlwaysGoesRight : List Layer → Type 0
AlwaysGoesRight layers = AllByRecursion (λ layer. layer.side ≡ Right) layers

-- the path goes up to the node of the nearest layer whose place is on its left side
pub record Climbs (layers : List Layer) (path : Path) (node : ℕ) : Type 0 where
  pub lower : List Layer
  pub layer : Layer
  pub upper : List Layer
  pub layers_are : layers ≡ lower ++ layer ∷ upper
  pub rightward : AlwaysGoesRight lower
  pub leftward : layer.side ≡ Left
  pub node_is : layer.at ≡ node
  pub steps_are : path.steps.items ≡ steps_of upper

-- From the place of a subtree below layers, a path goes to the first node after it: after the
-- subtree's root, or after the empty place. If no node is after it, the path goes to the root.
pub record GoesToNextNode (bytes : List ℕ) (layers : List Layer) (part : Tree) (path : Path)
    (next : Option ℕ) : Type 0 where
  pub next_is : next ≡ slice_get (after_root part ++ following layers) 0
  pub way : IsWayIn (plug part layers) path
  pub stands : MatchOption next (path.steps.items ≡ []) (λ node. node_at bytes path ≡ Some node)
