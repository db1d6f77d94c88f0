-- Paths in a tree. A place in a tree is given by the layers above it, the innermost first. A layer
-- is a node above the place, with the side of the place and the subtree on the other side. So `plug
-- tree layers` is the whole tree with a subtree at the place.
--     branch side at colour near far      a node with the subtree `near` on a side, and `far` on the other
--     Layer                               a node above a place: the place's side of it, and the subtree on its other side
--     plug tree layers                    the whole tree, with a subtree at the place below these layers
--     place root layers                   the position of the pointer to the place
--     steps_of layers                     the layers as the steps of a path, the outermost first
--     last_word root steps                the position of the pointer after the last step
--     LeadsTo turn shape path             the path ends at the sought node or key, or at the empty place to insert it at
--     IsWayIn shape path                  the path is in the tree
--     before layers, following layers     the nodes before and after a place
--     after_root tree                     the nodes of a tree after its root
use Rattle.std.specs.Prelude.{◌≡◌, ℕ, ⊤, List, [], ◌∷◌, ◌++◌}
use Rattle.std.specs.List.{AllByRecursion}
use Rattle.std.specs.declared.cmp.Ordering.{Ordering}
use Rattle.std.specs.declared.cmp.Ordering.TheVariants.{Less, Equal, Greater}
use Rattle.seg_spec.specs.Shapes.{Colour, Tree, leaf, fork, nodes_of}
use Rattle.seg_rbtree.specs.declared.node.Side.{Side}
use Rattle.seg_rbtree.specs.declared.node.Side.TheVariants.{Left, Right}
use Rattle.seg_rbtree.specs.declared.step.Step.{Step}
use Rattle.seg_rbtree.specs.declared.path.Path.{Path}
use Rattle.seg_rbtree.specs.Nodes.{side_word}

abbrev pub branch : Side → ℕ → Colour → Tree → Tree → Tree
branch Left at colour near far = fork near at colour far
branch Right at colour near far = fork far at colour near

pub record Layer : Type 0 where
  pub side : Side
  pub at : ℕ
  pub colour : Colour
  pub other : Tree

-- a layer together with the subtree below it
abbrev pub grow : Layer → Tree → Tree
grow layer tree = branch layer.side layer.at layer.colour tree layer.other

abbrev pub plug : Tree → List Layer → Tree
plug tree [] = tree
plug tree (layer ∷ layers) = plug (grow layer tree) layers

abbrev pub place : ℕ → List Layer → ℕ
place root [] = root
place root (layer ∷ layers) = side_word layer.at layer.side

-- a layer as a step of a path
abbrev pub step_of : Layer → Step
step_of layer = record { node = layer.at; side = layer.side }

abbrev pub steps_of : List Layer → List Step
steps_of [] = []
steps_of (layer ∷ layers) = steps_of layers ++ step_of layer ∷ []

abbrev pub last_word : ℕ → List Step → ℕ
last_word root [] = root
last_word root (step ∷ steps) = last_word (side_word step.node step.side) steps

-- how a sought node or key on this side of a node compares with the node
abbrev pub turn_of : Side → Ordering
turn_of Left = Less
turn_of Right = Greater

-- at each layer the path goes to the side of the sought node or key
abbrev pub LeadBy : (ℕ → Ordering) → List Layer → Type 0
LeadBy turn layers = AllByRecursion (λ layer. turn layer.at ≡ turn_of layer.side) layers

-- the place is empty, or its node equals the sought node or key
abbrev pub EndsAt : (ℕ → Ordering) → Tree → Type 0
EndsAt turn leaf = ⊤
EndsAt turn (fork left at colour right) = turn at ≡ Equal

-- The path ends at the sought node or key, or at the empty place to insert it at. `turn` compares
-- the sought node or key with a node. This doesn't depend on bytes: the path stays valid as long as
-- the nodes compare the same.
pub record LeadsTo (turn : ℕ → Ordering) (shape : Tree) (path : Path) : Type 0 where
  pub layers : List Layer
  pub rest : Tree
  pub shape_is : plug rest layers ≡ shape
  pub steps_are : path.steps.items ≡ steps_of layers
  pub leads : LeadBy turn layers
  pub ends : EndsAt turn rest

-- the path is in the tree, with any subtree at its end
pub record IsWayIn (shape : Tree) (path : Path) : Type 0 where
  pub layers : List Layer
  pub rest : Tree
  pub shape_is : plug rest layers ≡ shape
  pub steps_are : path.steps.items ≡ steps_of layers

-- the nodes of a layer before the place below it, and those after it
unfoldable pub nodes_before : Side → Tree → ℕ → List ℕ
nodes_before Left other at = []
nodes_before Right other at = nodes_of other ++ at ∷ []

unfoldable pub nodes_after : Side → Tree → ℕ → List ℕ
nodes_after Left other at = at ∷ nodes_of other
nodes_after Right other at = []

-- the nodes of a tree before a place, and those after it
unfoldable pub before : List Layer → List ℕ
before [] = []
before (l ∷ ls) = before ls ++ nodes_before l.side l.other l.at

unfoldable pub following : List Layer → List ℕ
following [] = []
following (l ∷ ls) = nodes_after l.side l.other l.at ++ following ls

abbrev pub after_root : Tree → List ℕ
after_root leaf = []
after_root (fork left at colour right) = nodes_of right
