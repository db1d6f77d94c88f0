-- Removing a node from a tree. A subtree is *short* if it has one black node too few on each path,
-- so that the whole tree isn't balanced.
--     IsShort layers tree                 the subtree is short
--     turns layers tree                   an upper bound on the steps that repair a short subtree
--     StandsAt bytes path layers tree     the subtree is at the end of a path
--     WhereRedBlack bytes path layers tree claim      the claim is true if the whole tree is a red-black tree
--     Lengthens, Unlinks ..               the steps of a removal
use Rattle.std.specs.Prelude.{◌≡◌, ℕ, suc, ◌+◌, ◌^◌, ◌<◌, ⊤, Bool, MatchBool, List, [], ◌∷◌, ◌++◌, length, Option, Some}
use Rattle.seg_spec.specs.Bytes.{set_word}
use Rattle.seg_spec.specs.Pointer.{target}
use Rattle.seg_spec.specs.Shapes.{Colour, black, red, Tree, leaf, fork, nodes_of, IsTree, IsBalanced, IsRedBlack}
use Rattle.seg_rbtree.specs.declared.node.Side.{Side}
use Rattle.seg_rbtree.specs.declared.node.Side.TheVariants.{Left, Right}
use Rattle.seg_rbtree.specs.declared.node.Colour.{Colour as Tint}
use Rattle.seg_rbtree.specs.declared.node.Colour.TheVariants.{Black, Red}
use Rattle.seg_rbtree.specs.declared.path.Path.{Path}
use Rattle.seg_rbtree.specs.Nodes.{colour_at, with_child, with_colour}
use Rattle.seg_rbtree.specs.Changes.{StandApart}
use Rattle.seg_rbtree.specs.Ways.{Layer, branch, plug, steps_of}
use Rattle.seg_rbtree.specs.Turns.{Turns}
use Rattle.seg_rbtree.specs.Balance.{height_above, Wants}

-- each path has h black nodes; a red root may have red children
abbrev pub IsNearly : Tree → ℕ → Type 0
IsNearly leaf h = h ≡ 0
IsNearly (fork left at black right) h = IsBalanced (fork left at black right) h
IsNearly (fork left at red right) h = IsBalanced left h × IsBalanced right h

-- the number of black nodes above a place
abbrev pub blacks : List Layer → ℕ
blacks [] = 0
blacks (l ∷ ls) = height_above l.colour (blacks ls)

-- the subtree at the place has one black node too few on each path
pub record IsShort (layers : List Layer) (tree : Tree) : Type 0 where
  pub height : ℕ
  pub wanted : Wants layers (suc height)
  pub nearly : IsNearly tree height
  pub low : blacks layers + height < 32

-- an upper bound on the steps for a short subtree, if the innermost layer has this colour
abbrev pub turns_over : Colour → List Layer → ℕ
turns_over black layers = blacks layers + 3
turns_over red layers = 2

abbrev pub turns_above : List Layer → ℕ
turns_above [] = 1
turns_above (layer ∷ layers) = turns_over layer.colour layers

abbrev pub turns : List Layer → Tree → ℕ
turns layers leaf = turns_above layers
turns layers (fork left at black right) = turns_above layers
turns layers (fork left at red right) = 1

-- the path always goes left
abbrev pub AreLeft : List Layer → Type 0
AreLeft [] = ⊤
AreLeft (layer ∷ layers) = (layer.side ≡ Left) × AreLeft layers

-- the nodes without one of them
pub record Loses (node : ℕ) (old new : List ℕ) : Type 0 where
  pub front : List ℕ
  pub back : List ℕ
  pub old_is : old ≡ front ++ node ∷ back
  pub new_is : new ≡ front ++ back

abbrev pub layer_at : Side → ℕ → Colour → Tree → Layer
layer_at side at colour other = record { side = side; at = at; colour = colour; other = other }

-- the bytes after the children and the colour of a node were copied to another node
abbrev pub in_place_of : List ℕ → ℕ → ℕ → List ℕ
in_place_of bytes from to =
    let left = with_child bytes to Left (target bytes from) in
    let both = with_child left to Right (target bytes (from + 4)) in
    with_colour both to (colour_at bytes (Some from))

-- the same, and the other node's zero word was written
abbrev pub as_another : List ℕ → ℕ → ℕ → List ℕ
as_another bytes from to = set_word (in_place_of bytes from to) (to + 12) 0

-- the subtree is at the end of a path, below layers
pub record StandsAt (bytes : List ℕ) (path : Path) (layers : List Layer)
    (tree : Tree) : Type 0 where
  pub steps_are : path.steps.items ≡ steps_of layers
  pub hangs : IsTree bytes (target bytes path.root) (plug tree layers)
  pub apart : StandApart (length bytes) path.root (nodes_of (plug tree layers))

-- the claim is true if the whole tree is a red-black tree, and has no more nodes than a segment
abbrev pub WhereRedBlack : List ℕ → Path → List Layer → Tree → Type 0 → Type 0
WhereRedBlack bytes path layers tree claim =
    StandsAt bytes path layers tree → IsRedBlack (plug tree layers)
    → length (nodes_of (plug tree layers)) < 2 ^ 32 → claim

-- the tree after a node of this colour was removed
abbrev pub IsLeft : Tint → List Layer → Tree → Type 0
IsLeft Black layers tree = IsShort layers tree
IsLeft Red layers tree = IsRedBlack (plug tree layers)

-- A node was unlinked from a tree, which may then be short at the end of the path.
pub record Unlinks (old new : List ℕ) (path : Path) (layers : List Layer) (tree : Tree) (node : ℕ)
    (gone : Tint) : Type 0 where
  pub above : List Layer
  pub part : Tree
  pub steps_are : path.steps.items ≡ steps_of above
  pub turned : Turns old new path.root (plug tree layers) (plug part above)
  pub lost : Loses node (nodes_of (plug tree layers)) (nodes_of (plug part above))
  pub state : IsLeft gone above part

-- A short subtree was repaired, or another subtree is now short, which takes fewer steps to repair.
pub record Lengthens (old new : List ℕ) (path : Path) (layers : List Layer) (tree : Tree)
    (more : Bool) : Type 0 where
  pub above : List Layer
  pub part : Tree
  pub turned : Turns old new path.root (plug tree layers) (plug part above)
  pub nodes_are : nodes_of (plug part above) ≡ nodes_of (plug tree layers)
  pub state : MatchBool more
      (IsShort above part × (path.steps.items ≡ steps_of above)
      × (turns above part < turns layers tree))
      (IsRedBlack (plug part above))

-- from a place below layers, a path goes to the first node of the subtree
pub record Descends (path : Path) (layers : List Layer) (tree : Tree)
    (result : Option ℕ) : Type 0 where
  pub lower : List Layer
  pub next : ℕ
  pub tint : Colour
  pub only : Tree
  pub result_is : result ≡ Some next
  pub tree_is : tree ≡ plug (fork leaf next tint only) lower
  pub leftward : AreLeft lower
  pub steps_are : path.steps.items ≡ steps_of (lower ++ layers)

-- the sibling moved up and became black, and the path goes to the subtree beside it
pub record Lowers (old new : List ℕ) (path : Path) (side : Side) (node sibling : ℕ)
    (colour other : Colour) (layers : List Layer) (tree inner outer : Tree) : Type 0 where
  pub turned : Turns old new path.root
      (plug (branch side node colour tree (branch side sibling other inner outer)) layers)
      (plug (branch side sibling black (branch side node red tree inner) outer) layers)
  pub steps_are : path.steps.items
      ≡ steps_of (layer_at side node red inner ∷ layer_at side sibling black outer ∷ layers)

-- the sibling of a subtree moved up in the colour of their parent, which moved down and became
-- black
abbrev pub ComesUp : List ℕ → List ℕ → ℕ → Side → ℕ → ℕ → Colour → Colour → List Layer
    → Tree → Tree → Tree → Type 0
ComesUp old new root side node up colour other layers tree inner outer =
    Turns old new root
    (plug (branch side node colour tree (branch side up other inner outer)) layers)
    (plug (branch side up colour (branch side node black tree inner) outer) layers)

-- the tree is a red-black tree again
pub record Restores (old new : List ℕ) (root : ℕ) (whole : Tree) : Type 0 where
  pub shape : Tree
  pub turned : Turns old new root whole shape
  pub nodes_are : nodes_of shape ≡ nodes_of whole
  pub red_black : IsRedBlack shape
