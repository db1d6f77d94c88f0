-- Searches in a tree, and changes at the end of a path.
--     WhereOrdered compare bytes root claim  the claim is true of each search tree at a pointer word whose nodes are in order
--     before_first found                     how the empty place before all nodes at or above a key compares with a node
--     sought_by nodes key sought             how the sought node or key compares with a node
--     end_word path, word_after steps path   the position of the pointer at the end of a path, and after some of its steps
--     node_at bytes path                     the node at the end of a path
--     AddsAt old new path node               a node was added at the end of a path
--     TakesOutAt old new path                the node at the end of a path was removed
--     RenamesAt old new path to              the node at the end of a path was replaced by another
--     IsAmong node nodes                     the node is one of the nodes
--     IsLastAt bytes path                    the node at the end of a path is the last of the tree
--     TellsLast bytes path is_last           `is_last` states whether it is the last, in a tree whose nodes are in order
--     FindsEqual compare nodes found         a node that compares as equal, if there is one
use Rattle.std.specs.Prelude.{◌≡◌, ◌≢◌, ◌↔◌, ℕ, List, [], ◌∷◌, ◌++◌, ◌+◌, ◌<◌, ◌^◌, length, take, Bool, IsTrue, Option, Some, MatchOption}
use Rattle.std.specs.Cmp.{IsTotalOrder}
use Rattle.std.specs.List.{AllByRecursion}
use Rattle.std.specs.Ordering.{ordering_reverse}
use Rattle.std.specs.declared.cmp.Ordering.{Ordering}
use Rattle.std.specs.declared.cmp.Ordering.TheVariants.{Less, Equal, Greater}
use Rattle.seg_spec.specs.Pointer.{target}
use Rattle.seg_spec.specs.Shapes.{Tree, nodes_of}
use Rattle.seg_spec.specs.Search.{Ascend, IsSearchTree}
use Rattle.seg_rbtree.specs.declared.order.Sought.{Sought}
use Rattle.seg_rbtree.specs.declared.order.Sought.TheVariants.{Node, Key, First}
use Rattle.seg_rbtree.specs.declared.path.Path.{Path}
use Rattle.seg_rbtree.specs.Ways.{last_word, LeadsTo}
use Rattle.seg_rbtree.specs.Changes.{StandApart, IsNew, with_node, without_node, renamed, Leaves}

abbrev pub WhereOrdered : (List ℕ → ℕ → ℕ → Ordering) → List ℕ → ℕ → (Tree → Type 0) → Type 0
WhereOrdered compare bytes root claim =
    (shape : Tree) → IsSearchTree bytes root shape → Ascend (compare bytes) (nodes_of shape)
    → claim shape

-- how the empty place before all nodes at or above a key compares with a node, by how the node
-- compares with the key
abbrev pub before_first : Ordering → Ordering
before_first Less = Greater
before_first Equal = Less
before_first Greater = Less

abbrev pub sought_by : {K : Type 0} → (ℕ → ℕ → Ordering) → (ℕ → K → Ordering) → Sought K
    → ℕ → Ordering
sought_by nodes key (Node sought) x = nodes sought x
sought_by nodes key (Key sought) x = ordering_reverse (key x sought)
sought_by nodes key (First sought) x = before_first (key x sought)

abbrev pub end_word : Path → ℕ
end_word path = last_word path.root path.steps.items

abbrev pub word_after : ℕ → Path → ℕ
word_after steps path = last_word path.root (take steps path.steps.items)

abbrev pub node_at : List ℕ → Path → Option ℕ
node_at bytes path = target bytes (end_word path)

-- the node is one of the nodes, and compares as equal
pub record IsEqualAmong (compare : ℕ → Ordering) (nodes : List ℕ) (node : ℕ) : Type 0 where
  pub front : List ℕ
  pub back : List ℕ
  pub nodes_are : nodes ≡ front ++ node ∷ back
  pub equals : compare node ≡ Equal

abbrev pub FindsEqual : (ℕ → Ordering) → List ℕ → Option ℕ → Type 0
FindsEqual compare nodes found =
    MatchOption found (AllByRecursion (λ x. compare x ≢ Equal) nodes)
    (λ node. IsEqualAmong compare nodes node)

abbrev pub IsAmong : ℕ → List ℕ → Type 0
IsAmong node nodes = AllByRecursion (λ x. node ≢ x) nodes → ⊥

-- the node is the last of the nodes
pub record IsLast (node : ℕ) (nodes : List ℕ) : Type 0 where
  pub front : List ℕ
  pub nodes_are : nodes ≡ front ++ node ∷ []

abbrev pub IsLastAt : List ℕ → Path → Type 0
IsLastAt bytes path = (turn : ℕ → Ordering) (node : ℕ) (shape : Tree)
    → IsSearchTree bytes path.root shape → LeadsTo turn shape path
    → node_at bytes path ≡ Some node → IsLast node (nodes_of shape)

-- `is_last` states whether the node at the end of a path is the last of the tree, in any total
-- order of the nodes. Without an order one node may occur several times.
abbrev pub TellsLast : List ℕ → Path → Bool → Type 0
TellsLast bytes path is_last = (turn : ℕ → Ordering) (order : ℕ → ℕ → Ordering) (node : ℕ)
    (shape : Tree) → IsTotalOrder order → IsSearchTree bytes path.root shape
    → Ascend order (nodes_of shape) → LeadsTo turn shape path → node_at bytes path ≡ Some node
    → IsTrue is_last ↔ IsLast node (nodes_of shape)

-- a node was added at the end of a path, in any total order for which the end is the node's place
abbrev pub AddsAt : List ℕ → List ℕ → Path → ℕ → Type 0
AddsAt old new path node = (order : ℕ → ℕ → Ordering) (shape : Tree) → IsTotalOrder order
    → IsSearchTree old path.root shape → Ascend order (nodes_of shape)
    → LeadsTo (order node) shape path → IsNew order node (nodes_of shape)
    → StandApart (length old) path.root (node ∷ nodes_of shape)
    → length (nodes_of shape) + 1 < 2 ^ 32
    → Leaves old new path.root (node ∷ nodes_of shape) (with_node order node (nodes_of shape))

abbrev pub TakesOutAt : List ℕ → List ℕ → Path → Type 0
TakesOutAt old new path = (turn : ℕ → Ordering) (node : ℕ) (shape : Tree)
    → IsSearchTree old path.root shape → LeadsTo turn shape path
    → node_at old path ≡ Some node
    → StandApart (length old) path.root (nodes_of shape)
    → Leaves old new path.root (nodes_of shape) (without_node node (nodes_of shape))

-- The node at the end of a path was replaced by another, whose words may only overlap the replaced
-- node's words.
abbrev pub RenamesAt : List ℕ → List ℕ → Path → ℕ → Type 0
RenamesAt old new path to = (turn : ℕ → Ordering) (node : ℕ) (shape : Tree)
    → IsSearchTree old path.root shape → LeadsTo turn shape path
    → node_at old path ≡ Some node
    → StandApart (length old) path.root (nodes_of shape)
    → StandApart (length old) path.root (renamed node to (nodes_of shape))
    → Leaves old new path.root (renamed node to (nodes_of shape))
    (renamed node to (nodes_of shape))
