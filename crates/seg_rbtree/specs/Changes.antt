-- How a change of a tree affects its nodes and the bytes. A node is given by the position of its 16
-- tree words.
--     StandApart len word nodes          a pointer word and nodes lie in len bytes, and don't overlap
--     IsNew order node nodes             the node equals none of the nodes
--     with_node order node nodes         the nodes with one more, before the first that is above it
--     without_node node nodes            the nodes without that one
--     renamed old new nodes              the nodes with one replaced by another
--     KeepsBeside old new word nodes     all bytes are kept, except a pointer word and the tree words of nodes
--     Leaves old new root touched nodes  a search tree of these nodes; all bytes outside it and outside the touched
--                                        nodes are kept
use Rattle.std.specs.Prelude.{◌≡◌, ◌≢◌, ℕ, ◌+◌, ◌^◌, ◌≤◌, ◌==◌, if◌then◌else◌, ⊤, List, [], ◌∷◌, length}
use Rattle.std.specs.Ordering.{is_lt}
use Rattle.std.specs.List.{AllByRecursion}
use Rattle.std.specs.declared.cmp.Ordering.{Ordering}
use Rattle.std.specs.declared.cmp.Ordering.TheVariants.{Equal}
use Rattle.seg_spec.specs.Bytes.{IsSame}
use Rattle.seg_spec.specs.Apart.{Separate}
use Rattle.seg_spec.specs.Shapes.{Tree, nodes_of}
use Rattle.seg_spec.specs.Search.{IsSearchTree}

-- no two nodes overlap
abbrev pub NodesApart : List ℕ → Type 0
NodesApart [] = ⊤
NodesApart (x ∷ xs) = AllByRecursion (λ y. Separate x 16 y 16) xs × NodesApart xs

pub record StandApart (len word : ℕ) (nodes : List ℕ) : Type 0 where
  pub small : len ≤ 2 ^ 30
  pub word_fits : word + 4 ≤ len
  pub nodes_fit : AllByRecursion (λ p. p + 16 ≤ len) nodes
  pub word_apart : AllByRecursion (λ p. Separate word 4 p 16) nodes
  pub nodes_apart : NodesApart nodes

abbrev pub IsNew : (ℕ → ℕ → Ordering) → ℕ → List ℕ → Type 0
IsNew order node nodes = AllByRecursion (λ x. order node x ≢ Equal) nodes

abbrev pub with_node : (ℕ → ℕ → Ordering) → ℕ → List ℕ → List ℕ
with_node order node [] = node ∷ []
with_node order node (x ∷ xs) =
    if is_lt (order node x) then node ∷ x ∷ xs else x ∷ with_node order node xs

abbrev pub without_node : ℕ → List ℕ → List ℕ
without_node node [] = []
without_node node (x ∷ xs) = if node == x then xs else x ∷ without_node node xs

abbrev pub renamed : ℕ → ℕ → List ℕ → List ℕ
renamed old new [] = []
renamed old new (x ∷ xs) = if old == x then new ∷ xs else x ∷ renamed old new xs

-- The number of bytes is the same. Bytes outside the pointer word and the tree words of the nodes
-- are kept.
pub record KeepsBeside (old new : List ℕ) (word : ℕ) (nodes : List ℕ) : Type 0 where
  pub length_kept : length new ≡ length old
  pub others : (p n : ℕ) → Separate p n word 4 → AllByRecursion (λ q. Separate p n q 16) nodes
      → IsSame old new p n

-- The pointer word `root` points to a search tree of these nodes. All bytes outside it and outside
-- the touched nodes are kept.
pub record Leaves (old new : List ℕ) (root : ℕ) (touched nodes : List ℕ) : Type 0 where
  pub shape : Tree
  pub tree : IsSearchTree new root shape
  pub nodes_are : nodes_of shape ≡ nodes
  pub kept : KeepsBeside old new root touched
