-- The subtrees of a tree, seen from a side.
use Rattle.std.proofs.Common.{◌≡◌, ℕ, ◌+◌, List, [], ◌∷◌, ◌++◌, Option, Some, None, refl, sym, ap, subst, append_assoc}
use Rattle.seg_spec.specs.Pointer.{target}
use Rattle.seg_spec.specs.Shapes.{Colour, Tree, leaf, fork, nodes_of, HasColour, IsTree}
use Rattle.seg_rbtree.specs.declared.node.Side.{Side}
use Rattle.seg_rbtree.specs.declared.node.Side.TheVariants.{Left, Right}
use Rattle.seg_rbtree.specs.Nodes.{side_word, opposite}
use Rattle.seg_rbtree.specs.Ways.{Layer, branch, grow, plug, place}

pub record IsBranch (bytes : List ℕ) (to : Option ℕ) (side : Side) (at : ℕ) (colour : Colour) (near far : Tree) : Type 0 where
  pub named : to ≡ Some at
  pub coloured : HasColour bytes at colour
  pub near_hangs : IsTree bytes (target bytes (side_word at side)) near
  pub far_hangs : IsTree bytes (target bytes (side_word at (opposite side))) far

pub branch-parts : (bytes : List ℕ) (to : Option ℕ) (side : Side) (at : ℕ) (colour : Colour) (near far : Tree) → IsTree bytes to (branch side at colour near far) → IsBranch bytes to side at colour near far
branch-parts bytes None Left at colour near far h = absurd h
branch-parts bytes None Right at colour near far h = absurd h
branch-parts bytes (Some p) Left at colour near far h = record {
  named = ap Some (sym h.0);
  coloured = subst (λ q. HasColour bytes q colour) (sym h.0) h.1;
  near_hangs = subst (λ q. IsTree bytes (target bytes q) near) (sym h.0) h.2;
  far_hangs = subst (λ q. IsTree bytes (target bytes (q + 4)) far) (sym h.0) h.3;
}
branch-parts bytes (Some p) Right at colour near far h = record {
  named = ap Some (sym h.0);
  coloured = subst (λ q. HasColour bytes q colour) (sym h.0) h.1;
  near_hangs = subst (λ q. IsTree bytes (target bytes (q + 4)) near) (sym h.0) h.3;
  far_hangs = subst (λ q. IsTree bytes (target bytes q) far) (sym h.0) h.2;
}

pub branch-whole : (bytes : List ℕ) (side : Side) (at : ℕ) (colour : Colour) (near far : Tree) → HasColour bytes at colour → IsTree bytes (target bytes (side_word at side)) near
    → IsTree bytes (target bytes (side_word at (opposite side))) far → IsTree bytes (Some at) (branch side at colour near far)
branch-whole bytes Left at colour near far c n f = (refl, c, n, f)
branch-whole bytes Right at colour near far c n f = (refl, c, f, n)

-- a tree with a node as its root, seen from a side
pub record IsFork (side : Side) (at : ℕ) (tree : Tree) : Type 0 where
  pub colour : Colour
  pub near : Tree
  pub far : Tree
  pub tree_is : tree ≡ branch side at colour near far

pub fork_at : (bytes : List ℕ) (side : Side) (at : ℕ) (to : Option ℕ) (tree : Tree) → to ≡ Some at → IsTree bytes to tree → IsFork side at tree
fork_at bytes side at to tree e h = go side tree (subst (λ o. IsTree bytes o tree) e h)
  where
    go : (side : Side) (tree : Tree) → IsTree bytes (Some at) tree → IsFork side at tree
    go side leaf h = absurd h
    go Left (fork l a c r) h = record { colour = c; near = l; far = r; tree_is = ap (λ p. fork l p c r) h.0 }
    go Right (fork l a c r) h = record { colour = c; near = r; far = l; tree_is = ap (λ p. fork l p c r) h.0 }

-- the same branch, seen from the other side
pub branch-flip : (side : Side) (at : ℕ) (colour : Colour) (near far : Tree) → branch (opposite side) at colour near far ≡ branch side at colour far near
branch-flip Left at colour near far = refl
branch-flip Right at colour near far = refl

pub opposite-twice : (side : Side) → opposite (opposite side) ≡ side
opposite-twice Left = refl
opposite-twice Right = refl

-- a rotation keeps the order of the nodes
pub nodes-rotated : (side : Side) (node up : ℕ) (cn cu dn du : Colour) (x m d : Tree) → nodes_of (branch side up du (branch side node dn x m) d) ≡ nodes_of (branch side node cn x (branch side up cu m d))
nodes-rotated Left node up cn cu dn du x m d = append_assoc (nodes_of x) (node ∷ nodes_of m) (up ∷ nodes_of d)
nodes-rotated Right node up cn cu dn du x m d = sym (append_assoc (nodes_of d) (up ∷ nodes_of m) (node ∷ nodes_of x))

-- the subtree at a place is at its pointer word
pub tree-down : (bytes : List ℕ) (root : ℕ) (tree : Tree) (layers : List Layer) → IsTree bytes (target bytes root) (plug tree layers) → IsTree bytes (target bytes (place root layers)) tree
tree-down bytes root tree [] h = h
tree-down bytes root tree (layer ∷ layers) h =
    (branch-parts bytes (target bytes (place root layers)) layer.side layer.at layer.colour tree layer.other (tree-down bytes root (grow layer tree) layers h)).near_hangs

pub nodes-branch : (side : Side) (at : ℕ) (c d : Colour) (x y far : Tree) → nodes_of x ≡ nodes_of y → nodes_of (branch side at c x far) ≡ nodes_of (branch side at d y far)
nodes-branch Left at c d x y far e = ap (λ ns. ns ++ at ∷ nodes_of far) e
nodes-branch Right at c d x y far e = ap (λ ns. nodes_of far ++ at ∷ ns) e

-- subtrees with the same nodes make whole trees with the same nodes
pub nodes-plug : (x y : Tree) (layers : List Layer) → nodes_of x ≡ nodes_of y → nodes_of (plug x layers) ≡ nodes_of (plug y layers)
nodes-plug x y [] e = e
nodes-plug x y (layer ∷ layers) e = nodes-plug (grow layer x) (grow layer y) layers (nodes-branch layer.side layer.at layer.colour layer.colour x y layer.other e)
