-- The nodes of a tree in a segment have positions below 2^31.
use Rattle.std.proofs.Common.{◌≡◌, ℕ, ◌+◌, ◌^◌, ◌<◌, ◌≤◌, ◌⊎◌, inl, inr, List, length, Some, subst, ap, arith}
use Rattle.std.proofs.lemmas.Bool.{cases_lt}
use Rattle.seg_spec.proofs.BytesLaws.{number_past}
use Rattle.seg_spec.specs.Pointer.{target}
use Rattle.seg_spec.specs.Shapes.{Colour, Tree, leaf, fork, IsTree}
use Rattle.seg_spec.proofs.PointerLaws.{target-small}
use Rattle.seg_rbtree.specs.declared.node.Side.{Side}
use Rattle.seg_rbtree.specs.Ways.{branch}
use Rattle.seg_rbtree.proofs.Branches.{branch-parts}

-- a pointer past the end of the bytes reads as 0, and so points to itself
names_itself : (bytes : List ℕ) (at : ℕ) → length bytes < at + 4 → at < 2 ^ 32 → target bytes at ≡ Some at
unfolding target
names_itself bytes at past small = rw (number_past 4 bytes at past) (ap Some (omega arith))

-- a pointer that points to itself has no tree, because the tree would be infinite
no_tree_past : (bytes : List ℕ) (at : ℕ) → target bytes at ≡ Some at → (tree : Tree) → IsTree bytes (Some at) tree → ⊥
no_tree_past bytes at self leaf h = h
no_tree_past bytes at self (fork left node colour right) h = no_tree_past bytes at self left (subst (λ o. IsTree bytes o left) self h.2)

-- the root of a tree in a segment's bytes has a position below 2^31
pub root_low : (bytes : List ℕ) (at : ℕ) (side : Side) (node : ℕ) (colour : Colour) (near far : Tree) → length bytes ≤ 2 ^ 30 → IsTree bytes (target bytes at) (branch side node colour near far) → node < 2 ^ 31
root_low bytes at side node colour near far small h = go (cases_lt (length bytes) (node + 4))
  where
    named : target bytes at ≡ Some node
    named = (branch-parts bytes (target bytes at) side node colour near far h).named

    go : (length bytes < node + 4) ⊎ (node + 4 ≤ length bytes) → node < 2 ^ 31
    go (inl past) = absurd (no_tree_past bytes node (names_itself bytes node past (target-small bytes at node named)) (branch side node colour near far) (subst (λ o. IsTree bytes o (branch side node colour near far)) named h))
    go (inr fits) = omega arith
