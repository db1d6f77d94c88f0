-- The depth of a red-black tree.
use Rattle.std.proofs.Common.{ℕ, suc, ◌+◌, ◌*◌, ◌^◌, ◌<◌, ◌≤◌, ◌⊎◌, inl, inr, max, List, [], ◌∷◌, length, arith}
use Rattle.std.proofs.lemmas.Bool.{cases_lt}
use Rattle.std.proofs.Math.Pow.{pow_mono}
use Rattle.seg_spec.specs.Shapes.{Colour, Tree, leaf, fork, black, red, nodes_of, IsBlack, IsBalanced, IsRedBlack}
use Rattle.seg_spec.proofs.TreeSearchLaws.{many_nodes}
use Rattle.seg_rbtree.specs.declared.node.Side.{Side}
use Rattle.seg_rbtree.specs.declared.node.Side.TheVariants.{Left, Right}
use Rattle.seg_rbtree.specs.Ways.{Layer, branch, grow, plug}

-- the number of nodes on the longest path
abbrev pub tall : Tree → ℕ
tall leaf = 0
tall (fork left at colour right) = suc (max (tall left) (tall right))

pub few_deep : (tree : Tree) (h : ℕ) → IsBalanced tree h → (tall tree ≤ 2 * h + 1) × (IsBlack tree → tall tree ≤ 2 * h)
few_deep leaf h b = (omega arith, λ _. omega arith)
few_deep (fork left at black right) h b =
    let l = (few_deep left b.0 b.2).0 in
    let r = (few_deep right b.0 b.3).0 in
    (omega (arith, b.1), λ _. omega (arith, b.1))
few_deep (fork left at red right) h b =
    let l = (few_deep left h b.2).1 b.0 in
    let r = (few_deep right h b.3).1 b.1 in
    (omega arith, λ e. absurd e)

-- no path has more than 64 nodes
pub deep-64 : (tree : Tree) → IsRedBlack tree → length (nodes_of tree) < 2 ^ 32 → tall tree ≤ 64
deep-64 tree r few = go (cases_lt 32 r.height)
  where
    go : (32 < r.height) ⊎ (r.height ≤ 32) → tall tree ≤ 64
    go (inl high) =
        let power : 2 ^ 33 ≤ 2 ^ r.height = pow_mono high in
        absurd (omega (arith, many_nodes tree r.height r.balanced))
    go (inr low) = omega (arith, (few_deep tree r.height r.balanced).1 r.root)

pub taller : (side : Side) (at : ℕ) (colour : Colour) (near far : Tree) → suc (tall near) ≤ tall (branch side at colour near far)
taller Left at colour near far = omega arith
taller Right at colour near far = omega arith

pub taller_far : (side : Side) (at : ℕ) (colour : Colour) (near far : Tree) → suc (tall far) ≤ tall (branch side at colour near far)
taller_far Left at colour near far = omega arith
taller_far Right at colour near far = omega arith

-- the layers and a path in the subtree below them make one path
pub layers-deep : (tree : Tree) (layers : List Layer) → length layers + tall tree ≤ tall (plug tree layers)
layers-deep tree [] = omega arith
layers-deep tree (layer ∷ layers) =
    omega (arith, layers-deep (grow layer tree) layers, taller layer.side layer.at layer.colour tree layer.other)
