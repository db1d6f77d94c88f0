-- A path to a node of the tree.
use Rattle.std.proofs.Common.{◌≡◌, ◌≢◌, ℕ, ◌⊎◌, inl, inr, List, Option, Some, None, refl, sym, ap, ◌∙◌, subst}
use Rattle.std.proofs.lemmas.Bool.{cases_eq}
use Rattle.std.specs.Cmp.{IsTotalOrder}
use Rattle.std.specs.List.{AllByRecursion}
use Rattle.std.specs.declared.cmp.Ordering.{Ordering}
use Rattle.seg_spec.specs.Pointer.{target}
use Rattle.seg_spec.specs.Search.{Ascend, IsSearchTree}
use Rattle.seg_spec.specs.Shapes.{Tree, nodes_of, IsTree}
use Rattle.seg_rbtree.specs.declared.node.Side.TheVariants.{Left}
use Rattle.seg_rbtree.specs.declared.path.Path.{Path}
use Rattle.seg_rbtree.specs.Paths.{node_at, IsAmong}
use Rattle.seg_rbtree.specs.Ways.{plug, LeadsTo}
use Rattle.seg_rbtree.proofs.Branches.{branch-parts, fork_at}
use Rattle.seg_rbtree.proofs.Orders.{ascend-down}
use Rattle.seg_rbtree.proofs.TreeWithoutNodeLaws.{not_aside, not_at_end, rest_hangs}

-- ---- the path ends at the node

module _ (bytes : List ℕ) (root : ℕ) (path : Path) (order : ℕ → ℕ → Ordering) (node : ℕ) (shape : Tree) (r : path.root ≡ root) (way : LeadsTo (order node) shape path) (total : IsTotalOrder order)
    (t : IsSearchTree bytes root shape) (a : Ascend order (nodes_of shape)) where
  pub missing : (node_at bytes path ≡ Some node → ⊥) → AllByRecursion (λ x. node ≢ x) (nodes_of shape)
  missing n =
      let in_order : Ascend order (nodes_of (plug way.rest way.layers)) = subst (λ t. Ascend order (nodes_of t)) (sym way.shape_is) a in
      let ends = not_at_end order total node bytes (node_at bytes path) way.rest (rest_hangs bytes root path (order node) node shape r way t.is_tree) way.ends (ascend-down order way.rest way.layers in_order) n in
      subst (λ t. AllByRecursion (λ x. node ≢ x) (nodes_of t)) way.shape_is (not_aside order total node way.layers way.rest in_order way.leads ends)

  pub led_there : IsAmong node (nodes_of shape) → node_at bytes path ≡ Some node
  led_there among = go (node_at bytes path) refl
    where
      go : (o : Option ℕ) → node_at bytes path ≡ o → node_at bytes path ≡ Some node
      go None e = absurd (among (missing (λ f. cc)))
      go (Some x) e = same (cases_eq x node)
        where
          same : (x ≡ node) ⊎ (x ≢ node) → node_at bytes path ≡ Some node
          same (inl s) = e ∙ ap Some s
          same (inr n) = absurd (among (missing (λ f. n (alike (sym e ∙ f)))))
            where
              alike : Some x ≡ Some node → x ≡ node
              alike f = cc

-- the path ends at the same node if the tree is in other bytes
pub named_still : (old new : List ℕ) (path : Path) (turn : ℕ → Ordering) (node : ℕ) (shape : Tree) → LeadsTo turn shape path → IsTree old (target old path.root) shape → IsTree new (target new path.root) shape
    → node_at old path ≡ Some node → node_at new path ≡ Some node
named_still old new path turn node shape way h k named =
    let f = fork_at old Left node (node_at old path) way.rest named (rest_hangs old path.root path turn node shape refl way h) in
    (branch-parts new (node_at new path) Left node f.colour f.near f.far (subst (λ t. IsTree new (node_at new path) t) f.tree_is (rest_hangs new path.root path turn node shape refl way k))).named
