use Rattle.std.proofs.Common.{◌≤◌, ◌-◌}
use Rattle.std.specs.declared.cmp.Ordering.TheVariants.{Equal}
use Rattle.seg_spec.specs.Shapes.{Tree, nodes_of}
use Rattle.seg_spec.specs.Search.{reaches, Ascend, IsSearchTree}
use Rattle.seg_rbtree.proofs.CountedSearchLaws.{IsCounting}
use Rattle.seg_rbtree.proofs.tree.Tree.first_at_least.Given as goal

abbrev pub invariant-loop-found : goal.invariant-loop-found
invariant-loop-found g l = record {
  few : l.found.looks ≤ 64;
  searching : g.O.NodeOrder.exact → (shape : Tree) → IsSearchTree l.view.bytes.now l.fn.self.root shape → Ascend (g.O.NodeOrder.compare l.order l.view.bytes.now) (nodes_of shape)
      → IsCounting l.view.bytes.now (λ node. reaches Equal (g.O.NodeOrder.compare_key l.order l.view.bytes.now node l.key)) shape l.place l.found.node l.found.looks;
}

abbrev pub decreases-loop-found : goal.decreases-loop-found
decreases-loop-found g l = 64 - l.found.looks
