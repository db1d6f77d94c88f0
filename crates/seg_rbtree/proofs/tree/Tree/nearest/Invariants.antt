use Rattle.seg_spec.specs.Shapes.{Tree, nodes_of}
use Rattle.seg_spec.specs.Search.{Ascend, IsSearchTree}
use Rattle.seg_rbtree.specs.Nodes.{opposite}
use Rattle.seg_rbtree.specs.Sides.{is_beyond}
use Rattle.seg_rbtree.proofs.SideSearchLaws.{IsSearching}
use Rattle.seg_rbtree.proofs.tree.Tree.nearest.Given as goal

abbrev pub invariant-loop : goal.invariant-loop
invariant-loop g l = g.O.NodeOrder.exact → (shape : Tree) → IsSearchTree l.view.bytes.now l.fn.self.root shape → Ascend (g.O.NodeOrder.compare l.order l.view.bytes.now) (nodes_of shape)
    → IsSearching l.view.bytes.now (opposite l.side) (λ node. is_beyond l.side (g.O.NodeOrder.compare_key l.order l.view.bytes.now node l.key)) shape l.place l.nearest l.counter
