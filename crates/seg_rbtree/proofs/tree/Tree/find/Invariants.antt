use Rattle.std.specs.Ordering.{ordering_reverse}
use Rattle.seg_spec.specs.Shapes.{Tree}
use Rattle.seg_spec.specs.Search.{IsSearchTree}
use Rattle.seg_rbtree.proofs.KeySearchLaws.{IsSeeking}
use Rattle.seg_rbtree.proofs.tree.Tree.find.Given as goal

abbrev pub invariant-loop : goal.invariant-loop
invariant-loop g l = g.O.NodeOrder.exact → (shape : Tree) → IsSearchTree l.view.bytes.now l.fn.self.root shape
    → IsSeeking l.view.bytes.now (λ x. ordering_reverse (g.O.NodeOrder.compare_key l.order l.view.bytes.now x l.key)) shape l.place l.counter
