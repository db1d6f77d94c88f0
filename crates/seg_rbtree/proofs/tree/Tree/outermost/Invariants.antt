use Rattle.std.proofs.Common.{true}
use Rattle.seg_spec.specs.Shapes.{Tree}
use Rattle.seg_spec.specs.Search.{IsSearchTree}
use Rattle.seg_rbtree.proofs.SideSearchLaws.{IsSearching}
use Rattle.seg_rbtree.proofs.tree.Tree.outermost.Given as goal

abbrev pub invariant-loop : goal.invariant-loop
invariant-loop l = (shape : Tree) → IsSearchTree l.view.bytes.now l.fn.self.root shape → IsSearching l.view.bytes.now l.side (λ _. true) shape l.place l.outermost l.counter
