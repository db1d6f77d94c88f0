use Rattle.std.proofs.Common.{◌≡◌, Some, List}
use Rattle.seg_spec.specs.Pointer.{target}
use Rattle.seg_spec.specs.Shapes.{Tree}
use Rattle.seg_rbtree.specs.Ways.{Layer, place}
use Rattle.seg_rbtree.specs.Following.{IsPartAt}
use Rattle.seg_rbtree.proofs.NodeRemovalLaws.{IsDescending}
use Rattle.seg_rbtree.proofs.next.descend_from.Given as goal

abbrev pub invariant-loop : goal.invariant-loop
invariant-loop l = record {
  root : l.path.root ≡ l.fn.path.root;
  descending : (layers : List Layer) (tree : Tree) → IsPartAt l.view.bytes.now l.fn.path layers tree
      → target l.view.bytes.now (place l.fn.path.root layers) ≡ Some l.fn.node → IsDescending l.view.bytes.now l.path layers tree l.first l.counter;
}
