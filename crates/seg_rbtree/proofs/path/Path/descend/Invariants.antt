use Rattle.std.proofs.Common.{◌≡◌, []}
use Rattle.seg_spec.specs.Shapes.{Tree}
use Rattle.seg_spec.specs.Search.{IsSearchTree}
use Rattle.seg_rbtree.specs.Paths.{sought_by}
use Rattle.seg_rbtree.proofs.PlacePathLaws.{IsWalking}
use Rattle.seg_rbtree.proofs.path.Path.descend.Given as goal

abbrev pub invariant-loop : goal.invariant-loop
invariant-loop g l =
    let turn = sought_by (g.O.NodeOrder.compare l.order l.view.bytes.now) (g.O.NodeOrder.compare_key l.order l.view.bytes.now) l.sought in
    record {
      root : l.self.root ≡ l.fn.self.root;
      walks : g.O.NodeOrder.exact → l.fn.self.steps.items ≡ [] → (shape : Tree) → IsSearchTree l.view.bytes.now l.fn.self.root shape → IsWalking l.fn.self.root turn shape l.self.steps.items l.word l.counter;
    }
