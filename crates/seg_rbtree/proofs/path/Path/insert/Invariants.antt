use Rattle.std.proofs.Common.{◌≡◌, ℕ, ◌+◌, ◌^◌, ◌<◌, ◌∷◌, length}
use Rattle.std.specs.Cmp.{IsTotalOrder}
use Rattle.std.specs.declared.cmp.Ordering.{Ordering}
use Rattle.seg_spec.specs.Shapes.{Tree, nodes_of}
use Rattle.seg_spec.specs.Search.{Ascend, IsSearchTree}
use Rattle.seg_spec.specs.Window.{with_bytes}
use Rattle.seg_rbtree.specs.Ways.{LeadsTo}
use Rattle.seg_rbtree.specs.Changes.{StandApart, IsNew, with_node}
use Rattle.seg_rbtree.proofs.InsertionLaws.{IsGrowing}
use Rattle.seg_rbtree.proofs.path.Path.insert.Given as goal

abbrev pub invariant-loop : goal.invariant-loop
invariant-loop g l = record {
  host : l.w ≡ with_bytes l.fn.w l.w.bytes;
  root : l.self.root ≡ l.fn.self.root;
  grows : (order : ℕ → ℕ → Ordering) (shape : Tree) → IsTotalOrder order → IsSearchTree l.fn.w.bytes l.fn.self.root shape → Ascend order (nodes_of shape) → LeadsTo (order l.fn.node) shape l.fn.self → IsNew order l.fn.node (nodes_of shape)
      → StandApart (length l.fn.w.bytes) l.fn.self.root (l.fn.node ∷ nodes_of shape) → length (nodes_of shape) + 1 < 2 ^ 32
      → IsGrowing l.fn.w.bytes l.w.bytes l.fn.self.root (with_node order l.fn.node (nodes_of shape)) l.self.steps.items l.red l.counter;
}
