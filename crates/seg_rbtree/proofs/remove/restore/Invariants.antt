use Rattle.std.proofs.Common.{◌≡◌, List}
use Rattle.seg_spec.specs.Shapes.{Tree}
use Rattle.seg_spec.specs.Window.{with_bytes}
use Rattle.seg_rbtree.specs.Ways.{Layer}
use Rattle.seg_rbtree.specs.Removing.{StandsAt, IsShort}
use Rattle.seg_rbtree.proofs.ShortSubtreeRepairLaws.{IsRestoring}
use Rattle.seg_rbtree.proofs.remove.restore.Given as goal

abbrev pub invariant-loop : goal.invariant-loop
invariant-loop g l = record {
  host : l.w ≡ with_bytes l.fn.w l.w.bytes;
  root : l.path.root ≡ l.fn.path.root;
  restoring : (layers : List Layer) (tree : Tree) → StandsAt l.fn.w.bytes l.fn.path layers tree → IsShort layers tree → IsRestoring l.fn.w.bytes l.w.bytes l.fn.path l.path layers tree l.counter;
}
