use Rattle.std.proofs.Common.{◌≡◌}
use Rattle.seg_spec.specs.Header.{index_cell}
use Rattle.seg_spec.specs.Reads.{count_at}
use Rattle.seg_check.specs.Resolving.{IsReady}
use Rattle.seg_check.proofs.Objects.TreeIndexLaws.{Traced}
use Rattle.seg_check.proofs.image.TypedImage.claim_index_nodes.Given as goal

abbrev pub invariant-loop-visit : goal.invariant-loop-visit
invariant-loop-visit g l = record {
  root : l.walk.root ≡ l.fn.tree.root;
  same : l.walk.bytes.bytes.now ≡ l.self.bytes.bytes.now;
  traced : l.fn.tree.root ≡ index_cell → l.fn.tree.nodes ≡ count_at l.self.bytes.bytes.now index_cell → (ready : IsReady l.self.bytes.bytes.now l.self.types.now l.fn.claims) →
      Traced l.self.bytes.bytes.now l.self.types.now l.fn.claims ready l.claims l.walk.stage l.walk.turns;
}

abbrev pub decreases-loop-visit : goal.decreases-loop-visit
decreases-loop-visit g l = l.walk.turns
