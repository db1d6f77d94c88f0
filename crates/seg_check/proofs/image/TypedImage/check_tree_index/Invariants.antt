use Rattle.std.proofs.Common.{◌≡◌}
use Rattle.seg_spec.specs.Header.{index_cell}
use Rattle.seg_spec.specs.Reads.{count_at}
use Rattle.seg_check.specs.Resolving.{IsReady}
use Rattle.seg_check.specs.Roots.{ClaimsTree}
use Rattle.seg_check.proofs.Objects.TreeIndexLaws.{Named}
use Rattle.seg_check.proofs.image.TypedImage.check_tree_index.Given as goal

abbrev pub invariant-loop-visit : goal.invariant-loop-visit
invariant-loop-visit g l = record {
  same : l.walk.bytes.bytes.now ≡ l.self.bytes.bytes.now;
  named : l.count ≡ count_at l.self.bytes.bytes.now index_cell → (ready : IsReady l.self.bytes.bytes.now l.self.types.now l.fn.claims) (claimed : ClaimsTree l.self.bytes.bytes.now l.fn.claims l.initial.claims) →
      Named l.self.bytes.bytes.now l.self.types.now l.fn.claims ready l.initial.claims claimed l.claims l.before l.walk.stage l.walk.turns;
}

abbrev pub decreases-loop-visit : goal.decreases-loop-visit
decreases-loop-visit g l = l.walk.turns
