use Rattle.std.proofs.Common.{◌≡◌, map}
use Rattle.seg_spec.specs.Block.{block_of}
use Rattle.seg_check.specs.Walks.{last_block}
use Rattle.seg_check.proofs.Heap.FreeTreeWalkLaws.{Passed}
use Rattle.seg_check.proofs.image.TypedImage.check_free_tree.Given as goal

abbrev pub invariant-loop-visit : goal.invariant-loop-visit
invariant-loop-visit g l = record {
  same : l.walk.bytes.bytes.now ≡ l.self.bytes.bytes.now;
  passed : Passed l.self.bytes.bytes.now l.claims l.walk.stage l.walk.turns;
  before_is : l.before ≡ last_block (map block_of passed.nodes);
}

abbrev pub decreases-loop-visit : goal.decreases-loop-visit
decreases-loop-visit g l = l.walk.turns
