use Rattle.std.proofs.Common.{◌≡◌, ◌≤◌}
use Rattle.seg_spec.specs.Sound.{Picture}
use Rattle.seg_manager.specs.Segments.{IsSegment}
use Rattle.seg_manager.proofs.UniqueCount.{below}
use Rattle.seg_manager.proofs.uniques.num_unique.Given as goal

abbrev pub invariant-loop-t : goal.invariant-loop-t
invariant-loop-t g l = record {
  few : l.count ≤ l.t;
  counted : (picture : Picture) → IsSegment (g.S.SegmentRead.allocator l.source) (g.S.SegmentRead.stored l.source) picture → l.count ≡ below l.t picture.uniques;
}
