use Rattle.std.proofs.Common.{◌≡◌, List, length}
use Rattle.seg_rbtree.specs.Ways.{Layer, steps_of}
use Rattle.seg_rbtree.proofs.ClimbLaws.{IsClimbing}
use Rattle.seg_rbtree.proofs.path.Path.climb.Given as goal

abbrev pub invariant-loop-step : goal.invariant-loop-step
invariant-loop-step l = record {
  root : l.self.root ≡ l.fn.self.root;
  climbing : (layers : List Layer) → l.fn.self.steps.items ≡ steps_of layers → IsClimbing layers l.self.steps.items;
}

abbrev pub decreases-loop-step : goal.decreases-loop-step
decreases-loop-step l = length l.self.steps.items
