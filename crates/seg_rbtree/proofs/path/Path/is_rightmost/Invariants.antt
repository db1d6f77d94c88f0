use Rattle.std.proofs.Common.{◌≡◌, take}
use Rattle.std.specs.List.{AllByRecursion}
use Rattle.seg_rbtree.specs.declared.node.Side.TheVariants.{Right}
use Rattle.seg_rbtree.specs.declared.step.Step.{Step}
use Rattle.seg_rbtree.proofs.path.Path.is_rightmost.Given as goal

abbrev pub invariant-loop-step : goal.invariant-loop-step
invariant-loop-step l = AllByRecursion (λ (s : Step). s.side ≡ Right) (take l.step-index l.self.steps.items)
