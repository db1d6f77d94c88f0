use Rattle.seg_rbtree.specs.declared.path.Path.{Path}
use Rattle.seg_rbtree.proofs.ClimbLaws.{climbing_on, climbed, climbed_all}
use Rattle.std.proofs.Common.{◌∙◌, ap, sym}
use Rattle.seg_rbtree.proofs.path.Path.climb.Goals as goal

pub loop-step-preserved : goal.loop-step-preserved
loop-step-preserved c = record {
  root = c.pop.ensures.root ∙ c.loop-step.invariant.root;
  climbing = λ layers e. climbing_on layers c.loop-step.self.steps.items c.pop.new.self.steps.items c.in-Some.step c.in-Some.ensures.popped (sym c.side.ensures ∙ c.in-Right.is) (c.loop-step.invariant.climbing layers e);
}

pub returns-in-Left-clause-climbs : goal.returns-in-Left-clause-climbs
returns-in-Left-clause-climbs c = λ layers e.
    rw c.node.ensures (climbed layers c.loop-step.self.steps.items c.pop.new.self c.in-Some.step c.in-Some.ensures.popped (sym c.side.ensures ∙ c.in-Left.is) (c.loop-step.invariant.climbing layers e))

pub returns-clause-climbs : goal.returns-clause-climbs
returns-clause-climbs c = λ layers e.
    (climbed_all layers c.loop-step.self.steps.items c.in_default.ensures.popped (c.loop-step.invariant.climbing layers e), ap (λ (p : Path). p.steps.items) c.in_default.ensures.stays ∙ c.in_default.ensures.popped)
