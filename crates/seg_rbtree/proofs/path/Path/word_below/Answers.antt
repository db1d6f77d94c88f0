use Rattle.std.proofs.Common.{◌∙◌}
use Rattle.seg_rbtree.specs.Nodes.{side_word}
use Rattle.seg_rbtree.proofs.Steps.{word_below}
use Rattle.seg_rbtree.proofs.path.Path.word_below.Goals as goal

pub returns-in-Some : goal.returns-in-Some
returns-in-Some c = λ h.
    word_below c.args.self.now.root c.args.self.now.steps.items c.deref.result.now c.args.steps c.child_word.result c.in-Some.step.now c.deref.ensures.0 c.if-steps-eq0.false h
    c.in-Some.ensures.lookup.1 (c.child_word.ensures ∙ (λ i. side_word (c.node.ensures i) (c.side.ensures i)))
