use Rattle.std.proofs.Common.{ap, sym, ◌∙◌}
use Rattle.seg_spec.specs.Window.{Placement}
use Rattle.seg_rbtree.proofs.ShortSubtreeStepLaws.{came_up, sibling_named}
use Rattle.seg_rbtree.proofs.remove.come_up.Goals as goal

pub returns-in-Some-clause-came_up : goal.returns-in-Some-clause-came_up
returns-in-Some-clause-came_up g c =
    rw (← c.node-node.ensures, ← c.side.ensures)
    (came_up c.args.w.now.bytes c.rotate.new.w.bytes c.paint.new.w.bytes c.paint-in-Some.new.w.bytes c.args.path.now c.side.result c.node-node.result c.in-Some.up c.colour_of-top.result c.colour_of-top.ensures
    (sym c.rotate.ensures.up ∙ c.in-Some.is) (ap (λ (p : Placement). p.bytes) c.rotate.ensures.rotated) (ap (λ (p : Placement). p.bytes) c.paint.ensures) (ap (λ (p : Placement). p.bytes) c.paint-in-Some.ensures))

pub returns-in_default-clause-came_up : goal.returns-in_default-clause-came_up
returns-in_default-clause-came_up g c = rw (← c.node-node.ensures, ← c.side.ensures) λ layers tree inner outer up colour other s.
    absurd (c.in_default.not-Some up (c.rotate.ensures.up ∙ sibling_named c.args.w.now.bytes c.args.path.now layers c.side.result c.node-node.result up colour other tree inner outer s))
