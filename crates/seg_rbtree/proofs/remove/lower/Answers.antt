use Rattle.std.proofs.Common.{ap}
use Rattle.seg_spec.specs.Window.{Placement}
use Rattle.seg_rbtree.proofs.ShortSubtreeStepLaws.{lowered_whole}
use Rattle.seg_rbtree.proofs.remove.lower.Goals as goal

pub returns-clause-lowered : goal.returns-clause-lowered
returns-clause-lowered g c =
    rw (← c.node-node.ensures, ← c.side-side.ensures)
    (lowered_whole c.args.w.now.bytes c.rotate.new.w.bytes c.paint.new.w.bytes c.paint-2.new.w.bytes c.args.path.now c.push.new.self c.push-2.new.self c.side-side.result c.node-node.result c.args.sibling c.push.result c.push-2.result
    (ap (λ (p : Placement). p.bytes) c.rotate.ensures.rotated) (ap (λ (p : Placement). p.bytes) c.paint.ensures) (ap (λ (p : Placement). p.bytes) c.paint-2.ensures)
    c.push.ensures.root c.push.ensures.room c.push.ensures.pushed c.push-2.ensures.root c.push-2.ensures.room c.push-2.ensures.pushed)
