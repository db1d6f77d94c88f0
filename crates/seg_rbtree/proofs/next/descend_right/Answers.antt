use Rattle.std.proofs.Common.{◌∷◌}
use Rattle.seg_rbtree.specs.declared.node.Side.TheVariants.{Right}
use Rattle.seg_rbtree.specs.Removing.{layer_at}
use Rattle.seg_rbtree.proofs.NodeRemovalLaws.{stepped, step_room}
use Rattle.seg_rbtree.proofs.next.descend_right.Goals as goal

pub returns-else-push-clause-descended : goal.returns-else-push-clause-descended
returns-else-push-clause-descended c = λ layers left tree colour s named.
    let room = c.push.ensures.room (step_room c.args.view.bytes.now c.args.path.now layers left tree c.args.node colour s) in
    let none = c.if-push.false in
    cc

pub returns-then-push-clause-descended : goal.returns-then-push-clause-descended
returns-then-push-clause-descended c = λ layers left tree colour s named.
    let stands = stepped c.args.view.bytes.now c.args.path.now c.push.new.self layers left tree c.args.node colour c.args.view.small s c.push.ensures.root (c.push.ensures.pushed c.if-push.true) in
    c.descend_from.ensures.descended (layer_at Right c.args.node colour left ∷ layers) tree stands named
