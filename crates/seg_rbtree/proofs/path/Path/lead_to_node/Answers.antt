use Rattle.std.proofs.Common.{◌∙◌}
use Rattle.seg_rbtree.proofs.NodePathLaws.{led_there}
use Rattle.seg_rbtree.proofs.PlacePathLaws.{walked_same}
use Rattle.seg_rbtree.proofs.path.Path.lead_to_node.Goals as goal

pub returns-clause-leads : goal.returns-clause-leads
returns-clause-leads g c = λ exact.
    walked_same (λ bs. g.O.NodeOrder.compare c.args.order.now bs c.args.node) c.descend.new.self c.view.ensures c.begin.ensures.root (c.descend.ensures.leads exact c.begin.ensures.steps)

pub returns-clause-found : goal.returns-clause-found
returns-clause-found g c = λ exact shape t a among.
    let bytes = c.args.w.now.bytes in
    led_there bytes c.args.tree.root c.descend.new.self (g.O.NodeOrder.compare c.args.order.now bytes) c.args.node shape (c.descend.ensures.root ∙ c.begin.ensures.root) (returns-clause-leads g c exact shape t)
    (g.met.O.NodeOrder.total exact c.args.order.now bytes) t a among
