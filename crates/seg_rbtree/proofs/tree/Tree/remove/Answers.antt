use Rattle.std.proofs.Common.{◌∙◌, sym}
use Rattle.seg_rbtree.proofs.PlacePathLaws.{walked_same}
use Rattle.seg_rbtree.proofs.TreeWithoutNodeLaws.{left_alone, not_absent, not_named, named}
use Rattle.seg_rbtree.proofs.tree.Tree.remove.Goals as goal

pub returns-then-ne-clause-removed : goal.returns-then-ne-clause-removed
returns-then-ne-clause-removed g c = λ exact shape t a apart.
    let bytes = c.args.w.now.bytes in
    let order = g.O.NodeOrder.compare c.args.order.now bytes in
    let root = c.descend.ensures.root ∙ c.new-path.ensures.root in
    let way = walked_same (λ bs. g.O.NodeOrder.compare c.args.order.now bs c.args.node) c.descend.new.self c.view.ensures c.new-path.ensures.root (c.descend.ensures.leads exact c.new-path.ensures.steps) shape t in
    left_alone bytes c.args.self.root c.descend.new.self order c.args.node shape root way (g.met.O.NodeOrder.total exact c.args.order.now bytes) t a
    (λ e. not_named c.node.result c.ne.result c.args.node c.ne.ensures c.if-ne.true (c.node.ensures ∙ e))

pub returns-clause-stays : goal.returns-clause-stays
returns-clause-stays g c = λ exact shape t a missing.
    let bytes = c.args.w.now.bytes in
    let root = c.descend.ensures.root ∙ c.new-path.ensures.root in
    let way = walked_same (λ bs. g.O.NodeOrder.compare c.args.order.now bs c.args.node) c.descend.new.self c.view.ensures c.new-path.ensures.root (c.descend.ensures.leads exact c.new-path.ensures.steps) shape t in
    absurd (not_absent bytes c.args.self.root c.descend.new.self (g.O.NodeOrder.compare c.args.order.now bytes c.args.node) c.args.node shape root way t
    (sym c.node.ensures ∙ named c.node.result c.ne.result c.args.node c.ne.ensures c.if-ne.false) missing)
