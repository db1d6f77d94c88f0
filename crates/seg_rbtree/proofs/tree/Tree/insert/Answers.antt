use Rattle.std.proofs.Common.{ℕ, ◌∷◌, length, ◌∙◌, subst}
use Rattle.seg_spec.specs.Search.{IsSearchTree}
use Rattle.seg_spec.specs.Shapes.{nodes_of}
use Rattle.seg_rbtree.specs.Changes.{StandApart, with_node, Leaves}
use Rattle.seg_rbtree.proofs.PlacePathLaws.{walked_same}
use Rattle.seg_rbtree.proofs.tree.Tree.insert.Goals as goal

pub returns-clause-added : goal.returns-clause-added
returns-clause-added g c = λ exact shape t a fresh apart few.
    let bytes = c.args.w.now.bytes in
    let order = g.O.NodeOrder.compare c.args.order.now bytes in
    let node = c.args.node in
    let way = walked_same (λ bs. g.O.NodeOrder.compare c.args.order.now bs node) c.descend.new.self c.view.ensures c.new-path.ensures.root (c.descend.ensures.leads exact c.new-path.ensures.steps) shape t in
    subst (λ (root : ℕ). IsSearchTree bytes root shape → StandApart (length bytes) root (node ∷ nodes_of shape)
    → Leaves bytes c.insert.new.w.bytes root (node ∷ nodes_of shape) (with_node order node (nodes_of shape))) (c.descend.ensures.root ∙ c.new-path.ensures.root)
    (λ hung stand. c.insert.ensures.added order shape (g.met.O.NodeOrder.total exact c.args.order.now bytes) hung a way fresh stand few) t apart
