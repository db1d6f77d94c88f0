use Rattle.std.proofs.Common.{ℕ, ◌∙◌}
use Rattle.std.specs.Ordering.{ordering_reverse}
use Rattle.seg_rbtree.proofs.Paths.{finds_equal}
use Rattle.seg_rbtree.proofs.PlacePathLaws.{walked_same}
use Rattle.seg_rbtree.proofs.tree.Tree.path_to_key.Goals as goal

pub returns-clause-leads : goal.returns-clause-leads
returns-clause-leads g c = λ exact.
    walked_same (λ bs x. ordering_reverse (g.O.NodeOrder.compare_key c.args.order.now bs x c.args.key)) c.descend.new.self c.view.ensures c.new-path.ensures.root (c.descend.ensures.leads exact c.new-path.ensures.steps)

pub returns-clause-found : goal.returns-clause-found
returns-clause-found g c = λ exact shape t a.
    let bytes = c.args.w.now.bytes in
    finds_equal (λ (x : ℕ). g.O.NodeOrder.compare_key c.args.order.now bytes x c.args.key) (g.O.NodeOrder.compare c.args.order.now bytes)
    (λ x y less. g.met.O.NodeOrder.keyed exact c.args.order.now bytes x y c.args.key less) bytes c.args.self.root c.descend.new.self shape (c.descend.ensures.root ∙ c.new-path.ensures.root) t a
    (returns-clause-leads g c exact shape t)
