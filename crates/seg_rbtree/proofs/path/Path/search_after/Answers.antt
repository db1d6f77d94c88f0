use Rattle.std.proofs.Common.{ℕ, sym, subst, ◌∙◌}
use Rattle.seg_spec.specs.Shapes.{Tree}
use Rattle.seg_spec.specs.Search.{IsSearchTree}
use Rattle.std.specs.Ordering.{ordering_reverse}
use Rattle.seg_rbtree.proofs.ClimbLaws.{goes_above, goes_inside, leads_inside}
use Rattle.seg_rbtree.proofs.path.Path.search_after.Goals as goal

pub returns-clause-node : goal.returns-clause-node
returns-clause-node g c = λ exact shape t a.
    let bytes = c.args.view.bytes.now in
    let path = c.descend.new.self in
    let way = c.descend.ensures.leads exact c.begin.ensures.steps shape (subst (λ (root : ℕ). IsSearchTree bytes root shape) (sym c.begin.ensures.root) t) in
    let hung = subst (λ (root : ℕ). IsSearchTree bytes root shape) (sym (c.descend.ensures.root ∙ c.begin.ensures.root)) t in
    goes_above (λ (x : ℕ). g.O.NodeOrder.compare_key c.args.order.now bytes x c.args.key) (g.O.NodeOrder.compare c.args.order.now bytes) (λ x y less. g.met.O.NodeOrder.keyed exact c.args.order.now bytes x y c.args.key less)
    (λ x y e f. g.met.O.UniqueKeys.one exact c.args.order.now bytes x y c.args.key e f) bytes path c.go_on.new.self shape c.go_on.result hung a way (c.go_on.ensures.on way.layers way.rest)

pub returns-clause-inside : goal.returns-clause-inside
returns-clause-inside g c = λ exact.
    let bytes = c.args.view.bytes.now in
    let path = c.descend.new.self in
    goes_inside bytes path c.go_on.new.self c.go_on.result c.go_on.ensures.root c.go_on.ensures.on
    (λ (x : Tree) (u : IsSearchTree bytes path.root x). leads_inside (λ (n : ℕ). ordering_reverse (g.O.NodeOrder.compare_key c.args.order.now bytes n c.args.key)) x path
    (c.descend.ensures.leads exact c.begin.ensures.steps x (subst (λ (root : ℕ). IsSearchTree bytes root x) c.descend.ensures.root u)))
