use Rattle.std.proofs.Common.{ℕ, ◌≡◌, Some, sym, subst}
use Rattle.std.specs.Prelude.{IfSome}
use Rattle.std.specs.declared.cmp.Ordering.TheVariants.{Equal}
use Rattle.seg_spec.specs.Search.{IsSearchTree}
use Rattle.seg_rbtree.specs.Paths.{node_at}
use Rattle.seg_rbtree.proofs.ClimbLaws.{goes_above, goes_inside, leads_there}
use Rattle.seg_rbtree.proofs.path.Path.next_after.Goals as goal

pub returns-in-Some-clause-node : goal.returns-in-Some-clause-node
returns-in-Some-clause-node g c = λ exact inside shape t a.
    let bytes = c.args.view.bytes.now in
    let path = c.args.self.now in
    let node = c.in-Some.node in
    let compare = λ (x : ℕ). g.O.NodeOrder.compare_key c.args.order.now bytes x c.args.key in
    let order = g.O.NodeOrder.compare c.args.order.now bytes in
    let there = subst (λ o. IfSome o (λ n. (path.root ≡ c.args.tree.root) × (node_at bytes path ≡ Some n))) c.in-Some.is c.node_with_key.ensures.there in
    let equals : compare node ≡ Equal = subst (λ o. IfSome o (λ n. compare n ≡ Equal)) c.in-Some.is (c.node_with_key.ensures.equals exact) in
    let hung = subst (λ (root : ℕ). IsSearchTree bytes root shape) (sym there.0) t in
    let way = leads_there compare order (λ x y less. g.met.O.NodeOrder.keyed exact c.args.order.now bytes x y c.args.key less)
    (λ x y e f. g.met.O.UniqueKeys.one exact c.args.order.now bytes x y c.args.key e f) bytes path shape node hung a (inside shape hung) there.1 equals in
    goes_above compare order (λ x y less. g.met.O.NodeOrder.keyed exact c.args.order.now bytes x y c.args.key less)
    (λ x y e f. g.met.O.UniqueKeys.one exact c.args.order.now bytes x y c.args.key e f) bytes path c.go_on_from.new.self shape c.go_on_from.result hung a way (c.go_on_from.ensures.on there.1 way.layers way.rest)

pub returns-in-Some-clause-inside : goal.returns-in-Some-clause-inside
returns-in-Some-clause-inside g c = λ exact inside.
    let bytes = c.args.view.bytes.now in
    let path = c.args.self.now in
    let there = subst (λ o. IfSome o (λ n. (path.root ≡ c.args.tree.root) × (node_at bytes path ≡ Some n))) c.in-Some.is c.node_with_key.ensures.there in
    goes_inside bytes path c.go_on_from.new.self c.go_on_from.result c.go_on_from.ensures.root (c.go_on_from.ensures.on there.1) inside
