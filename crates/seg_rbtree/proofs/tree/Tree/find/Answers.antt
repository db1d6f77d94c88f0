use Rattle.std.proofs.Common.{ℕ, ◌≡◌, sym, ap, ◌∙◌, arith}
use Rattle.std.specs.Ordering.{ordering_reverse}
use Rattle.seg_rbtree.specs.Ways.{turn_of}
use Rattle.seg_rbtree.proofs.KeySearchLaws.{seeking_start, sought_on, sought_all, sought_nothing, sought_node}
use Rattle.seg_rbtree.proofs.tree.Tree.find.Goals.{in-Less, in-Greater}
use Rattle.seg_rbtree.proofs.tree.Tree.find.Goals as goal

pub loop-init : goal.loop-init
loop-init g c = λ exact shape t. seeking_start c.args.view.bytes.now _ shape c.args.self.root c.target-place.result c.target-place.ensures t.is_tree

pub loop-preserved : goal.loop-preserved
loop-preserved g c = λ exact shape t.
    let bytes = c.args.view.bytes.now in
    let turn = λ (x : ℕ). ordering_reverse (g.O.NodeOrder.compare_key c.args.order.now bytes x c.args.key) in
    let side : turn c.in_ok-node.node ≡ turn_of c.match-key.side = elim c.match-key.branch [
      | in-Less w ↦ ap ordering_reverse (sym (c.key.ensures exact) ∙ w.in-Less.is) ∙ sym (ap turn_of w.side-is)
      | in-Greater w ↦ ap ordering_reverse (sym (c.key.ensures exact) ∙ w.in-Greater.is) ∙ sym (ap turn_of w.side-is)
    ] in
    sought_on bytes turn shape c.loop.place c.child_in-place.result c.in_ok-node.node c.loop.counter c.match-key.side c.in_ok-node.was c.child_in-place.ensures side (c.loop.invariant exact shape t)

pub returns-in_err-node : goal.returns-in_err-node
returns-in_err-node g c = λ exact shape t a.
    let bytes = c.args.view.bytes.now in
    let order = g.O.NodeOrder.compare c.args.order.now bytes in
    let compare = λ (x : ℕ). g.O.NodeOrder.compare_key c.args.order.now bytes x c.args.key in
    c.from_residual.ensures
    ∙ sought_nothing compare order (λ x y less. g.met.O.NodeOrder.keyed exact c.args.order.now bytes x y c.args.key less) (λ x y e f. g.met.O.UniqueKeys.one exact c.args.order.now bytes x y c.args.key e f)
    bytes shape c.loop.place c.loop.counter c.in_err-node.was a (c.loop.invariant exact shape t)

pub returns-in-Equal : goal.returns-in-Equal
returns-in-Equal g c = λ exact shape t a.
    let bytes = c.args.view.bytes.now in
    let order = g.O.NodeOrder.compare c.args.order.now bytes in
    let compare = λ (x : ℕ). g.O.NodeOrder.compare_key c.args.order.now bytes x c.args.key in
    sought_node compare order (λ x y less. g.met.O.NodeOrder.keyed exact c.args.order.now bytes x y c.args.key less) (λ x y e f. g.met.O.UniqueKeys.one exact c.args.order.now bytes x y c.args.key e f)
    bytes shape c.loop.place c.in_ok-node.node c.loop.counter c.in_ok-node.was
    (sym (c.key.ensures exact) ∙ c.in-Equal.is) a (c.loop.invariant exact shape t)

pub returns : goal.returns
returns g c = λ exact shape t a.
    let bytes = c.args.view.bytes.now in
    let order = g.O.NodeOrder.compare c.args.order.now bytes in
    let compare = λ (x : ℕ). g.O.NodeOrder.compare_key c.args.order.now bytes x c.args.key in
    let turn = λ (x : ℕ). ordering_reverse (compare x) in
    let s = c.loop.invariant exact shape t in
    sought_nothing compare order (λ x y less. g.met.O.NodeOrder.keyed exact c.args.order.now bytes x y c.args.key less) (λ x y e f. g.met.O.UniqueKeys.one exact c.args.order.now bytes x y c.args.key e f)
    bytes shape c.loop.place c.loop.counter (sought_all bytes turn shape c.args.self.root c.loop.place c.loop.counter (omega arith) t s) a s
