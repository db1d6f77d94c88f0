use Rattle.std.proofs.Common.{ℕ, ◌+◌, Option, ap, sym, ◌∙◌, subst, arith}
use Rattle.seg_spec.specs.Pointer.{target}
use Rattle.seg_rbtree.specs.declared.node.Side.{Side}
use Rattle.seg_rbtree.specs.Nodes.{side_word, opposite}
use Rattle.seg_rbtree.specs.Sides.{is_beyond}
use Rattle.seg_rbtree.proofs.SideSearchLaws.{IsSearching, twice_opposite, beyond_upward, search_begins, went_near, went_far, came_to_end, went_down}
use Rattle.seg_rbtree.proofs.tree.Tree.nearest.Goals.{then-is_beyond, else-is_beyond}
use Rattle.seg_rbtree.proofs.tree.Tree.nearest.Goals as goal

pub loop-init : goal.loop-init
loop-init g c = λ exact shape t a.
    let bytes = c.args.view.bytes.now in
    let compare = λ (n : ℕ). g.O.NodeOrder.compare_key c.args.order.now bytes n c.args.key in
    let order = g.O.NodeOrder.compare c.args.order.now bytes in
    search_begins bytes (opposite c.args.side) (λ n. is_beyond c.args.side (compare n)) shape c.args.self.root c.target-place.result c.target-place.ensures t
    (beyond_upward c.args.side order compare (λ x y l. g.met.O.NodeOrder.keyed exact c.args.order.now bytes x y c.args.key l) shape a)

pub loop-preserved : goal.loop-preserved
loop-preserved g c = λ exact shape t a.
    let bytes = c.args.view.bytes.now in
    let p = λ (n : ℕ). is_beyond c.args.side (g.O.NodeOrder.compare_key c.args.order.now bytes n c.args.key) in
    let key_is = sym (ap (is_beyond c.args.side) (c.key.ensures exact)) ∙ sym c.is_beyond.ensures in
    let s = c.loop.invariant exact shape t a in
    elim c.if-is_beyond.branch [
      | then-is_beyond w ↦ subst (λ (o : Option ℕ). IsSearching bytes (opposite c.args.side) p shape c.if-is_beyond.place o (c.loop.counter + 1)) (sym w.nearest-is)
          (went_near bytes (opposite c.args.side) p shape c.loop.place c.loop.nearest c.loop.counter s c.in-Some.node c.if-is_beyond.place c.in-Some.is (key_is ∙ w.if-is_beyond.true)
          (w.place-is ∙ w.child_in-place.ensures ∙ ap (λ (side : Side). target bytes (side_word c.in-Some.node side)) w.other.ensures))
      | else-is_beyond w ↦ subst (λ (o : Option ℕ). IsSearching bytes (opposite c.args.side) p shape c.if-is_beyond.place o (c.loop.counter + 1)) (sym w.nearest-is)
          (went_far bytes (opposite c.args.side) p shape c.loop.place c.loop.nearest c.loop.counter s c.in-Some.node c.if-is_beyond.place c.in-Some.is (key_is ∙ w.if-is_beyond.false)
          (w.place-is ∙ w.child_in-place-else-is_beyond.ensures ∙ ap (λ (side : Side). target bytes (side_word c.in-Some.node side)) (sym (twice_opposite c.args.side))))
    ]

pub returns-after-loop : goal.returns-after-loop
returns-after-loop g c = λ exact shape t a.
    let bytes = c.args.view.bytes.now in
    went_down bytes (opposite c.args.side) (λ (n : ℕ). is_beyond c.args.side (g.O.NodeOrder.compare_key c.args.order.now bytes n c.args.key)) shape c.loop.place c.loop.nearest c.loop.counter
    (c.loop.invariant exact shape t a) c.args.self.root t (omega arith)

pub returns-in_default : goal.returns-in_default
returns-in_default g c = λ exact shape t a.
    let bytes = c.args.view.bytes.now in
    came_to_end bytes (opposite c.args.side) (λ (n : ℕ). is_beyond c.args.side (g.O.NodeOrder.compare_key c.args.order.now bytes n c.args.key)) shape c.loop.place c.loop.nearest c.loop.counter
    (c.loop.invariant exact shape t a) c.in_default.is
