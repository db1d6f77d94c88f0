use Rattle.std.proofs.Common.{ℕ, ◌+◌, ◌≤◌, ◌^◌, length, ap, sym, ◌∙◌, subst, arith}
use Rattle.std.specs.declared.cmp.Ordering.TheVariants.{Equal}
use Rattle.seg_spec.specs.Shapes.{IsTree, nodes_of}
use Rattle.seg_spec.specs.Search.{reaches, looks}
use Rattle.seg_spec.proofs.TreeSearchLaws.{looks-64, looks-bound}
use Rattle.seg_rbtree.proofs.FirstNodeSearchLaws.{upward_of, reaches_up}
use Rattle.seg_rbtree.proofs.CountedSearchLaws.{counting_start, went_left, went_right, came_to_end, counting_stop}
use Rattle.seg_rbtree.proofs.tree.Tree.first_at_least.Goals as goal

pub loop-found-init : goal.loop-found-init
loop-found-init g c = record {
  few = omega arith;
  searching = λ exact shape t a.
      let bytes = c.args.view.bytes.now in
      let order = g.O.NodeOrder.compare c.args.order.now bytes in
      counting_start bytes (λ n. reaches Equal (g.O.NodeOrder.compare_key c.args.order.now bytes n c.args.key)) shape c.target-place.result
      (subst (λ o. IsTree bytes o shape) (sym c.target-place.ensures) t.is_tree)
      (upward_of order _ (λ x y l e. reaches_up Equal _ _ (g.met.O.NodeOrder.keyed exact c.args.order.now bytes x y c.args.key l) e) (nodes_of shape) a);
}

pub loop-found-preserved-then-is_at_least : goal.loop-found-preserved-then-is_at_least
loop-found-preserved-then-is_at_least g c = record {
  few = omega (arith, c.loop-found-test.true);
  searching = λ exact shape t a.
      let bytes = c.args.view.bytes.now in
      went_left bytes (λ n. reaches Equal (g.O.NodeOrder.compare_key c.args.order.now bytes n c.args.key)) shape c.loop-found.place c.loop-found.found.node c.child_in-place.result c.in-Some.node c.loop-found.found.looks
      c.in-Some.is (sym (ap (reaches Equal) (c.key.ensures exact)) ∙ sym c.is_at_least.ensures ∙ c.if-is_at_least.true) c.child_in-place.ensures (c.loop-found.invariant.searching exact shape t a);
}

pub loop-found-preserved : goal.loop-found-preserved
loop-found-preserved g c = record {
  few = omega (arith, c.loop-found-test.true);
  searching = λ exact shape t a.
      let bytes = c.args.view.bytes.now in
      went_right bytes (λ n. reaches Equal (g.O.NodeOrder.compare_key c.args.order.now bytes n c.args.key)) shape c.loop-found.place c.loop-found.found.node
      c.child_in-place-else-is_at_least.result c.in-Some.node c.loop-found.found.looks
      c.in-Some.is (sym (ap (reaches Equal) (c.key.ensures exact)) ∙ sym c.is_at_least.ensures ∙ c.if-is_at_least.false) c.child_in-place-else-is_at_least.ensures (c.loop-found.invariant.searching exact shape t a);
}

pub returns-after-loop-found-clause-node : goal.returns-after-loop-found-clause-node
returns-after-loop-found-clause-node g c = λ exact shape t a.
    let bytes = c.args.view.bytes.now in
    let p = λ (n : ℕ). reaches Equal (g.O.NodeOrder.compare_key c.args.order.now bytes n c.args.key) in
    let enough : looks p shape ≤ c.loop-found.found.looks = omega (arith, looks-64 p shape t.red_black t.few, c.loop-found-test.false) in
    (counting_stop bytes p shape c.loop-found.place c.loop-found.found.node c.loop-found.found.looks enough (c.loop-found.invariant.searching exact shape t a)).node_is

pub returns-after-loop-found-clause-looks : goal.returns-after-loop-found-clause-looks
returns-after-loop-found-clause-looks g c = λ exact shape t a.
    let bytes = c.args.view.bytes.now in
    let p = λ (n : ℕ). reaches Equal (g.O.NodeOrder.compare_key c.args.order.now bytes n c.args.key) in
    let enough : looks p shape ≤ c.loop-found.found.looks = omega (arith, looks-64 p shape t.red_black t.few, c.loop-found-test.false) in
    (counting_stop bytes p shape c.loop-found.place c.loop-found.found.node c.loop-found.found.looks enough (c.loop-found.invariant.searching exact shape t a)).looks_are

pub returns-after-loop-found-clause-bound : goal.returns-after-loop-found-clause-bound
returns-after-loop-found-clause-bound g c = λ exact shape t a.
    let p = λ (n : ℕ). reaches Equal (g.O.NodeOrder.compare_key c.args.order.now c.args.view.bytes.now n c.args.key) in
    subst (λ (k : ℕ). 2 ^ k ≤ (length (nodes_of shape) + 1) ^ 2) (sym (returns-after-loop-found-clause-looks g c exact shape t a)) (looks-bound p shape t.red_black)

pub returns-in_default-clause-bound : goal.returns-in_default-clause-bound
returns-in_default-clause-bound g c = λ exact shape t a.
    let bytes = c.args.view.bytes.now in
    let p = λ (n : ℕ). reaches Equal (g.O.NodeOrder.compare_key c.args.order.now bytes n c.args.key) in
    let counted = came_to_end bytes p shape c.loop-found.place c.loop-found.found.node c.loop-found.found.looks c.in_default.is (c.loop-found.invariant.searching exact shape t a) in
    subst (λ (k : ℕ). 2 ^ k ≤ (length (nodes_of shape) + 1) ^ 2) (sym counted.looks_are) (looks-bound p shape t.red_black)
