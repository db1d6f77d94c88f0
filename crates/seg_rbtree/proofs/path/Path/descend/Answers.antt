use Rattle.std.proofs.Common.{◌≡◌, true, length, refl, sym, ap, ◌∙◌, arith}
use Rattle.seg_rbtree.specs.Ways.{turn_of}
use Rattle.seg_rbtree.specs.Paths.{sought_by}
use Rattle.seg_rbtree.proofs.PlacePathLaws.{walking_start, walking_room, walked, walked_to_end, walked_to_node, walked_all}
use Rattle.seg_rbtree.proofs.path.Path.descend.Goals.{in-Less, in-Greater}
use Rattle.seg_rbtree.proofs.path.Path.descend.Goals as goal

pub loop-init : goal.loop-init
loop-init g c = record {
  root = refl;
  walks = λ exact empty shape t. walking_start c.args.view.bytes.now c.args.self.now.root _ shape c.args.self.now.steps.items c.word-word.result empty c.word-word.ensures;
}

pub loop-preserved : goal.loop-preserved
loop-preserved g c = record {
  root = c.push.ensures.root ∙ c.loop.invariant.root;
  walks = λ exact empty shape t.
      let bytes = c.args.view.bytes.now in
      let turn = sought_by (g.O.NodeOrder.compare c.args.order.now bytes) (g.O.NodeOrder.compare_key c.args.order.now bytes) c.args.sought in
      let named = sym c.target.ensures ∙ c.in-Some.is in
      let compared = c.compare.ensures exact in
      let side : turn c.in-Some.node ≡ turn_of c.match-compare.side = elim c.match-compare.branch [
        | in-Less w ↦ sym compared ∙ w.in-Less.is ∙ sym (ap turn_of w.side-is)
        | in-Greater w ↦ sym compared ∙ w.in-Greater.is ∙ sym (ap turn_of w.side-is)
      ] in
      walked bytes c.args.self.now.root turn shape c.loop.self.steps.items c.push.new.self.steps.items c.loop.word c.child_word-word.result c.loop.counter c.in-Some.node c.match-compare.side c.args.view.small named side
      (c.push.ensures.pushed c.if-not-push.false) c.child_word-word.ensures t.is_tree (c.loop.invariant.walks exact empty shape t);
}

pub returns-after-loop-clause-leads : goal.returns-after-loop-clause-leads
returns-after-loop-clause-leads g c = λ exact empty shape t.
    walked_all c.args.view.bytes.now c.args.self.now.root _ shape c.loop.self c.loop.word c.loop.counter (omega arith) t (c.loop.invariant.walks exact empty shape t)

pub returns-in_default-clause-leads : goal.returns-in_default-clause-leads
returns-in_default-clause-leads g c = λ exact empty shape t.
    walked_to_end c.args.view.bytes.now c.args.self.now.root _ shape c.loop.self c.loop.word c.loop.counter
    (sym c.target.ensures ∙ c.in_default.is) t.is_tree (c.loop.invariant.walks exact empty shape t)

pub returns-in-Equal-clause-leads : goal.returns-in-Equal-clause-leads
returns-in-Equal-clause-leads g c = λ exact empty shape t.
    walked_to_node c.args.view.bytes.now c.args.self.now.root _ shape c.loop.self c.loop.word c.loop.counter c.in-Some.node
    (sym c.target.ensures ∙ c.in-Some.is) (sym (c.compare.ensures exact) ∙ c.in-Equal.is) t.is_tree (c.loop.invariant.walks exact empty shape t)

pub returns-then-not-push-clause-leads : goal.returns-then-not-push-clause-leads
returns-then-not-push-clause-leads g c = λ exact empty shape t.
    let long : length c.loop.self.steps.items ≡ c.loop.counter = walking_room c.args.view.bytes.now c.args.self.now.root _ shape c.loop.self.steps.items c.loop.word c.loop.counter (c.loop.invariant.walks exact empty shape t) in
    let pushed : c.push.result ≡ true = c.push.ensures.room (omega (arith, c.loop-test.true)) in
    let failed = c.if-not-push.true in
    absurd (cc)
