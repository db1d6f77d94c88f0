use Rattle.std.proofs.Common.{refl, ◌∙◌, arith}
use Rattle.seg_rbtree.proofs.NodeRemovalLaws.{descending_start, descending_on, descended, descending_low, descending_room, descending_few}
use Rattle.seg_rbtree.proofs.next.descend_from.Goals as goal

pub loop-init : goal.loop-init
loop-init c = record {
  root = refl;
  descending = λ layers tree s named. descending_start c.args.view.bytes.now c.args.path.now c.args.node layers tree s named;
}

pub loop-preserved : goal.loop-preserved
loop-preserved c = record {
  root = c.push.ensures.root ∙ c.loop.invariant.root;
  descending = λ layers tree s named.
      descending_on c.args.view.bytes.now c.loop.path c.push.new.self layers tree c.loop.first c.in-Some.left c.loop.counter c.child_in.result c.child_in.ensures c.in-Some.is
      (c.push.ensures.pushed c.if-not-push.false (descending_low c.args.view.bytes.now c.args.path.now c.loop.path layers tree c.loop.first c.loop.counter c.args.view.small s (c.loop.invariant.descending layers tree s named)))
      (c.loop.invariant.descending layers tree s named);
}

pub returns-then-not-push-clause-descended : goal.returns-then-not-push-clause-descended
returns-then-not-push-clause-descended c = λ layers tree s named.
    let room = c.push.ensures.room (descending_room c.args.view.bytes.now c.loop.path layers tree c.loop.first c.loop.counter s.whole.red_black s.whole.few (c.loop.invariant.descending layers tree s named)) in
    let none = c.if-not-push.true in
    cc

pub returns-in_default-clause-descended : goal.returns-in_default-clause-descended
returns-in_default-clause-descended c = λ layers tree s named.
    descended c.args.view.bytes.now c.loop.path layers tree c.loop.first c.loop.counter c.child_in.result c.child_in.ensures c.in_default.is (c.loop.invariant.descending layers tree s named)

pub returns-clause-descended : goal.returns-clause-descended
returns-clause-descended c = λ layers tree s named.
    absurd (omega (arith, c.loop-test.false, descending_few c.args.view.bytes.now c.loop.path layers tree c.loop.first c.loop.counter s.whole.red_black s.whole.few (c.loop.invariant.descending layers tree s named)))
