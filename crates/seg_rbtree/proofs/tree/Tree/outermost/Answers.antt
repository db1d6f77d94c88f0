use Rattle.std.proofs.Common.{refl, true, arith}
use Rattle.seg_rbtree.specs.Sides.{nodes_from}
use Rattle.seg_rbtree.proofs.SideSearchLaws.{always, search_begins, went_near, came_to_end, went_down}
use Rattle.seg_rbtree.proofs.tree.Tree.outermost.Goals as goal

pub loop-init : goal.loop-init
loop-init c = λ shape t. search_begins c.args.view.bytes.now c.args.side (λ _. true) shape c.args.self.root c.target-place.result c.target-place.ensures t (always (nodes_from c.args.side shape))

pub loop-preserved : goal.loop-preserved
loop-preserved c = λ shape t.
    went_near c.args.view.bytes.now c.args.side (λ _. true) shape c.loop.place c.loop.outermost c.loop.counter (c.loop.invariant shape t) c.in-Some.node c.child_in-place.result c.in-Some.is refl c.child_in-place.ensures

pub returns-after-loop : goal.returns-after-loop
returns-after-loop c = λ shape t.
    went_down c.args.view.bytes.now c.args.side (λ _. true) shape c.loop.place c.loop.outermost c.loop.counter (c.loop.invariant shape t) c.args.self.root t (omega arith)

pub returns-in_default : goal.returns-in_default
returns-in_default c = λ shape t.
    came_to_end c.args.view.bytes.now c.args.side (λ _. true) shape c.loop.place c.loop.outermost c.loop.counter (c.loop.invariant shape t) c.in_default.is
