use Rattle.std.proofs.Common.{◌≡◌, length, get_or, sym, ap, ◌∙◌, arith}
use Rattle.seg_seq.specs.Rings.{around}
use Rattle.seg_seq.proofs.RingWalkLaws.{walked, around_none}
use Rattle.seg_seq.proofs.ring.walk.Goals as goal

pub loop-init : goal.loop-init
loop-init g c = λ cell i nodes r s h e few. e ∙ ap (λ k. get_or nodes k 0) (sym (around_none c.args.way (length nodes) i h))

pub loop-preserved : goal.loop-preserved
loop-preserved g c = λ cell i nodes r s h e few.
    let test = c.loop-test.true in
    let end = c.min-end.ensures in
    walked (g.S.SegmentRead.stored c.args.source.now).window.bytes cell nodes r s c.args.way i c.loop.counter c.loop.node c.neighbour-node.result h (omega arith) (c.loop.invariant cell i nodes r s h e few) c.neighbour-node.ensures

pub returns : goal.returns
returns g c = λ cell i nodes r s h e few.
    let test = c.loop-test.false in
    let end = c.min-end.ensures in
    let bound = c.loop.auto.counter-end in
    let long = c.len.ensures ∙ ap length c.view.ensures in
    let most = s.few in
    let all : c.loop.counter ≡ c.args.steps = omega arith in
    c.loop.invariant cell i nodes r s h e few ∙ ap (λ k. get_or nodes (around c.args.way (length nodes) i k) 0) all
