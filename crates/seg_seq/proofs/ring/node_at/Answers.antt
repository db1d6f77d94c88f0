use Rattle.std.proofs.Common.{◌≡◌, ◌-◌, length, get_or, ap, ◌∙◌, arith}
use Rattle.seg_seq.proofs.RingWalkLaws.{starts, forward_is, backward_is}
use Rattle.seg_seq.proofs.ring.node_at.Goals as goal

pub returns-then-index-from_end : goal.returns-then-index-from_end
returns-then-index-from_end g c = λ nodes r s h.
    let bytes = (g.S.SegmentRead.stored c.args.source.now).window.bytes in
    let cell = c.args.cell in
    c.walk.ensures cell 0 nodes r s (omega arith) (c.start-first.ensures ∙ starts bytes cell nodes r s (omega arith)) (omega arith)
    ∙ ap (λ k. get_or nodes k 0) (forward_is bytes cell nodes r s c.args.index h)

pub returns-else-index-from_end : goal.returns-else-index-from_end
returns-else-index-from_end g c = λ nodes r s h.
    let bytes = (g.S.SegmentRead.stored c.args.source.now).window.bytes in
    let cell = c.args.cell in
    let steps = c.saturating_sub-from_end.result in
    let counted = r.counted in
    let steps_are : steps ≡ length nodes - c.args.index = let a = c.saturating_sub-from_end.ensures in let b = c.count.ensures in omega arith in
    c.walk-else-index-from_end.ensures cell 0 nodes r s (omega arith) (c.start-first.ensures ∙ starts bytes cell nodes r s (omega arith)) (omega arith)
    ∙ ap (λ k. get_or nodes k 0) (backward_is bytes cell nodes r s c.args.index steps h steps_are)
