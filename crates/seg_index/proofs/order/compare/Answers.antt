use Rattle.std.proofs.Common.{◌<◌, length, ◌∙◌, arith}
use Rattle.seg_cells.proofs.NameOrder.{by_byte, by_lengths}
use Rattle.seg_index.proofs.order.compare.Goals as goal

pub returns-then-name-i : goal.returns-then-name-i
returns-then-name-i c =
    let within : c.loop-i.i < length c.args.name.now = omega (arith, c.loop-i.invariant.end_is) in
    let within_other : c.loop-i.i < length c.args.other.now = omega (arith, c.loop-i.invariant.end_is) in
    c.cmp.ensures ∙ by_byte c.args.name.now c.args.other.now c.loop-i.i within within_other c.loop-i.invariant.alike c.if-name-i.true

pub returns : goal.returns
returns c =
    c.cmp-2.ensures ∙ by_lengths c.args.name.now c.args.other.now (λ k p q. c.loop-i.invariant.alike k (omega (arith, c.loop-i.invariant.end_is)))
