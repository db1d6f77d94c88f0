use Rattle.std.proofs.Common.{arith}
use Rattle.seg_block.proofs.Ends.{reached_none, reached_more, reached_end, reached_never}
use Rattle.seg_block.proofs.block.last_block.Goals as goal

pub loop-block-init : goal.loop-block-init
loop-block-init g c = (omega arith, λ ts low fits f h. reached_none c.args.w.now.bytes ts c.args.end low f h)

pub loop-block-preserved : goal.loop-block-preserved
loop-block-preserved g c = (
  omega (arith, c.in-Some.ensures.bounds),
  λ ts low fits f h.
      reached_more c.args.w.now.bytes ts c.args.end c.in-Some.block.at c.in-Some.block.units fits c.loop-block.at (c.loop-block.invariant.1 ts low fits f h) c.in-Some.ensures.read c.if-following-end.false,
)

pub returns-then-following-end-clause-last : goal.returns-then-following-end-clause-last
returns-then-following-end-clause-last g c = λ ts low fits f h.
    reached_end c.args.w.now.bytes ts c.args.end c.in-Some.block.at c.in-Some.block.units fits c.loop-block.at (c.loop-block.invariant.1 ts low fits f h) c.in-Some.ensures.read c.if-following-end.true

pub returns-clause-last : goal.returns-clause-last
returns-clause-last g c = λ ts low fits f h.
    reached_never c.args.w.now.bytes ts c.args.end 0 0 fits c.loop-block.at (c.loop-block.invariant.1 ts low fits f h) c.in_default.ensures.read
