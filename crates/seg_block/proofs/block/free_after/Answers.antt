use Rattle.seg_block.specs.Tiling.{tile}
use Rattle.seg_block.proofs.Neighbours.{next_flag, read_free, read_live}
use Rattle.seg_block.proofs.block.free_after.Goals as goal

pub returns-then-is_live-clause-read : goal.returns-then-is_live-clause-read
returns-then-is_live-clause-read g c = λ xs ys l t was.
    let flag = next_flag c.args.w.now.bytes xs ys (tile c.args.block.at c.args.block.units l) t was in
    read_live c.args.w.now.bytes t c.in_ok-following.following c.is_live.result flag (c.in_ok-following.ensures.read xs ys l t was) c.is_live.ensures c.if-is_live.true

pub returns-clause-read : goal.returns-clause-read
returns-clause-read g c = λ xs ys l t was.
    let flag = next_flag c.args.w.now.bytes xs ys (tile c.args.block.at c.args.block.units l) t was in
    read_free c.args.w.now.bytes t c.in_ok-following.following c.is_live.result flag (c.in_ok-following.ensures.read xs ys l t was) c.is_live.ensures c.if-is_live.false
