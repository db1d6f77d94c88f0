use Rattle.std.proofs.Common.{◌+◌, ◌*◌}
use Rattle.seg_block.proofs.Neighbours.{next_block, last_end, none_at_end}
use Rattle.seg_block.proofs.block.next.Goals as goal

pub returns-clause-read : goal.returns-clause-read
returns-clause-read g c = λ xs ys l t was.
    let is = next_block c.args.w.now.bytes xs ys c.args.block.at c.args.block.units l t was in
    c.block_at.ensures.read (record { at = t.at; units = t.units }) is.0 is.1

pub returns-clause-none : goal.returns-clause-none
returns-clause-none g c = λ xs l was.
    none_at_end c.args.w.now.bytes c.block_at.result (c.args.block.at + 16 * c.args.block.units) (last_end c.args.w.now.bytes xs c.args.block.at c.args.block.units l was) c.block_at.ensures.bounds
