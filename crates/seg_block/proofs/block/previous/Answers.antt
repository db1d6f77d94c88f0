use Rattle.std.proofs.Common.{arith}
use Rattle.seg_block.proofs.Neighbours.{previous_block}
use Rattle.seg_block.proofs.block.previous.Goals as goal
use Rattle.seg_block.proofs.block.previous.Goals.{then-units-lt2-via-then-units-lt2, then-units-lt2-via-else-units-lt2+then-units-block}

pub returns-then-units-lt2-clause-read : goal.returns-then-units-lt2-clause-read
returns-then-units-lt2-clause-read g c = λ xs ys l t was.
    let is = previous_block c.args.w.now.bytes xs ys c.args.block.at c.args.block.units c.units_before-units.result l t c.units_before-units.ensures was in
    elim c.then-units-lt2.branch [
      | then-units-lt2-via-then-units-lt2 w ↦ absurd (omega (arith, w.if-units-lt2, is.units_is, is.large))
      | then-units-lt2-via-else-units-lt2+then-units-block w ↦ absurd (omega (arith, w.if-units-block, is.units_is, is.end_is))
    ]

pub returns-clause-read : goal.returns-clause-read
returns-clause-read g c = λ xs ys l t was.
    let is = previous_block c.args.w.now.bytes xs ys c.args.block.at c.args.block.units c.units_before-units.result l t c.units_before-units.ensures was in
    (omega (arith, is.units_is, is.end_is), is.units_is)
