use Rattle.std.proofs.Common.{arith}
use Rattle.client_vm.proofs.MovesLaws.{fits_too, is_bad}
use Rattle.client_vm.proofs.moves.first_bad_move.Goals.{then-next-step-via-then-next-step, then-next-step-via-else-next-step+then-not-is_place}
use Rattle.client_vm.proofs.moves.first_bad_move.Goals as goal

pub returns-then-next-step : goal.returns-then-next-step
returns-then-next-step c =
    is_bad c.args.room c.args.len c.args.moves.now c.loop-i.i (omega (arith, c.loop-i-test.true)) c.loop-i.step c.loop-i.invariant
    (λ above placed. elim c.then-next-step.branch [
      | then-next-step-via-then-next-step w ↦ absurd (omega (arith, w.if-next-step, above))
      | then-next-step-via-else-next-step+then-not-is_place w ↦ let is = w.is_place.ensures.1 placed in let isnt = w.if-not-is_place.true in cc
    ])

pub loop-i-preserved : goal.loop-i-preserved
loop-i-preserved c = fits_too c.args.room c.args.len c.args.moves.now c.loop-i.i (omega (arith, c.loop-i-test.true)) c.loop-i.step c.loop-i.invariant (omega (arith, c.if-next-step.false)) (c.is_place.ensures.0 c.if-not-is_place.false)
