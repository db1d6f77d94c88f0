use Rattle.std.proofs.Common.{◌≡◌, take}
use Rattle.client_spec.specs.Clients.{AreMoves}
use Rattle.client_vm.specs.Moves.{moves_of}
use Rattle.client_vm.proofs.MovesLaws.{step_after}
use Rattle.client_vm.proofs.moves.first_bad_move.Given as goal

abbrev pub invariant-loop-i : goal.invariant-loop-i
invariant-loop-i l = AreMoves l.room l.len 0 (take l.i (moves_of l.moves)) × (step_after 0 (take l.i (moves_of l.moves)) ≡ l.step)
