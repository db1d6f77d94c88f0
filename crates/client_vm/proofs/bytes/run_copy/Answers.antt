use Rattle.std.proofs.Common.{List, ℕ, map}
use Rattle.client_vm.specs.Moves.{moves_of}
use Rattle.client_vm.specs.Jobs.{effect_of}
use Rattle.client_vm.proofs.TogetherLaws.{has_outcome}
use Rattle.client_vm.proofs.bytes.run_copy.Goals as goal

pub returns-in-Ok-clause-outcome : goal.returns-in-Ok-clause-outcome
returns-in-Ok-clause-outcome g c =
    let schedule = c.args.schedule.now in
    let texts : List (List ℕ) = map (λ x. x.now) c.args.clients.now in
    let placed = c.in_ok-window.ensures in
    let effect = effect_of (g.W.Sink.taken c.args.out.now) (g.W.Sink.taken c.run_in.new.out) c.in-Ok.outcome in
    has_outcome texts (moves_of schedule.moves.now) c.args.input.now c.in_ok-window.window effect c.in-Ok.ensures.runs c.args.image.now schedule.room schedule.base placed.bytes placed.room placed.base c.requires.can_move
