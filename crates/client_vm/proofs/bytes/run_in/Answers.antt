use Rattle.std.proofs.Common.{List, ℕ, sym, subst}
use Rattle.client_spec.specs.Clients.{AreAccepted}
use Rattle.client_vm.specs.Moves.{moves_of}
use Rattle.client_vm.specs.Jobs.{effect_of}
use Rattle.client_vm.specs.Together.{HaveRunOn}
use Rattle.client_vm.proofs.bytes.run_in.Goals as goal

pub returns-in-Ok-clause-runs : goal.returns-in-Ok-clause-runs
returns-in-Ok-clause-runs g c =
    let made = c.in-Ok.ensures in
    let effect = effect_of (g.W.Sink.taken c.args.out.now) (g.W.Sink.taken c.run_admitted.new.out) c.run_admitted.result in
    let its = λ (texts : List (List ℕ)). HaveRunOn texts (moves_of c.args.moves.now) c.args.input.now c.args.window effect in
    subst its made.texts (c.run_admitted.ensures.runs made.image made.accepted.0 (subst (λ (texts : List (List ℕ)). AreAccepted c.in-Ok.admitted.types texts made.accepted.0) (sym made.texts) made.accepted.1))
