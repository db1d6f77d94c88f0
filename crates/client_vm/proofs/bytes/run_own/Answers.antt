use Rattle.std.proofs.Common.{List, ℕ, length, map, sym, ap, ◌∙◌}
use Rattle.client_vm.specs.Moves.{moves_of}
use Rattle.client_vm.specs.Jobs.{effect_of}
use Rattle.client_vm.proofs.RefusalLaws.{placed_there, shows, whole_region}
use Rattle.client_vm.proofs.TogetherLaws.{has_outcome}
use Rattle.client_vm.proofs.bytes.run_own.Goals as goal

pub returns-in-Ok-clause-outcome : goal.returns-in-Ok-clause-outcome
returns-in-Ok-clause-outcome g c =
    let image = c.args.image.items in
    let len = c.args.len in
    let texts : List (List ℕ) = map (λ x. x.now) c.args.clients.now in
    let region = c.from_vec.result.bytes in
    let window = c.unwrap-window.result in
    let w = placed_there _ c.place.result window region 0 len c.unwrap-window.ensures c.place.ensures.window in
    let effect = effect_of (g.W.Sink.taken c.args.out.now) (g.W.Sink.taken c.run_in.new.out) c.in-Ok.outcome in
    has_outcome texts (moves_of c.args.moves.now) c.args.input.now window effect c.in-Ok.ensures.runs image len 0
    (shows window region 0 len image w.0 w.1 w.2 c.requires.len (whole_region image region c.from_vec.ensures.bytes)) (ap length (w.0 ∙ c.from_vec.ensures.bytes) ∙ sym c.requires.len) w.1 c.requires.can_move
