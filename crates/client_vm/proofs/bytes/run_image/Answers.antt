use Rattle.std.proofs.Common.{List, ℕ, map, sym, subst}
use Rattle.std.proofs.lemmas.Result.{IfErr-weaker}
use Rattle.client_spec.specs.Outcome.{CanMove}
use Rattle.client_vm.specs.Moves.{moves_of}
use Rattle.client_vm.specs.Admitted.{IsWrong}
use Rattle.client_vm.specs.Jobs.{job_at, job_of, effect_of}
use Rattle.client_vm.specs.Outcomes.{IsFaultOfCall, IsRefusedFor, HasOutcome}
use Rattle.client_vm.proofs.RefusalLaws.{why}
use Rattle.client_vm.proofs.TogetherLaws.{if_ok}
use Rattle.client_vm.proofs.ImagePlaceLaws.{outcome_elsewhere}
use Rattle.client_vm.proofs.bytes.run_image.Goals as goal

pub returns-in-Err-clause-refused : goal.returns-in-Err-clause-refused
returns-in-Err-clause-refused g c =
    let schedule = c.args.schedule.now in
    let image = c.args.image.items in
    let texts : List (List ℕ) = map (λ x. x.now) c.args.clients.now in
    subst (IsRefusedFor (job_of image texts c.args.input.now schedule)) (sym c.from.ensures)
    (subst (λ (i : List ℕ). IsFaultOfCall i texts schedule.room schedule.base (moves_of schedule.moves.now) c.in-Err.fault) c.as_slice.ensures.value (c.in-Err.ensures.refused texts))

pub returns-then-len-least-clause-refused : goal.returns-then-len-least-clause-refused
returns-then-len-least-clause-refused g c =
    let schedule = c.args.schedule.now in
    let image = c.args.image.items in
    let texts : List (List ℕ) = map (λ x. x.now) c.args.clients.now in
    let moves = moves_of schedule.moves.now in
    let can = subst (λ (i : List ℕ). CanMove i schedule.room schedule.base moves) c.as_slice.ensures.value c.in-Ok.ensures.fits in
    IfErr-weaker c.run_own.result (λ unrun. IsWrong image texts unrun.refused) (λ unrun. IsRefusedFor (job_of image texts c.args.input.now schedule) unrun.refused)
    (λ unrun h. why image texts schedule.room schedule.base moves can unrun.refused.client unrun.refused.fault h) c.run_own.ensures.refused

pub returns-in-Err-run_copy-clause-refused : goal.returns-in-Err-run_copy-clause-refused
returns-in-Err-run_copy-clause-refused g c =
    let schedule = c.args.schedule.now in
    let image = c.args.image.items in
    let texts : List (List ℕ) = map (λ x. x.now) c.args.clients.now in
    let moves = moves_of schedule.moves.now in
    let refused = c.in-Err-run_copy.refused in
    let can = subst (λ (i : List ℕ). CanMove i schedule.room schedule.base moves) c.as_slice.ensures.value c.in-Ok.ensures.fits in
    why image texts schedule.room schedule.base moves can refused.client refused.fault (subst (λ (i : List ℕ). IsWrong i texts refused) c.as_slice-2.ensures.value c.in-Err-run_copy.ensures.refused)

pub returns-then-len-least-clause-outcome : goal.returns-then-len-least-clause-outcome
returns-then-len-least-clause-outcome g c =
    let schedule = c.args.schedule.now in
    let image = c.args.image.items in
    let input = c.args.input.now in
    let len = c.in-Ok.len in
    let texts : List (List ℕ) = map (λ x. x.now) c.args.clients.now in
    let moves = moves_of schedule.moves.now in
    let made = moves_of c.least_room-least.result.moves.now in
    let before = g.W.Sink.taken c.args.out.now in
    let after = g.W.Sink.taken c.run_own.new.out in
    let can = subst (λ (i : List ℕ). CanMove i schedule.room schedule.base moves) c.as_slice.ensures.value c.in-Ok.ensures.fits in
    if_ok (λ o. HasOutcome (job_at image texts input len 0 made) (effect_of before after o)) (λ o. HasOutcome (job_of image texts input schedule) (effect_of before after o)) c.run_own.result
    (λ o h. outcome_elsewhere image texts input schedule.room schedule.base moves can len 0 made (effect_of before after o) h) c.run_own.ensures.outcome

pub returns-in-Ok-run_copy-clause-outcome : goal.returns-in-Ok-run_copy-clause-outcome
returns-in-Ok-run_copy-clause-outcome g c =
    let schedule = c.args.schedule.now in
    let least = c.least_room-least.result in
    let image = c.args.image.items in
    let input = c.args.input.now in
    let texts : List (List ℕ) = map (λ x. x.now) c.args.clients.now in
    let moves = moves_of schedule.moves.now in
    let effect = effect_of (g.W.Sink.taken c.args.out.now) (g.W.Sink.taken c.run_copy.new.out) c.in-Ok-run_copy.outcome in
    let can = subst (λ (i : List ℕ). CanMove i schedule.room schedule.base moves) c.as_slice.ensures.value c.in-Ok.ensures.fits in
    outcome_elsewhere image texts input schedule.room schedule.base moves can least.room least.base (moves_of least.moves.now) effect
    (subst (λ (i : List ℕ). HasOutcome (job_of i texts input least) effect) c.as_slice-2.ensures.value c.in-Ok-run_copy.ensures.outcome)
