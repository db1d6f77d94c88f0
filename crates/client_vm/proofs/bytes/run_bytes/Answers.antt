use Rattle.std.proofs.Common.{List, ℕ, map, None}
use Rattle.client_vm.specs.Moves.{moves_of}
use Rattle.client_vm.specs.Jobs.{job_of, effect_of}
use Rattle.client_vm.specs.Outcomes.{IsRefusedFor, HasOutcome}
use Rattle.client_vm.proofs.RefusalLaws.{err_is, refused_for}
use Rattle.client_vm.proofs.TogetherLaws.{if_ok}
use Rattle.client_vm.proofs.ImagePlaceLaws.{outcome_elsewhere}
use Rattle.client_vm.proofs.bytes.run_bytes.Goals as goal

pub returns-in_err-len-clause-refused : goal.returns-in_err-len-clause-refused
returns-in_err-len-clause-refused g c =
    let texts : List (List ℕ) = map (λ x. x.now) c.args.clients.now in
    let job = job_of c.args.image.now texts c.args.input.now c.args.schedule.now in
    err_is c.from_residual.result (record { client = None; fault = c.in_err-len.field-0.0 }) (IsRefusedFor job) (c.in_err-len.ensures.refused texts) c.from_residual.ensures.1

pub returns-clause-refused : goal.returns-clause-refused
returns-clause-refused g c =
    let texts : List (List ℕ) = map (λ x. x.now) c.args.clients.now in
    refused_for (job_of c.args.image.now texts c.args.input.now c.args.schedule.now) c.in_ok-len.ensures.fits c.run_copy.result c.run_copy.ensures.refused

pub returns-clause-outcome : goal.returns-clause-outcome
returns-clause-outcome g c =
    let schedule = c.args.schedule.now in
    let least = c.least_room.result in
    let image = c.args.image.now in
    let input = c.args.input.now in
    let texts : List (List ℕ) = map (λ x. x.now) c.args.clients.now in
    let before = g.W.Sink.taken c.args.out.now in
    let after = g.W.Sink.taken c.run_copy.new.out in
    if_ok (λ o. HasOutcome (job_of image texts input least) (effect_of before after o)) (λ o. HasOutcome (job_of image texts input schedule) (effect_of before after o)) c.run_copy.result
    (λ o h. outcome_elsewhere image texts input schedule.room schedule.base (moves_of schedule.moves.now) c.in_ok-len.ensures.fits least.room least.base (moves_of least.moves.now) (effect_of before after o) h) c.run_copy.ensures.outcome
