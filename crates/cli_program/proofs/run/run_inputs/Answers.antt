use Rattle.std.proofs.Common.{[], ◌∷◌, List, ℕ, subst}
use Rattle.std.proofs.lemmas.Result.{IfErr-weaker}
use Rattle.std.specs.Prelude.{OnOk}
use Rattle.cli_host.specs.Accesses.{AddsAccesses, access}
use Rattle.cli_program.specs.Failures.{IsUnsaved}
use Rattle.cli_program.specs.Runs.{HasFailedOf, read_of}
use Rattle.cli_program.proofs.RunsLaws.{failed_save, saved_by}
use Rattle.cli_program.proofs.run.run_inputs.Goals as goal

pub returns-clause-saved : goal.returns-clause-saved
returns-clause-saved g c =
    let run = c.args.run.now in
    let o = c.in_ok-outcome.outcome in
    let writes = g.F.Files.was_written c.args.files.now in
    let writes_then = g.F.Files.was_written c.save.new.files in
    let taken = g.O.Sink.taken c.args.out.now in
    let taken_then = g.O.Sink.taken c.outcome_of.new.out in
    let written = subst (λ (i : List ℕ). OnOk c.save.result (AddsAccesses writes writes_then (access run.out.now i ∷ []))) c.as_slice.ensures.value c.save.ensures.saved in
    saved_by run (read_of c.args.inputs) writes writes_then taken taken_then c.save.result o.image.items o.reports.items o.ended c.in_ok-outcome.ensures.outcome c.save.ensures.done written

pub returns-clause-failed : goal.returns-clause-failed
returns-clause-failed g c =
    let run = c.args.run.now in
    let it = read_of c.args.inputs in
    let o = c.in_ok-outcome.outcome in
    let writes = g.F.Files.was_written c.args.files.now in
    let writes_then = g.F.Files.was_written c.save.new.files in
    let taken = g.O.Sink.taken c.args.out.now in
    let taken_then = g.O.Sink.taken c.outcome_of.new.out in
    IfErr-weaker c.save.result (IsUnsaved writes writes_then (access run.out.now c.as_slice.result.now) o.ended run.keeps_on_failure) (HasFailedOf run it writes writes_then taken taken_then)
    (λ failed h. failed_save run it writes writes_then taken taken_then o.image.items o.reports.items o.ended failed c.in_ok-outcome.ensures.outcome
    (subst (λ (i : List ℕ). IsUnsaved writes writes_then (access run.out.now i) o.ended run.keeps_on_failure failed) c.as_slice.ensures.value h))
    c.save.ensures.unsaved
