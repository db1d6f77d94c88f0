use Rattle.std.proofs.Common.{sym, subst}
use Rattle.std.proofs.lemmas.Result.{IfErr-weaker}
use Rattle.std.specs.Prelude.{OnOk, IfErr}
use Rattle.cli_program.specs.Runs.{WasRead, HasSavedOf, HasFailedOf, HasFailed, read_of}
use Rattle.cli_program.proofs.RunsLaws.{failed_of, saved_of}
use Rattle.cli_program.proofs.run.run_files.Goals as goal

pub returns-clause-saved : goal.returns-clause-saved
returns-clause-saved g c =
    let run = c.args.run.now in
    let it = read_of c.in_ok-inputs.inputs in
    let reads = g.F.Files.was_read c.args.files.now in
    let reads_then = g.F.Files.was_read c.run_inputs.new.files in
    let writes = g.F.Files.was_written c.args.files.now in
    let writes_then = g.F.Files.was_written c.run_inputs.new.files in
    let taken = g.O.Sink.taken c.args.out.now in
    let taken_then = g.O.Sink.taken c.run_inputs.new.out in
    let read = subst (λ r. WasRead run reads r it) (sym c.run_inputs.ensures.nothing_read) c.in_ok-inputs.ensures.read in
    saved_of run it reads reads_then writes writes_then taken taken_then read c.run_inputs.result
    (subst (λ w. OnOk c.run_inputs.result (HasSavedOf run it w writes_then taken taken_then)) c.in_ok-inputs.ensures.nothing_written c.run_inputs.ensures.saved)

pub returns-clause-failed : goal.returns-clause-failed
returns-clause-failed g c =
    let run = c.args.run.now in
    let it = read_of c.in_ok-inputs.inputs in
    let reads = g.F.Files.was_read c.args.files.now in
    let reads_then = g.F.Files.was_read c.run_inputs.new.files in
    let writes = g.F.Files.was_written c.args.files.now in
    let writes_then = g.F.Files.was_written c.run_inputs.new.files in
    let taken = g.O.Sink.taken c.args.out.now in
    let taken_then = g.O.Sink.taken c.run_inputs.new.out in
    let read = subst (λ r. WasRead run reads r it) (sym c.run_inputs.ensures.nothing_read) c.in_ok-inputs.ensures.read in
    IfErr-weaker c.run_inputs.result (HasFailedOf run it writes writes_then taken taken_then) (HasFailed run reads reads_then writes writes_then taken taken_then)
    (λ failed h. failed_of run it reads reads_then writes writes_then taken taken_then read failed h)
    (subst (λ w. IfErr c.run_inputs.result (HasFailedOf run it w writes_then taken taken_then)) c.in_ok-inputs.ensures.nothing_written c.run_inputs.ensures.failed)
