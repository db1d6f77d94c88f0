use Rattle.std.proofs.Common.{sym, subst}
use Rattle.cli_host.specs.Accesses.{AddsAccesses}
use Rattle.cli_host.proofs.AccessesLaws.{adds_none}
use Rattle.cli_program.specs.Runs.{input_read}
use Rattle.cli_program.proofs.inputs.read_input.Goals as goal

pub returns-in-None-clause-read : goal.returns-in-None-clause-read
returns-in-None-clause-read g c =
    let before = g.F.Files.was_read c.args.files.now in
    let none = c.in-None.is in
    subst (λ name. AddsAccesses before before (input_read name c.new.result.items)) (sym none) (adds_none before)
