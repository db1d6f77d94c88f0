use Rattle.std.proofs.Common.{◌≡◌}
use Rattle.cli_program.proofs.inputs.check_out.Given as goal

abbrev pub invariant-loop-client : goal.invariant-loop-client
invariant-loop-client g l =
    (g.F.Files.was_read l.files ≡ g.F.Files.was_read l.fn.files)
    × (g.F.Files.was_written l.files ≡ g.F.Files.was_written l.fn.files)
