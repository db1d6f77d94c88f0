use Rattle.std.proofs.Common.{rules, refl}
use Rattle.cli_program.specs.Runs.{read_of}
use Rattle.cli_program.proofs.RunsLaws.{outcome_as}
use Rattle.cli_program.proofs.run.outcome_of.Goals as goal

pub returns-clause-outcome : goal.returns-clause-outcome
returns-clause-outcome g c =
    outcome_as c.args.run.now (read_of c.args.inputs) _ _ _ _ _ c.in_ok-run_image.ensures.outcome
    (cc c.in_ok-clients.ensures) (search rules) (cc (c.room_of.ensures, c.len.ensures)) refl
