use Rattle.test_definitions.proofs.Runs.StoppedRunLaws.{run_writes}
use Rattle.test_definitions.proofs.safety.runs_write_on.Goals as goal

pub returns : goal.returns
returns c = run_writes
