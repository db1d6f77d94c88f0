use Rattle.test_definitions.proofs.Runs.AlikeRunLaws.{runs_alike}
use Rattle.test_definitions.proofs.agreement.two_runs.Goals as goal

pub returns : goal.returns
returns c = runs_alike
