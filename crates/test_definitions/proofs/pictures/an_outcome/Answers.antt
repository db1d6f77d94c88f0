use Rattle.std.proofs.Common.{refl}
use Rattle.test_definitions.proofs.WorkedRuns.CounterRun.{left, outcome_is}
use Rattle.test_definitions.proofs.pictures.an_outcome.Goals as goal

pub returns : goal.returns
returns c = (left, outcome_is, refl, refl, refl)
