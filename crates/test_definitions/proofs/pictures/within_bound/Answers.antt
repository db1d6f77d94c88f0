use Rattle.test_definitions.proofs.WorkedRuns.SimulationLaws.{client_within_bound as law}
use Rattle.test_definitions.proofs.pictures.within_bound.Goals as goal

pub returns : goal.returns
returns c = law
