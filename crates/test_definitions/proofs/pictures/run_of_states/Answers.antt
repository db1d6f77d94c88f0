use Rattle.test_definitions.proofs.WorkedRuns.SimulationLaws.{run_of_states as law}
use Rattle.test_definitions.proofs.pictures.run_of_states.Goals as goal

pub returns : goal.returns
returns c = law
