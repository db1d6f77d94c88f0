use Rattle.test_definitions.proofs.Runs.StoppedRunLaws.{front_of_whole}
use Rattle.test_definitions.proofs.safety.stopped_is_a_front.Goals as goal

pub returns : goal.returns
returns c = front_of_whole
