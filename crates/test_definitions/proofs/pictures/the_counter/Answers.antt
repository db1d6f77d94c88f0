use Rattle.test_definitions.proofs.WorkedRuns.IncrementLaws.{counter_pictured}
use Rattle.test_definitions.proofs.pictures.the_counter.Goals as goal

pub returns : goal.returns
returns c = counter_pictured
