use Rattle.client_sim.proofs.FinalPlaceLaws.{left_in_place}
use Rattle.test_definitions.proofs.pictures.placed_at_last.Goals as goal

pub returns : goal.returns
returns c = left_in_place
