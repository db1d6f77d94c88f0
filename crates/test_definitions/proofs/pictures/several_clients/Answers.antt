use Rattle.test_definitions.proofs.WorkedImages.Several.{all_within, held_after}
use Rattle.test_definitions.proofs.pictures.several_clients.Goals as goal

pub returns : goal.returns
returns c = record { within = all_within; held = held_after }
