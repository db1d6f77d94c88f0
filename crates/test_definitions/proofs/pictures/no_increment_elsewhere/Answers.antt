use Rattle.test_definitions.proofs.WorkedImages.ExchangedImage.{exchanged_sound}
use Rattle.test_definitions.proofs.WorkedRuns.IncrementOutcomeLaws.{no_number, blocks_stay, not_exchanged}
use Rattle.test_definitions.proofs.pictures.no_increment_elsewhere.Goals as goal

pub returns : goal.returns
returns c = record { numbers = no_number; blocks = blocks_stay; sound = exchanged_sound; refused = not_exchanged }
