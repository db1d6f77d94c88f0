use Rattle.test_definitions.proofs.WorkedImages.Whole.{within_after, sound_after, not_both}
use Rattle.test_definitions.proofs.pictures.outcomes.Goals as goal

pub returns : goal.returns
returns c = record { within = within_after; sound = sound_after; refused = not_both }
