use Rattle.test_definitions.proofs.WorkedImages.SharedImages.{sharing_held, sharing_counted, sharing_sound, opened_sound, opened_bytes}
use Rattle.test_definitions.proofs.examples.versions.Goals as goal

pub returns : goal.returns
returns c = record { shared = sharing_held; counted = sharing_counted; sound = sharing_sound; opened = opened_sound; one_byte = opened_bytes }
