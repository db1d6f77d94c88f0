use Rattle.test_run.proofs.faults.FaultLaws.{sound_image, one_table, no_fault}
use Rattle.test_run.proofs.faults.sound_images.Goals as goal

pub returns : goal.returns
returns c = record { sound = sound_image; table = one_table; no_fault = no_fault }
