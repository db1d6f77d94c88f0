use Rattle.test_definitions.proofs.Rows.KeptImageLaws.{new_keeps, new_moves_nothing}
use Rattle.test_definitions.proofs.pictures.blocks_kept_by_new.Goals as goal

pub returns : goal.returns
returns c = record { kept = new_keeps; refused = new_moves_nothing }
