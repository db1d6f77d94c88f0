use Rattle.test_definitions.proofs.Rows.OwnerTieLaws.{ends_kept, ends_changed}
use Rattle.test_definitions.proofs.pictures.ends_of_runs.Goals as goal

pub returns : goal.returns
returns c = record { kept = ends_kept; refused = ends_changed }
