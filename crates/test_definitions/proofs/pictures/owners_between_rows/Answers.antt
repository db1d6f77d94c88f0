use Rattle.test_definitions.proofs.Rows.OwnerTieLaws.{next_owners, exchanged}
use Rattle.test_definitions.proofs.Rows.MovedObjectLaws.{no_owner_comes}
use Rattle.test_definitions.proofs.pictures.owners_between_rows.Goals as goal

pub returns : goal.returns
returns c = record { same = next_owners; refused = exchanged; no_other = no_owner_comes }
