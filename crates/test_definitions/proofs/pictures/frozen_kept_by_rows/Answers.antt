use Rattle.test_definitions.proofs.Rows.FrozenRowLaws.{object_stays, bytes_stay, no_other_value, no_other_bytes}
use Rattle.test_definitions.proofs.pictures.frozen_kept_by_rows.Goals as goal

pub returns : goal.returns
returns c = record { kept = object_stays; bytes = bytes_stay; other_value = no_other_value; other_bytes = no_other_bytes }
