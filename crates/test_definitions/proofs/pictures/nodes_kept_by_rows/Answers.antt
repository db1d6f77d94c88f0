use Rattle.test_definitions.proofs.Rows.KeptImageLaws.{nodes_kept, no_other_node}
use Rattle.test_definitions.proofs.pictures.nodes_kept_by_rows.Goals as goal

pub returns : goal.returns
returns c = record { kept = nodes_kept; refused = no_other_node }
