use Rattle.test_definitions.proofs.Rows.KeptImageLaws.{failed_keeps}
use Rattle.test_definitions.proofs.pictures.failed_rows.Goals as goal

pub returns : goal.returns
returns c = failed_keeps
