use Rattle.test_definitions.proofs.Steps.AlikeRowLaws.{step_alike}
use Rattle.test_definitions.proofs.pictures.rows_stay_alike.Goals as goal

pub returns : goal.returns
returns c = step_alike
