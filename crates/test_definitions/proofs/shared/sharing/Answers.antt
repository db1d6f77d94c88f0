use Rattle.seg_spec.proofs.Frozen.OneMoreCellLaws.{shared}
use Rattle.test_definitions.proofs.shared.sharing.Goals as goal

pub returns : goal.returns
returns c = λ next frozen cells cell counted below. shared next frozen cells cell counted below
