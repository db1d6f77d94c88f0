use Rattle.seg_spec.proofs.Frozen.OneMoreCellLaws.{one_frozen}
use Rattle.test_definitions.proofs.shared.freezing.Goals as goal

pub returns : goal.returns
returns c = λ next at type v frozen kept apart counted. one_frozen next at type v frozen kept apart counted
