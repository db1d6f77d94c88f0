use Rattle.seg_spec.proofs.Values.ValueMoveLaws.{Holds-moved}
use Rattle.test_definitions.proofs.values.moving.Goals as goal

pub returns : goal.returns
returns c = λ old new table place to v blocks valid h moved kept. Holds-moved old new table valid to h moved kept
