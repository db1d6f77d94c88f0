use Rattle.seg_spec.proofs.Values.PlaceFrameLaws.{Holds-kept}
use Rattle.test_definitions.proofs.values.same_value.Goals as goal

pub returns : goal.returns
returns c = λ old new table place v blocks valid same kept h. Holds-kept old new table valid h same kept
