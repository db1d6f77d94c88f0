use Rattle.seg_spec.proofs.Values.OneValueLaws.{Holds-one}
use Rattle.test_definitions.proofs.values.one_value.Goals as goal

pub returns : goal.returns
returns c = λ bytes table place v w xs ys h k. Holds-one bytes table h k
