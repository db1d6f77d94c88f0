use Rattle.seg_spec.proofs.Values.ValueTypeLaws.{Holds-has}
use Rattle.test_definitions.proofs.values.fitting.Goals as goal

pub returns : goal.returns
returns c = λ bytes table place v blocks are h. Holds-has bytes table are h
