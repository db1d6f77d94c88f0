use Rattle.seg_spec.proofs.Values.PutLaws.{comes_apart}
use Rattle.test_definitions.proofs.values.changing.Goals as goal

pub returns : goal.returns
returns c = λ bytes table place inner path v blocks valid leads h. comes_apart bytes table valid leads h
