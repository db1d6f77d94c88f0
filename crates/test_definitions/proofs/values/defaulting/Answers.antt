use Rattle.seg_spec.proofs.Values.DefaultLaws.{Holds-default}
use Rattle.test_definitions.proofs.values.defaulting.Goals as goal

pub returns : goal.returns
returns c = λ bytes table place valid known fresh. Holds-default bytes table valid place known fresh
