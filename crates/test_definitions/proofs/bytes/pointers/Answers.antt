use Rattle.seg_spec.proofs.PointerLaws.{target-set_same}
use Rattle.test_definitions.proofs.bytes.pointers.Goals as goal

pub returns : goal.returns
returns c = λ bytes at to fits low fine. target-set_same bytes at to fits low fine
