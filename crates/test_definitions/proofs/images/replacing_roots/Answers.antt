use Rattle.seg_spec.proofs.Images.RootLaws.{roots_come_apart}
use Rattle.test_definitions.proofs.images.replacing_roots.Goals as goal

pub returns : goal.returns
returns c = λ bytes picture held before gone after e. roots_come_apart bytes picture held before gone after e
