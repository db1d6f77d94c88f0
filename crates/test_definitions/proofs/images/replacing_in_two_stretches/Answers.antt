use Rattle.seg_spec.proofs.Images.RootStretchLaws.{stretches_come_apart}
use Rattle.test_definitions.proofs.images.replacing_in_two_stretches.Goals as goal

pub returns : goal.returns
returns c = λ bytes picture held before first between second after e. stretches_come_apart bytes picture held before first between second after e
