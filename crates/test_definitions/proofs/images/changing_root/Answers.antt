use Rattle.seg_spec.proofs.Images.RootLaws.{root_comes_apart}
use Rattle.test_definitions.proofs.images.changing_root.Goals as goal

pub returns : goal.returns
returns c = λ bytes picture held which before root after e. root_comes_apart bytes picture held which before root after e
