use Rattle.seg_spec.proofs.Images.RootPartLaws.{part_comes_apart}
use Rattle.test_definitions.proofs.images.changing_inside.Goals as goal

pub returns : goal.returns
returns c = λ bytes table root blocks j path inner valid holds apart within leads. part_comes_apart bytes table valid root blocks holds apart j within path inner leads
