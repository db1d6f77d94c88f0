use Rattle.seg_spec.proofs.Images.UnsoundImageLaws.{right_types}
use Rattle.test_definitions.proofs.images.right_types.Goals as goal

pub returns : goal.returns
returns c = right_types
