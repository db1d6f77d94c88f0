use Rattle.seg_spec.proofs.Images.TypeAdditionLaws.{types_added}
use Rattle.test_definitions.proofs.images.adding_types.Goals as goal

pub returns : goal.returns
returns c = λ old new picture more held long low high types valid. types_added old new picture more held long low high types valid
