use Rattle.client_spec.proofs.TypedStates.PictureLaws.{pictured_typed}
use Rattle.client_spec.proofs.Unfolded.PictureTreeLaws.{pictures_trees}
use Rattle.test_definitions.proofs.pictures.pictured_is_typed.Goals as goal

pub returns : goal.returns
returns c = record { plain = pictured_typed; trees = λ others s bytes p. pictures_trees p }
