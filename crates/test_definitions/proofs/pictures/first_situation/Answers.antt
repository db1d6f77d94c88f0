use Rattle.client_spec.proofs.Unfolded.PictureTreeLaws.{begins_first}
use Rattle.test_definitions.proofs.pictures.first_situation.Goals as goal

pub returns : goal.returns
returns c = begins_first
