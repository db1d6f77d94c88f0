use Rattle.seg_spec.proofs.Images.UnsoundImageLaws.{unsound}
use Rattle.test_definitions.proofs.WorkedImages.Parts.{one_failure, owner_is_content}
use Rattle.test_definitions.proofs.images.what_is_wrong.Goals as goal

pub returns : goal.returns
returns c = record { unsound = unsound; one = one_failure; owner = owner_is_content }
