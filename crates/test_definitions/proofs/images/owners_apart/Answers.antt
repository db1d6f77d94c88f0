use Rattle.seg_spec.proofs.Images.RootWriteLaws.{Held-apart}
use Rattle.test_definitions.proofs.images.owners_apart.Goals as goal

pub returns : goal.returns
returns c = λ bytes picture held. Held-apart bytes picture held
