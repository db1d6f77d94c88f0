use Rattle.test_definitions.proofs.WorkedImages.NoRoots.{nothing_held}
use Rattle.test_definitions.proofs.images.no_roots.Goals as goal

pub returns : goal.returns
returns c = nothing_held
