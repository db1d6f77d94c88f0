use Rattle.client_sim.proofs.Names.OnePictureLaws.{Held-one}
use Rattle.test_definitions.proofs.images.one_picture.Goals as goal

pub returns : goal.returns
returns c = λ bytes p q h k. Held-one bytes p q h k
