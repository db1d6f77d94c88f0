use Rattle.client_spec.proofs.Runs.OutsideByteLaws.{outside_stays as law}
use Rattle.test_definitions.proofs.pictures.outside_stays.Goals as goal

pub returns : goal.returns
returns c = law
