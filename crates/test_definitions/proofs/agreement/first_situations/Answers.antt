use Rattle.test_definitions.proofs.Runs.AlikeFirstLaws.{first_alike}
use Rattle.test_definitions.proofs.agreement.first_situations.Goals as goal

pub returns : goal.returns
returns c = first_alike
