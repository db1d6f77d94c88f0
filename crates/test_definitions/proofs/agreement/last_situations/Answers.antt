use Rattle.test_definitions.proofs.Runs.AlikeEndLaws.{ends_alike_too}
use Rattle.test_definitions.proofs.agreement.last_situations.Goals as goal

pub returns : goal.returns
returns c = ends_alike_too
