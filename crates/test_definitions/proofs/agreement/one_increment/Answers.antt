use Rattle.test_definitions.proofs.WorkedRuns.OneIncrementLaws.{increments, cut_increments, not_43}
use Rattle.test_definitions.proofs.agreement.one_increment.Goals as goal

pub returns : goal.returns
returns c = record { prints = increments; cut = cut_increments; refused = not_43 }
