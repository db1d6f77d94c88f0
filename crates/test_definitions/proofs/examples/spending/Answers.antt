use Rattle.test_definitions.proofs.WorkedImages.Denials.{second_is_denied, growth_is_granted}
use Rattle.test_definitions.proofs.examples.spending.Goals as goal

pub returns-clause-denied : goal.returns-clause-denied
returns-clause-denied c = second_is_denied

pub returns-clause-granted : goal.returns-clause-granted
returns-clause-granted c = growth_is_granted
