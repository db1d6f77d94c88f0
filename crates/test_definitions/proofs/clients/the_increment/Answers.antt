use Rattle.std.proofs.Common.{refl}
use Rattle.std.specs.Fmt.{digits}
use Rattle.client_spec.specs.Grammar.{listing}
use Rattle.test_definitions.proofs.WorkedRuns.IncrementLaws.{increment_spelled}
use Rattle.test_definitions.proofs.clients.the_increment.Goals as goal

pub returns-clause-text : goal.returns-clause-text
unfolding listing digits
returns-clause-text c = refl

pub returns-clause-client : goal.returns-clause-client
returns-clause-client c = increment_spelled
