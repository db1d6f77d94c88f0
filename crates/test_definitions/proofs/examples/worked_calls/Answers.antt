use Rattle.test_definitions.proofs.WorkedRuns.WorkedCalls.{takes, expands, gives}
use Rattle.test_definitions.proofs.examples.worked_calls.Goals as goal

pub returns : goal.returns
returns c = record { takes = takes; expands = expands; gives = gives }
