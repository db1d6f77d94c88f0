use Rattle.std.proofs.Common.{refl}
use Rattle.std.specs.Fmt.{digits}
use Rattle.client_spec.specs.Grammar.{listing}
use Rattle.test_definitions.proofs.clients.the_chain.Goals as goal

pub returns-clause-text : goal.returns-clause-text
unfolding listing digits
returns-clause-text c = refl
