use Rattle.std.proofs.Common.{refl}
use Rattle.std.specs.Fmt.{digits}
use Rattle.client_spec.specs.Effect.{effect}
use Rattle.test_definitions.proofs.operations.output_and_input.Goals as goal

pub returns-clause-number : goal.returns-clause-number
unfolding effect digits
returns-clause-number c = refl
