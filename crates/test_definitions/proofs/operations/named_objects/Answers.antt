use Rattle.std.proofs.Common.{refl}
use Rattle.std.specs.Fmt.{digits}
use Rattle.seg_spec.specs.Value.{default_of}
use Rattle.client_spec.specs.Effect.{effect}
use Rattle.test_definitions.proofs.operations.named_objects.Goals as goal

pub returns-clause-make_in_a_family : goal.returns-clause-make_in_a_family
unfolding effect default_of digits
returns-clause-make_in_a_family c = refl

pub returns-clause-make_in_a_family_below_zero : goal.returns-clause-make_in_a_family_below_zero
unfolding effect default_of digits
returns-clause-make_in_a_family_below_zero c = refl
