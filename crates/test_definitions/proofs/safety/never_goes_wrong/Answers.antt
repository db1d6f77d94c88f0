use Rattle.client_spec.proofs.Runs.TypedRunLaws.{never_wrong, may_begin, has_run}
use Rattle.test_definitions.proofs.safety.never_goes_wrong.Goals as goal

pub returns : goal.returns
returns c = record { right = never_wrong; begins = may_begin; runs = has_run }
