use Rattle.seg_spec.proofs.Values.PartPlaceLaws.{Leads-found}
use Rattle.seg_spec.proofs.Values.PathSplitLaws.{Leads-append}
use Rattle.test_definitions.proofs.values.paths.Goals as goal

pub returns-clause-found : goal.returns-clause-found
returns-clause-found c = λ bytes table place path v inner blocks h e. Leads-found bytes table path h e

pub returns-clause-joined : goal.returns-clause-joined
returns-clause-joined c = λ bytes table place middle inner path more first second. Leads-append bytes table first second
