use Rattle.test_run.proofs.faults.PositionLaws.{uncounted_index, uncounted_pointer, pointless_pointer, two_owners_owner, overfull_value}
use Rattle.test_run.proofs.faults.positions.Goals as goal

pub returns : goal.returns
returns c = record { index = uncounted_index; not_pointer = uncounted_pointer; pointer = pointless_pointer; owner = two_owners_owner; value = overfull_value }
