use Rattle.seg_spec.proofs.Heap.FreeOrderLaws.{in_any_order}
use Rattle.test_definitions.proofs.heaps.giving_in_any_order.Goals as goal

pub returns : goal.returns
returns c = in_any_order
