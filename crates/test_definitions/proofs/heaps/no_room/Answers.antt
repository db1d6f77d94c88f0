use Rattle.seg_spec.proofs.Heap.OutOfMemoryLaws.{denied as law, no_room as law_back}
use Rattle.test_definitions.proofs.heaps.no_room.Goals as goal

pub returns : goal.returns
returns c = record { denied = law; back = law_back }
