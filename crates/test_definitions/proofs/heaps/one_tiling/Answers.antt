use Rattle.seg_spec.proofs.Heap.TileLaws.{tiles-unique}
use Rattle.test_definitions.proofs.heaps.one_tiling.Goals as goal

pub returns : goal.returns
returns c = λ bytes ts fill headers. tiles-unique bytes ts fill headers
