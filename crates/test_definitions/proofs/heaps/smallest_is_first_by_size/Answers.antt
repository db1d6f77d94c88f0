use Rattle.seg_spec.specs.Heap.{gaps}
use Rattle.seg_spec.proofs.Heap.GapOrderLaws.{gaps-rising, best_fit-first}
use Rattle.test_definitions.proofs.heaps.smallest_is_first_by_size.Goals as goal

pub returns : goal.returns
returns c = λ bytes allocator units heap. best_fit-first (gaps bytes) units (gaps-rising bytes allocator heap)
