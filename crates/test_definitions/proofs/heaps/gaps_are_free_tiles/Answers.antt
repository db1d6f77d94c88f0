use Rattle.std.proofs.Common.{true}
use Rattle.seg_spec.proofs.Heap.TileLaws.{gaps_between-live_of}
use Rattle.seg_spec.proofs.Heap.GapOrderLaws.{gaps-free}
use Rattle.test_definitions.proofs.heaps.gaps_are_free_tiles.Goals as goal

pub returns-clause-filled : goal.returns-clause-filled
returns-clause-filled c = λ ts from to fill apart. gaps_between-live_of ts true from to fill apart

pub returns-clause-heap : goal.returns-clause-heap
returns-clause-heap c = λ bytes allocator heap. gaps-free bytes allocator heap
