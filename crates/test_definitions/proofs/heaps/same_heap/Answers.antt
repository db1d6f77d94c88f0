use Rattle.seg_spec.proofs.Heap.HeapFrameLaws.{IsHeap-kept, live-kept}
use Rattle.test_definitions.proofs.heaps.same_heap.Goals as goal

pub returns-clause-order : goal.returns-clause-order
returns-clause-order c = λ old new allocator heap kept. IsHeap-kept old new allocator heap kept

pub returns-clause-blocks : goal.returns-clause-blocks
returns-clause-blocks c = λ old new allocator heap kept. live-kept old new allocator heap kept
