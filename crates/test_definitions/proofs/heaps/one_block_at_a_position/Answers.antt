use Rattle.seg_spec.proofs.Heap.LiveBlockLaws.{live-once}
use Rattle.seg_spec.proofs.Heap.GapOrderLaws.{gaps-once}
use Rattle.test_definitions.proofs.heaps.one_block_at_a_position.Goals as goal

pub returns-clause-live : goal.returns-clause-live
returns-clause-live c = λ bytes allocator position heap. live-once bytes allocator heap position

pub returns-clause-gaps : goal.returns-clause-gaps
returns-clause-gaps c = λ bytes allocator position heap. gaps-once bytes allocator heap position
