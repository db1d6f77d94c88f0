use Rattle.seg_spec.proofs.Heap.BlockFrameLaws.{tiles_written, others_written}
use Rattle.test_definitions.proofs.heaps.writing_in_a_block.Goals as goal

pub returns : goal.returns
returns c = record {
  heap = λ old new allocator at n block heap inside owned changes. tiles_written old new allocator at n block heap inside owned changes;
  others = λ old new allocator at n block other heap inside owned changes is_live apart. others_written old new allocator at n block heap inside owned changes other is_live apart;
}
