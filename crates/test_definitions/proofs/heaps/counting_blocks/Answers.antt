use Rattle.seg_spec.proofs.Heap.LiveBlockLaws.{times-with_block, times-without, positions-resized}
use Rattle.test_definitions.proofs.heaps.counting_blocks.Goals as goal

pub returns : goal.returns
returns c = record {
  taken = λ position block blocks. times-with_block position block blocks;
  given = λ position at blocks some. times-without position at blocks some;
  resized = λ at units blocks. positions-resized at units blocks;
}
