use Rattle.seg_spec.proofs.Heap.KeptBlockLaws.{block_kept, block_ownable, front_kept}
use Rattle.test_definitions.proofs.heaps.through_a_call.Goals as goal

pub returns : goal.returns
returns c = record {
  payload = λ old new before after block then heap heap_then kept was is same more. block_kept old new before after block then heap heap_then kept was is same more;
  header = λ old new before after table block then heap heap_then kept was is same ownable. block_ownable old new before after table block then heap heap_then kept was is same ownable;
  front = λ old new kept long. front_kept old new kept long;
}
