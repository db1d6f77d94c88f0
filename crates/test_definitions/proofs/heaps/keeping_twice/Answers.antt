use Rattle.seg_spec.proofs.Heap.BlockFrameLaws.{kept_twice, around_twice, around_kept}
use Rattle.test_definitions.proofs.heaps.keeping_twice.Goals as goal

pub returns : goal.returns
returns c = record {
  whole = λ a b c block j k. kept_twice a b c block j k;
  around = λ a b c at n block j k. around_twice a b c at n block j k;
  weaker = λ a b at n block solid k. around_kept a b at n block solid k;
}
