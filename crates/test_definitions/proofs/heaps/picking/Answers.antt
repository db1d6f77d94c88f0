use Rattle.seg_spec.proofs.Heap.GapPickLaws.{first_fit-lowest, best_fit-smallest, first_fit-none, best_fit-none}
use Rattle.test_definitions.proofs.heaps.picking.Goals as goal

pub returns : goal.returns
returns c = record {
  lowest = λ gs units gap e. first_fit-lowest gs units gap e;
  smallest = λ gs units gap e. best_fit-smallest gs units gap e;
  no_lowest = λ gs units e. first_fit-none gs units e;
  no_smallest = λ gs units e. best_fit-none gs units e;
}
