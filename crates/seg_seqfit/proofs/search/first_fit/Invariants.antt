use Rattle.std.proofs.Common.{List, None}
use Rattle.seg_spec.specs.Heap.{Span, Links}
use Rattle.seg_block.specs.FreeBlocks.{AreFreeBlocks}
use Rattle.seg_seqfit.proofs.Walks.{left, IsAhead, IsSearching}
use Rattle.seg_seqfit.proofs.search.first_fit.Given as goal

abbrev pub invariant-loop-next : goal.invariant-loop-next
invariant-loop-next g l = record {
  bounds : IsAhead 12 l.next;
  searching : (gs : List Span) → Links l.w.bytes 24 gs None → AreFreeBlocks l.w.bytes 704 gs → IsSearching l.w.bytes gs l.need l.link l.next;
}

abbrev pub decreases-loop-next : goal.decreases-loop-next
decreases-loop-next g l = left l.next
