use Rattle.std.proofs.Common.{◌≡◌, ◌-◌}
use Rattle.seg_spec.specs.Heap.{IsHeap}
use Rattle.seg_spec.specs.Window.{with_bytes}
use Rattle.seg_manager.proofs.ZeroedGaps.{Zeroing}
use Rattle.seg_manager.proofs.space.zero_free_memory.Given as goal

abbrev pub invariant-loop-at : goal.invariant-loop-at
invariant-loop-at g l = record {
  host : l.w ≡ with_bytes l.initial.w l.w.bytes;
  zeroing : IsHeap g.F.Fit.allocator l.initial.w.bytes → Zeroing g.F.Fit.allocator l.initial.w.bytes l.w.bytes l.at;
}

abbrev pub decreases-loop-at : goal.decreases-loop-at
decreases-loop-at g l = l.end - l.at
