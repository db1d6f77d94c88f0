use Rattle.std.proofs.Common.{◌≡◌, ℕ, ◌<◌, ◌≤◌, length, None}
use Rattle.seg_spec.specs.Bytes.{ChangesOnly}
use Rattle.seg_spec.specs.Header.{uniques_start, uniques_size, heap_start}
use Rattle.seg_spec.specs.Pointer.{target}
use Rattle.seg_spec.specs.Index.{unique_word}
use Rattle.seg_spec.specs.Window.{with_bytes}
use Rattle.seg_manager.proofs.creating.write_empty.Given as goal

abbrev pub invariant-loop-t : goal.invariant-loop-t
invariant-loop-t g l = record {
  host : l.w ≡ with_bytes l.fn.w l.w.bytes;
  changes : ChangesOnly l.initial.w.bytes l.w.bytes uniques_start uniques_size;
  none : heap_start ≤ length l.initial.w.bytes → (T : ℕ) → T < l.t → target l.w.bytes (unique_word T) ≡ None;
}
