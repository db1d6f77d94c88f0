use Rattle.std.proofs.Common.{◌≡◌, ℕ, List, []}
use Rattle.seg_spec.specs.Window.{with_bytes}
use Rattle.seg_spec.specs.Types.{IsTable}
use Rattle.seg_spec.specs.Reads.{Place}
use Rattle.seg_spec.specs.Frozen.{Frozen}
use Rattle.seg_spec.specs.Destroying.{AreLive, Awaits}
use Rattle.seg_spec.proofs.Deallocation.DestructionLaws.{HasFreed}
use Rattle.seg_value.proofs.pending.Pending.destroy.Given as goal

abbrev pub invariant-loop-turn : goal.invariant-loop-turn
invariant-loop-turn g l = record {
  window : l.heap.window ≡ with_bytes l.initial.heap.window l.heap.window.bytes;
  types : l.heap.types ≡ l.initial.heap.types;
  freed : (blocks : List ℕ) (kept : List Place) (theirs : ℕ → List ℕ) (final : List Frozen) → IsTable l.initial.heap.types →
      Awaits g.F.Fit.allocator l.initial.heap.window.bytes l.initial.heap.types l.initial.self.first blocks [] kept theirs final → AreLive l.initial.heap.window.bytes blocks →
      HasFreed g.F.Fit.allocator l.initial.heap.window.bytes l.heap.window.bytes l.initial.heap.types l.self.first blocks kept theirs final l._turn;
}
