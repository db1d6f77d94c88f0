use Rattle.std.proofs.Common.{◌≡◌, ℕ, ◌+◌, ◌-◌, ◌*◌, List, ◌∷◌, ◌++◌}
use Rattle.seg_spec.specs.Window.{with_bytes}
use Rattle.seg_spec.specs.Types.{IsTable, size}
use Rattle.seg_spec.specs.Block.{IsInside}
use Rattle.seg_spec.specs.Owing.{AreParts, entries_at}
use Rattle.seg_spec.specs.Frozen.{Frozen}
use Rattle.seg_spec.specs.Reads.{Place}
use Rattle.seg_spec.specs.Destroying.{AreLive, Awaits}
use Rattle.seg_spec.proofs.Deallocation.PartDestructionLaws.{Joined}
use Rattle.seg_cells.specs.declared.entry.Held.TheVariants as held
use Rattle.seg_cells.specs.Entries.{IsEntryOf}
use Rattle.seg_value.proofs.pending.Pending.add_entries.Given as goal

abbrev pub invariant-loop-index : goal.invariant-loop-index
invariant-loop-index g l = record {
  window : l.heap.window ≡ with_bytes l.initial.heap.window l.heap.window.bytes;
  types : l.heap.types ≡ l.initial.heap.types;
  bytes : l.entry.held ≡ held.Bytes → (l.heap.window ≡ l.initial.heap.window) × (l.self.first ≡ l.initial.self.first);
  added : (home before U : ℕ) (xs ns : List ℕ) → IsEntryOf l.initial.heap.types before U l.entry → IsInside l.initial.heap.window.bytes home l.start (l.n * (before + size l.initial.heap.types U)) →
      AreParts l.initial.heap.window.bytes l.initial.heap.types (entries_at l.initial.heap.types l.start before U l.n) xs ns → (allocator : ℕ) (ys names : List ℕ) (kept : List Place) (theirs : ℕ → List ℕ) (final : List Frozen) →
      IsTable l.initial.heap.types → Awaits allocator l.initial.heap.window.bytes l.initial.heap.types l.initial.self.first ys (ns ++ names) kept theirs final → AreLive l.initial.heap.window.bytes (home ∷ (xs ++ ys)) →
      Joined allocator l.initial.heap.window.bytes l.heap.window.bytes l.initial.heap.types l.self.first home
      (entries_at l.initial.heap.types (l.start + l.index * (before + size l.initial.heap.types U)) before U (l.n - l.index)) xs ys names kept theirs final;
}
