use Rattle.std.proofs.Common.{◌≡◌, ℕ, ◌*◌, map, ◌+◌}
use Rattle.seg_spec.specs.Window.{with_bytes}
use Rattle.seg_spec.specs.Types.{IsTable, size}
use Rattle.seg_spec.specs.Reads.{spaced}
use Rattle.seg_spec.specs.Cells.{IsWithin, IsDefaulted, ChangesEach}
use Rattle.seg_cells.specs.declared.entry.Held.TheVariants as held
use Rattle.seg_cells.specs.Entries.{IsEntryOf}
use Rattle.seg_value.proofs.heap.Heap.default_rest.Given as goal

abbrev pub invariant-loop-index : goal.invariant-loop-index
invariant-loop-index g l = record {
  window : l.self.window ≡ with_bytes l.initial.self.window l.self.window.bytes;
  types : l.self.types ≡ l.initial.self.types;
  bytes : l.entry.held ≡ held.Bytes → l.self.window ≡ l.initial.self.window;
  rest : (before U : ℕ) → IsTable l.initial.self.types → IsEntryOf l.initial.self.types before U l.entry → IsWithin l.initial.self.window.bytes l.from (l.rest * (before + size l.initial.self.types U)) →
      ChangesEach IsDefaulted l.initial.self.window.bytes l.self.window.bytes l.initial.self.types U l.from (l.index * (before + size l.initial.self.types U))
      (map (λ p. p + before) (spaced l.from (before + size l.initial.self.types U) l.index));
}
