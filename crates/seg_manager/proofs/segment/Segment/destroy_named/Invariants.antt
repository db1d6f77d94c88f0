use Rattle.std.proofs.Common.{◌≡◌, ℕ, List}
use Rattle.seg_spec.specs.Window.{with_bytes}
use Rattle.seg_spec.specs.Reads.{Place}
use Rattle.seg_spec.specs.Index.{Root}
use Rattle.seg_spec.specs.Value.{count}
use Rattle.seg_spec.specs.Frozen.{Frozen}
use Rattle.seg_spec.specs.Shared.{named_each}
use Rattle.seg_spec.specs.Clearing.{SharedBeside}
use Rattle.seg_manager.specs.NamedObjects.{found_of}
use Rattle.seg_manager.specs.LeavingNamed.{IsUnlisted}
use Rattle.seg_manager.proofs.ClearedItems.{Cleared}
use Rattle.seg_manager.proofs.segment.Segment.destroy_named.Given as goal

abbrev pub invariant-loop-index : goal.invariant-loop-index
invariant-loop-index g l = record {
  window : l.self.window ≡ with_bytes l.initial.self.window l.self.window.bytes;
  types : l.self.types ≡ l.initial.self.types;
  cleared : (root : Root) (blocks : List ℕ) (u : IsUnlisted g.F.Fit.allocator l.initial.self.window.bytes l.initial.self.types root blocks) → l.found ≡ found_of root → root.type ≡ l.t
      → (theirs : ℕ → List ℕ) (cells : List Place) (frozen final : List Frozen) → SharedBeside l.initial.self.window.bytes l.initial.self.types blocks (named_each root.values) theirs cells frozen final
      → Cleared g.F.Fit.allocator l.initial.self.window.bytes l.self.window.bytes l.initial.self.types root.at root.type (count root.values) u.holds_it.inside theirs frozen final l.index;
}
