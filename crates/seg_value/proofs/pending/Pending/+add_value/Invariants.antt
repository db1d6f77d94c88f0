use Rattle.std.proofs.Common.{◌≡◌, ℕ, List, ◌∷◌, ◌++◌, drop, Some}
use Rattle.seg_spec.specs.Window.{with_bytes}
use Rattle.seg_spec.specs.Types.{Form, form_at, IsTable, size}
use Rattle.seg_spec.specs.Block.{IsInside}
use Rattle.seg_spec.specs.Reads.{Place, fields}
use Rattle.seg_spec.specs.Owing.{IsPart}
use Rattle.seg_spec.specs.Frozen.{Frozen}
use Rattle.seg_spec.specs.Destroying.{AreLive, Awaits}
use Rattle.seg_spec.proofs.Deallocation.PartDestructionLaws.{Joined}
use Rattle.seg_cells.specs.Places.{place_of}
use Rattle.seg_value.proofs.pending.Pending.+add_value.Given as goal

abbrev pub decreases-add_value : goal.decreases-add_value
decreases-add_value g l = l.place.type_id

abbrev pub invariant-loop-index : goal.invariant-loop-index
invariant-loop-index g l = record {
  window : l.heap.window ≡ with_bytes l.initial.heap.window l.heap.window.bytes;
  types : l.heap.types ≡ l.initial.heap.types;
  added : (home : ℕ) (xs ns Us : List ℕ) → IsInside l.initial.heap.window.bytes home l.place.at (size l.initial.heap.types l.place.type_id) → IsPart l.initial.heap.window.bytes l.initial.heap.types (place_of l.place) xs ns →
      form_at l.initial.heap.types l.place.type_id ≡ Some (Form.struct Us) → (allocator : ℕ) (ys names : List ℕ) (kept : List Place) (theirs : ℕ → List ℕ) (final : List Frozen) → IsTable l.initial.heap.types →
      Awaits allocator l.initial.heap.window.bytes l.initial.heap.types l.initial.self.first ys (ns ++ names) kept theirs final → AreLive l.initial.heap.window.bytes (home ∷ (xs ++ ys)) →
      Joined allocator l.initial.heap.window.bytes l.heap.window.bytes l.initial.heap.types l.self.first home (drop l.index (fields l.initial.heap.types l.place.at Us)) xs ys names kept theirs final;
}
