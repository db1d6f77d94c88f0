use Rattle.std.proofs.Common.{◌≡◌, ℕ, ◌-◌, ◌/◌, length}
use Rattle.seg_spec.specs.Heap.{heap_start}
use Rattle.seg_spec.specs.Faulty.{HasFront}
use Rattle.seg_check.specs.Marks.{nothing_known}
use Rattle.seg_check.proofs.Heap.TileWalkLaws.{Walked}
use Rattle.seg_check.proofs.Heap.PassedTileLaws.{KnowsPassed}
use Rattle.seg_check.proofs.image.TypedImage.check_tiles.Given as goal

abbrev pub invariant-loop-at : goal.invariant-loop-at
invariant-loop-at g l = HasFront l.self.bytes.bytes.now l.self.types.now →
    (w : Walked l.self.bytes.bytes.now l.self.types.now l.at l.before l.free_list)
    × ((slots : ℕ) → l.initial.claims ≡ nothing_known ((length l.self.bytes.bytes.now - heap_start) / 16) slots → KnowsPassed l.claims ((length l.self.bytes.bytes.now - heap_start) / 16) slots w.passed)

abbrev pub decreases-loop-at : goal.decreases-loop-at
decreases-loop-at g l = l.end - l.at
