use Rattle.std.proofs.Common.{◌≡◌, take}
use Rattle.seg_spec.specs.Window.{KeepsHost}
use Rattle.seg_value.specs.CellPlaces.{place_of}
use Rattle.seg_image.specs.NumberPushes.{PushesNumbers}
use Rattle.seg_image.proofs.sequences.push_each.Given as goal

abbrev pub invariant-loop-pushed : goal.invariant-loop-pushed
invariant-loop-pushed g l =
    KeepsHost l.fn.heap.window l.heap.window × (l.heap.types ≡ l.fn.heap.types)
    × PushesNumbers g.F.Fit.allocator l.fn.heap l.heap (place_of l.fn.vector.vector) (take l.pushed l.numbers)
