use Rattle.std.proofs.Common.{◌≡◌, take}
use Rattle.seg_spec.specs.Window.{KeepsHost}
use Rattle.seg_value.specs.CellPlaces.{place_of}
use Rattle.seg_image.specs.NumberPuts.{PutsNumbers}
use Rattle.seg_image.proofs.maps.put_each.Given as goal

abbrev pub invariant-loop-done : goal.invariant-loop-done
invariant-loop-done g l =
    KeepsHost l.fn.heap.window l.heap.window × (l.heap.types ≡ l.fn.heap.types)
    × PutsNumbers g.F.Fit.allocator l.fn.heap l.heap (place_of l.fn.map) (take l.done l.entries)
