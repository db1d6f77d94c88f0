use Rattle.std.proofs.Common.{◌-◌, ap, ◌∙◌}
use Rattle.seg_manager.proofs.TileWalk.{one_gap}
use Rattle.seg_manager.proofs.space.all_memory_deallocated.Goals as goal

pub returns : goal.returns
returns g c = λ heap.
    let bytes = c.args.segment.now.window.bytes in
    let of = rw c.window-2.ensures at c.of.ensures.largest in
    let len = rw c.window.ensures at c.len.ensures.len in
    one_gap g.F.Fit.allocator bytes c.of.result.largest c.saturating_sub-heap.result heap (of g.F.Fit.allocator heap) (c.saturating_sub-heap.ensures ∙ ap (λ n. n - 704) len)
