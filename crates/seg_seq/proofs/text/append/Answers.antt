use Rattle.std.proofs.Common.{◌≤◌, length, arith}
use Rattle.seg_cells.specs.Places.{place_of}
use Rattle.seg_seq.proofs.TextCalls.{counted_all, all_kept}
use Rattle.seg_seq.proofs.text.append.Goals as goal

pub returns-clause-text : goal.returns-clause-text
returns-clause-text g c = λ xs blocks t.
    let old = c.args.heap.now in
    let all = counted_all g.F.Fit.allocator old (place_of c.args.text) xs blocks t c.count-kept.result c.count-kept.ensures in
    let kept = all_kept g.F.Fit.allocator old (place_of c.args.text) xs blocks t c.count-kept.result c.count-kept.ensures in
    let few : c.count-kept.result ≤ length xs = omega arith in
    rw (kept, all) at (c.write.ensures.text xs blocks t few)
