use Rattle.std.proofs.Common.{rules, ◌≡◌, ◌≤◌, ◌<◌, ◌∷◌, [], length, refl, ap, ◌∙◌, arith, Err}
use Rattle.seg_spec.specs.Bytes.{set_byte}
use Rattle.seg_spec.specs.Window.{Placement}
use Rattle.seg_cells.specs.Places.{place_of}
use Rattle.seg_seq.proofs.TextCalls.{counted_all, all_kept, written_to, one_byte}
use Rattle.seg_seq.proofs.text.push_byte_asking.Goals as goal

pub returns-in_err-added-clause-text : goal.returns-in_err-added-clause-text
returns-in_err-added-clause-text g c = λ xs blocks t.
    let result : c.from_residual.result ≡ Err c.in_err-added.field-0.0 = search rules in
    let all = counted_all g.F.Fit.allocator c.args.heap.now (place_of c.args.text) xs blocks t c.count-kept.result c.count-kept.ensures in
    let few : c.count-kept.result ≤ length xs = omega arith in
    let lacks = c.in_err-added.ensures.text xs blocks t few in
    rw result (rw all at lacks)

pub returns-clause-text : goal.returns-clause-text
returns-clause-text g c = λ xs blocks t.
    let old = c.args.heap.now in
    let all = counted_all g.F.Fit.allocator old (place_of c.args.text) xs blocks t c.count-kept.result c.count-kept.ensures in
    let kept = all_kept g.F.Fit.allocator old (place_of c.args.text) xs blocks t c.count-kept.result c.count-kept.ensures in
    let few : c.count-kept.result ≤ length xs = omega arith in
    let m = c.in_ok-added.ensures.text xs blocks t few in
    let mid = c.make_room.new.heap in
    let at = c.in_ok-added.added.at in
    let small : c.args.byte < 256 = omega (arith, c.ranges.byte) in
    let written = ap (λ (r : Placement). r.bytes) c.put8.ensures ∙ ap (λ (r : Placement). set_byte r.bytes at c.args.byte) c.window_mut.ensures.value ∙ one_byte mid.window.bytes at c.args.byte small in
    rw (kept, all) at (written_to g.F.Fit.allocator old (place_of c.args.text) xs blocks t c.count-kept.result 1 mid
    (record { window = c.put8.new.self; types = mid.types }) at c.in_ok-added.added.len (c.args.byte ∷ []) refl m written)

pub returns-clause-length : goal.returns-clause-length
returns-clause-length g c = λ xs blocks t.
    let all = counted_all g.F.Fit.allocator c.args.heap.now (place_of c.args.text) xs blocks t c.count-kept.result c.count-kept.ensures in
    let few : c.count-kept.result ≤ length xs = omega arith in
    let m = c.in_ok-added.ensures.text xs blocks t few in
    rw all at m.len_is
