use Rattle.std.proofs.Common.{◌≡◌, ◌≤◌, ◌+◌, ◌*◌, Result, Ok, Err, length, ap, ◌∙◌, refl, arith}
use Rattle.std.specs.Result.{IsOk, OnOk}
use Rattle.std.proofs.lemmas.Bool.{false≢true}
use Rattle.seg_spec.specs.Heap.{IsHeap, Cuts}
use Rattle.seg_spec.specs.Window.{Placement}
use Rattle.seg_manager.proofs.ResizeLaws.{cut_fits, region_long, shrunk_to}
use Rattle.seg_manager.proofs.size.shrink_to_fit.Goals as goal

on_ok : {T E P : Type 0} (r : Result T E) → IsOk r → OnOk r P → P
on_ok (Ok x) is p = p
on_ok (Err e) is p = absurd (false≢true is)

pub returns-clause-shrinks : goal.returns-clause-shrinks
returns-clause-shrinks g c = λ picture is.
    let a = g.F.Fit.allocator in
    let old = c.args.segment.now in
    let mid = c.cut_end-cut.new.w in
    let n = c.cut_end-cut.result in
    let size = c.saturating_sub-size.result in
    let window = c.window_mut-w.ensures.value ∙ ap (λ s. s.window) c.heap_mut.ensures.value in
    let heap : IsHeap a old.window.bytes = rw is.allocator_is at is.held.laid_out.heap in
    let low = is.held.laid_out.header.not_small in
    let large = is.held.laid_out.header.not_large in
    let host = rw window at c.cut_end-cut.ensures.host in
    let cut_by = rw window at c.cut_end-cut.ensures.cuts in
    let cuts : Cuts a old.window.bytes mid.bytes n = cut_by low heap in
    let fits = cut_fits old.window.bytes mid.bytes n picture is.held (rw is.allocator_is cuts) in
    let same = cuts.length_kept in
    let whole = region_long mid in
    let len : size + 16 * n ≡ length old.window.bytes = omega (arith, c.saturating_sub-size.ensures, c.saturating_mul.ensures, c.len.ensures.len) in
    let room : (length mid.before + size ≤ length (Rattle.seg_spec.specs.Window.region_of mid)) × (size ≤ 1073741824) = (omega arith, omega arith) in
    let long = on_ok c.resize.result (c.resize.ensures.fits.1 room) c.resize.ensures.len in
    shrunk_to a old (record { window = c.resize.new.self; types = c.heap_mut.result.now.types }) picture is mid n host cuts c.resize.ensures.region c.resize.ensures.base size len long (ap (λ s. s.types) c.heap_mut.ensures.value) size refl

pub returns-clause-home : goal.returns-clause-home
returns-clause-home g c =
    let window = c.window_mut-w.ensures.value ∙ ap (λ s. s.window) c.heap_mut.ensures.value in
    c.resize.ensures.home ∙ ap (λ (p : Placement). p.home) c.cut_end-cut.ensures.host ∙ ap (λ (p : Placement). p.home) window
