use Rattle.std.proofs.Common.{◌≡◌, ◌∙◌, length, false, ap, sym, refl, arith}
use Rattle.std.specs.Result.{OnOk, is_err}
use Rattle.std.proofs.Common.{Result, Ok, Err}
use Rattle.std.proofs.lemmas.Bool.{true≢false}
use Rattle.seg_spec.specs.Bytes.{put}
use Rattle.seg_spec.specs.Window.{Placement}
use Rattle.seg_spec.proofs.BytesLaws.{length-put}
use Rattle.std.proofs.Common.{ℕ, ◌+◌, ◌-◌, ◌/◌, ◌≤◌, List, replicate}
use Rattle.seg_spec.specs.Heap.{IsHeap, without_end}
use Rattle.seg_spec.specs.Faulty.{IsImageLength}
use Rattle.seg_manager.proofs.ResizeLaws.{grown_by_none, front_is, host_then, grown}
use Rattle.seg_manager.specs.Sizes.{used_front}
use Rattle.seg_manager.proofs.NewZeros.{zeros_extend, zeros_there}
use Rattle.seg_manager.proofs.size.grow.Goals as goal

holds_on_ok : {T E P : Type 0} (r : Result T E) → OnOk r P → is_err r ≡ false → P
holds_on_ok (Ok _) p is = p
holds_on_ok (Err _) p is = absurd (true≢false is)

pub extend_end-requires : goal.extend_end-requires
extend_end-requires g c = omega (
  arith,
  holds_on_ok c.resize.result c.resize.ensures.len (sym c.is_err.ensures.value ∙ c.if-is_err.false),
  ap (λ (p : Placement). length p.bytes) c.fill.ensures,
  length-put c.resize.new.self.bytes c.len-len.result (replicate c.used_front-front.result 0),
)

pub returns-else-extra-gt0-clause-grows : goal.returns-else-extra-gt0-clause-grows
returns-else-extra-gt0-clause-grows g c = λ picture is.
    let old = c.args.segment.now in
    let extra = c.args.extra in
    let window = c.window_mut-w.ensures.value ∙ ap (λ s. s.window) c.heap_mut.ensures.value in
    let len = rw window at c.len-len.ensures.len in
    let is_sized = c.is_size.ensures.0 c.if-not-is_size.false in
    let small = is_sized.not_large in
    let size_is : c.saturating_add-size.result ≡ length old.window.bytes + extra = omega (arith, c.saturating_add-size.ensures) in
    let sized : IsImageLength (length old.window.bytes + extra) = rw size_is at is_sized in
    let long = holds_on_ok c.resize.result c.resize.ensures.len (sym c.is_err.ensures.value ∙ c.if-is_err.false) ∙ size_is in
    let region = rw window at c.resize.ensures.region in
    let base = rw window at c.resize.ensures.base in
    grown_by_none g.F.Fit.allocator old picture is c.resize.new.self extra region base long sized c.if-extra-ne0.false (record { window = c.resize.new.self; types = c.heap_mut.result.now.types }) (omega (arith, c.if-extra-gt0.false)) refl
    (c.resize.ensures.home ∙ ap (λ (p : Placement). p.home) window) (ap (λ s. s.types) c.heap_mut.ensures.value)

pub returns-then-extra-gt0-clause-grows : goal.returns-then-extra-gt0-clause-grows
returns-then-extra-gt0-clause-grows g c = λ picture is.
    let a = g.F.Fit.allocator in
    let old = c.args.segment.now in
    let extra = c.args.extra in
    let q = c.resize.new.self in
    let window = c.window_mut-w.ensures.value ∙ ap (λ s. s.window) c.heap_mut.ensures.value in
    let len = rw window at c.len-len.ensures.len in
    let is_sized = c.is_size.ensures.0 c.if-not-is_size.false in
    let small = is_sized.not_large in
    let size_is : c.saturating_add-size.result ≡ length old.window.bytes + extra = omega (arith, c.saturating_add-size.ensures) in
    let sized : IsImageLength (length old.window.bytes + extra) = rw size_is at is_sized in
    let long = holds_on_ok c.resize.result c.resize.ensures.len (sym c.is_err.ensures.value ∙ c.if-is_err.false) ∙ size_is in
    let region = rw window at c.resize.ensures.region in
    let base = rw window at c.resize.ensures.base in
    let whole = c.if-extra-ne0.false in
    let used = c.used_front-front.ensures in
    let filled = rw (len, used) at c.fill.ensures in
    let first : List ℕ = replicate (used_front a extra) 0 in
    let mid = c.extend_end.new.w in
    let new = c.fill-then-extra-gt0.new.self in
    let front = front_is a old picture is q extra region base long sized whole c.fill.new.self mid first filled c.extend_end.ensures.host in
    let heap : IsHeap a (without_end c.fill.new.self.bytes (extra / 16)) = rw (front, ← is.allocator_is) is.held.laid_out.heap in
    let low = is.held.laid_out.header.not_small in
    let few : a ≤ 1 = rw is.allocator_is at is.held.laid_out.header.allocator_is in
    let wide : length c.fill.new.self.bytes ≡ length old.window.bytes + extra = ap (λ (p : Placement). length p.bytes) filled ∙ length-put q.bytes (length old.window.bytes) first ∙ long in
    let extends = c.extend_end.ensures.extends (omega arith) heap in
    let zeroed = rw (len, c.saturating_sub-rest.ensures, used) at c.fill-then-extra-gt0.ensures in
    let zeros = ap (λ (p : Placement). p.bytes) zeroed in
    let host = host_then c.fill.new.self mid new (put mid.bytes (length old.window.bytes + used_front a extra) (replicate (extra - used_front a extra) 0)) c.extend_end.ensures.host zeroed in
    grown a old picture is q extra region base long sized whole c.fill.new.self new first filled host c.heap_mut.result.now.types (ap (λ s. s.types) c.heap_mut.ensures.value) c.if-extra-gt0.true
    (zeros_extend a c.fill.new.self.bytes mid.bytes extra (length old.window.bytes) heap extends wide low c.if-extra-gt0.true whole few new.bytes zeros)
    (zeros_there a c.fill.new.self.bytes mid.bytes extra (length old.window.bytes) heap extends wide low c.if-extra-gt0.true whole few new.bytes zeros)

pub returns-else-extra-gt0-clause-home : goal.returns-else-extra-gt0-clause-home
returns-else-extra-gt0-clause-home g c =
    let window = c.window_mut-w.ensures.value ∙ ap (λ s. s.window) c.heap_mut.ensures.value in
    c.resize.ensures.home ∙ ap (λ (p : Placement). p.home) window

pub returns-then-extra-gt0-clause-home : goal.returns-then-extra-gt0-clause-home
returns-then-extra-gt0-clause-home g c =
    let window = c.window_mut-w.ensures.value ∙ ap (λ s. s.window) c.heap_mut.ensures.value in
    ap (λ (p : Placement). p.home) c.fill-then-extra-gt0.ensures
    ∙ ap (λ (p : Placement). p.home) c.extend_end.ensures.host
    ∙ ap (λ (p : Placement). p.home) c.fill.ensures
    ∙ c.resize.ensures.home
    ∙ ap (λ (p : Placement). p.home) window
