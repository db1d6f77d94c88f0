use Rattle.std.proofs.Common.{◌≡◌, ℕ, List, sym, ap, ◌∙◌, subst}
use Rattle.std.proofs.lemmas.Result.{IfOk-at_ok}
use Rattle.seg_spec.specs.Sound.{Picture}
use Rattle.seg_spec.specs.Window.{Placement}
use Rattle.lezgauri.specs.Segments.{IsSegment}
use Rattle.seg_manager.specs.Sizes.{Grows}
use Rattle.lezgauri_c.proofs.SegmentLaws.{WillGrow, will_grow}
use Rattle.lezgauri_c.proofs.size.grown_on.Goals as goal

pub returns-clause-grown : goal.returns-clause-grown
returns-clause-grown g c =
    let allocator = g.F.Fit.allocator in
    let types = c.args.types in
    let s = c.new-segment.result in
    let t = c.grow.new.segment in
    let here : s.window.bytes ≡ c.args.window.bytes = ap (λ (w : Placement). w.bytes) c.new-segment.ensures.window in
    let left : t.window.bytes ≡ c.into_bytes.result.items = sym (c.into_bytes.ensures.bytes ∙ ap (λ (w : Placement). w.bytes) c.into_window.ensures) in
    let grows = IfOk-at_ok (λ _. (picture : Picture) → IsSegment allocator s picture → Grows allocator s t picture c.args.extra) c.unwrap.ensures c.grow.ensures.grows in
    let there = will_grow allocator types s t c.new-segment.ensures.types c.args.extra grows in
    subst (λ (b : List ℕ). WillGrow allocator types c.args.extra b c.into_bytes.result.items) here (subst (λ (b : List ℕ). WillGrow allocator types c.args.extra s.window.bytes b) left there)

pub returns-clause-home : goal.returns-clause-home
returns-clause-home g c = c.into_bytes.ensures.home ∙ ap (λ (w : Placement). w.home) c.into_window.ensures ∙ c.grow.ensures.home ∙ ap (λ (w : Placement). w.home) c.new-segment.ensures.window
