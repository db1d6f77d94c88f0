use Rattle.std.proofs.Common.{◌≡◌, ℕ, List, sym, ap, ◌∙◌, subst}
use Rattle.seg_spec.specs.Window.{Placement}
use Rattle.lezgauri_c.proofs.SegmentLaws.{WillShrink, will_shrink}
use Rattle.lezgauri_c.proofs.size.shrunk_on.Goals as goal

pub returns-clause-shrunk : goal.returns-clause-shrunk
returns-clause-shrunk g c =
    let allocator = g.F.Fit.allocator in
    let types = c.args.types in
    let s = c.new-segment.result in
    let t = c.shrink_to_fit.new.segment in
    let here : s.window.bytes ≡ c.args.window.bytes = ap (λ (w : Placement). w.bytes) c.new-segment.ensures.window in
    let left : t.window.bytes ≡ c.into_bytes.result.items = sym (c.into_bytes.ensures.bytes ∙ ap (λ (w : Placement). w.bytes) c.into_window.ensures) in
    let there = will_shrink allocator types s t c.new-segment.ensures.types c.shrink_to_fit.result c.shrink_to_fit.ensures.shrinks in
    subst (λ (b : List ℕ). WillShrink allocator types b c.into_bytes.result.items) here (subst (λ (b : List ℕ). WillShrink allocator types s.window.bytes b) left there)

pub returns-clause-home : goal.returns-clause-home
returns-clause-home g c = c.into_bytes.ensures.home ∙ ap (λ (w : Placement). w.home) c.into_window.ensures ∙ c.shrink_to_fit.ensures.home ∙ ap (λ (w : Placement). w.home) c.new-segment.ensures.window
