use Rattle.std.proofs.Common.{◌≡◌, ℕ, List, sym, ap, ◌∙◌, subst}
use Rattle.std.proofs.lemmas.Result.{IfOk-at_ok}
use Rattle.seg_spec.specs.Window.{Placement}
use Rattle.lezgauri.specs.Stored.{Stored}
use Rattle.seg_manager.specs.NewSegments.{word_of_kind, IsNewSegment}
use Rattle.lezgauri_c.specs.Segments.{IsNewImage}
use Rattle.lezgauri_c.proofs.SegmentLaws.{new_image}
use Rattle.lezgauri_c.proofs.creating.new_image.Goals as goal

pub returns-clause-created : goal.returns-clause-created
returns-clause-created g c =
    let allocator = g.F.Fit.allocator in
    let kind = word_of_kind c.args.index in
    let s = c.unwrap-segment.result in
    let new = IfOk-at_ok (λ (s : Stored). IsNewSegment allocator s c.from_vec.result.bytes 0 c.args.size c.args.index) c.unwrap-segment.ensures c.create.ensures.empty in
    let left : s.window.bytes ≡ c.into_bytes.result.items = sym (c.into_bytes.ensures.bytes ∙ ap (λ (w : Placement). w.bytes) c.into_window.ensures) in
    subst (λ (b : List ℕ). IsNewImage allocator kind c.args.size b) left
    (new_image allocator kind c.args.size s.window.bytes new.segment.held new.segment.counted new.no_block new.zeroed new.length_is new.segment.allocator_is new.kind_is new.version_is new.next_is)

pub returns-clause-home : goal.returns-clause-home
returns-clause-home g c =
    let created = IfOk-at_ok (λ (s : Stored). s.window.home ≡ c.from_vec.result.home) c.unwrap-segment.ensures c.create.ensures.home in
    c.into_bytes.ensures.home ∙ ap (λ (w : Placement). w.home) c.into_window.ensures ∙ created ∙ c.from_vec.ensures.home ∙ c.shorten.ensures.home
