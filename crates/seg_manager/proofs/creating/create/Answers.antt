use Rattle.std.proofs.Common.{◌≡◌, [], ap, ◌∙◌}
use Rattle.seg_spec.specs.Window.{Placement}
use Rattle.seg_manager.proofs.NewSegmentLaws.{placed_before, placed_after, new_segment}
use Rattle.seg_manager.proofs.creating.create.Goals as goal

pub returns-clause-empty : goal.returns-clause-empty
returns-clause-empty g c =
    let a = g.F.Fit.allocator in
    let placed = c.in_ok-window.window in
    let old = c.new-segment.result in
    let window = c.new-segment.ensures.window in
    let types : old.types ≡ [] = c.new-segment.ensures.types ∙ c.new.ensures in
    let there = c.in_ok-window.ensures.window in
    let empty = rw (← window) at (c.write_empty.ensures.empty (c.is_size.ensures.0 c.if-not-is_size.false) there.2) in
    let host = c.write_empty.ensures.host in
    let before = ap (λ (p : Placement). p.before) window ∙ ap (λ (p : Placement). p.before) host ∙ placed_before placed c.args.region.bytes c.args.base c.args.size there.0 there.1 there.2 in
    let after = ap (λ (p : Placement). p.after) window ∙ ap (λ (p : Placement). p.after) host ∙ placed_after placed c.args.region.bytes c.args.base c.args.size there.0 there.1 there.2 in
    new_segment a old c.zero_free_memory.new.segment types empty.0 empty.3 c.zero_free_memory.ensures.zeroes c.args.region.bytes c.args.base c.args.size c.args.index empty.1 empty.2 empty.4 empty.5 empty.6
    c.zero_free_memory.ensures.window before after
