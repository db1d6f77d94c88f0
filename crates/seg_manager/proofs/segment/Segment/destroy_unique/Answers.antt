use Rattle.std.proofs.Common.{ap, ◌∙◌, sym}
use Rattle.seg_spec.specs.Window.{Placement}
use Rattle.seg_value.specs.Stored.{Stored}
use Rattle.seg_manager.proofs.UniqueObjects.{names_unique, lost_unique}
use Rattle.seg_manager.proofs.segment.Segment.destroy_unique.Goals as goal

pub returns-in_default-clause-none : goal.returns-in_default-clause-none
returns-in_default-clause-none g c = λ picture is less fails.
    let names = names_unique g.F.Fit.allocator c.args.self.now picture c.args.t is less in
    let read = rw c.window.ensures at c.unique.ensures in
    sym names ∙ sym read ∙ c.in_default.is

pub returns-clause-loses : goal.returns-clause-loses
returns-clause-loses g c = λ picture is less done.
    let old = c.args.self.now in
    let read = rw c.window.ensures at c.unique.ensures in
    let window = c.window_mut.ensures.value ∙ ap (λ s. s.window) c.heap_mut.ensures.value in
    let mid : Stored = record { window = c.set_unique.new.w; types = c.heap_mut.result.now.types } in
    let set = rw window at c.set_unique.ensures in
    let leaves = rw c.heap_mut-2.ensures.value at c.destroy.ensures.destroyed in
    lost_unique g.F.Fit.allocator old mid c.destroy.new.self picture is c.args.t c.in-Some.object less (sym read ∙ c.in-Some.is) (ap (λ (p : Placement). p.bytes) set) (ap (λ s. s.types) c.heap_mut.ensures.value)
    (c.destroy.ensures.types ∙ ap (λ s. s.types) c.heap_mut-2.ensures.value) leaves
