use Rattle.std.proofs.Common.{ap, ◌∙◌}
use Rattle.seg_manager.proofs.LooseObjects.{lost}
use Rattle.seg_manager.proofs.segment.Segment.destroy_anonymous.Goals as goal

pub returns-clause-loses : goal.returns-clause-loses
returns-clause-loses g c = λ picture before root after is split at_is.
    let leaves = rw (c.heap_mut.ensures.value, ← at_is) at c.destroy.ensures.destroyed in
    lost g.F.Fit.allocator c.args.self.now c.destroy.new.self picture is before root after split (c.destroy.ensures.types ∙ ap (λ s. s.types) c.heap_mut.ensures.value) leaves
