use Rattle.std.proofs.Common.{◌≡◌, ◌+◌, ap, ◌∙◌, arith}
use Rattle.seg_cells.specs.declared.content.Shape.TheVariants as shape
use Rattle.seg_spec.specs.Types.{IsTable, size}
use Rattle.seg_spec.specs.Block.{Kind, tag_of}
use Rattle.seg_manager.proofs.ResultLaws.{by_result}
use Rattle.seg_manager.proofs.LooseObjects.{made}
use Rattle.seg_manager.proofs.segment.Segment.new_anonymous.Goals as goal

pub returns-clause-makes : goal.returns-clause-makes
returns-clause-makes g c = λ picture is below.
    let old = c.args.self.now in
    let tag = tag_of Kind.object c.args.t in
    let given = rw c.heap_mut.ensures.value at c.new_block.ensures.given in
    let content = rw c.types.ensures at c.object-content.ensures.content in
    let valid : IsTable old.types = rw is.table_is is.held.laid_out.is_table in
    let heap = rw is.allocator_is at is.held.laid_out.heap in
    let sized : 0 + size old.types c.args.t ≡ size old.types c.args.t = omega arith in
    let types = c.new_block.ensures.types ∙ ap (λ s. s.types) c.heap_mut.ensures.value in
    by_result _ _ _ _ c.new_block.result (λ at m. made g.F.Fit.allocator old c.new_block.new.self picture is c.args.t at below types m) (λ e r. rw sized at r)
    (given 0 c.args.t tag shape.Object content (omega arith) (omega arith) valid below heap)
