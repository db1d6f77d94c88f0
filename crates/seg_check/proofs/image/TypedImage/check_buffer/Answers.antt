use Rattle.std.proofs.Common.{◌≡◌, ◌∷◌, [], Ok, Err, sym, ap, ◌∙◌, subst}
use Rattle.std.proofs.lemmas.Result.{err_from_is_err_and}
use Rattle.seg_spec.specs.Pointer.{target}
use Rattle.seg_spec.specs.Reads.{count_at}
use Rattle.seg_cells.specs.Places.{object_at}
use Rattle.seg_check.specs.Resolving.{Steps}
use Rattle.seg_check.proofs.Queue.QueueStepLaws.{steps_refused}
use Rattle.seg_check.proofs.Blocks.CellClaimLaws.{ready_live}
use Rattle.seg_check.proofs.Blocks.LackingBlockLaws.{ready_allocated}
use Rattle.seg_check.proofs.Contents.BufferLaws.{counted_none, counted_some, counted_names, items_advance, items_nothing, items_can, items_counted, items_lack, items_counted_lack}
use Rattle.seg_check.proofs.image.TypedImage.check_buffer.Goals as goal

pub returns-in_err-count-clause-steps : goal.returns-in_err-count-clause-steps
returns-in_err-count-clause-steps g c = λ T form has by ready lies.
    let bytes = c.args.self.now.bytes.bytes.now in
    let table = c.args.self.now.types.now in
    let old = c.args.claims.now in
    let at = c.args.cell in
    let e = c.in_err-count.field-0.0 in
    let failed = err_from_is_err_and c.from_residual.result c.from_residual.ensures.1 in
    let same : failed.0 ≡ e = failed.2 in
    subst (λ r. Steps bytes table old old (object_at at T ∷ []) r) (sym (failed.1 ∙ ap Err same))
    (let was = sym c.counted.ensures ∙ c.in_err-count.was in (items_counted bytes table old at T form e has by.form_is was, items_counted_lack bytes table at T form e lies has by.form_is was))

pub returns-in_err-claim_entries-clause-steps : goal.returns-in_err-claim_entries-clause-steps
returns-in_err-claim_entries-clause-steps g c = λ T form has by ready lies.
    let bytes = c.args.self.now.bytes.bytes.now in
    let table = c.args.self.now.types.now in
    let old = c.args.claims.now in
    let at = c.args.cell in
    let e = c.in_err-claim_entries.field-0.0 in
    let failed = err_from_is_err_and c.from_residual-in_err-claim_entries.result c.from_residual-in_err-claim_entries.ensures.1 in
    let same : failed.0 ≡ e = failed.2 in
    let counts = sym c.counted.ensures ∙ c.in_ok-count.was ∙ ap Ok c.in-Some.is in
    let names = counted_names at (count_at bytes at) c.in-Some.count (target bytes at) counts in
    let n_is = counted_some at (count_at bytes at) c.in-Some.count (target bytes at) counts in
    steps_refused bytes table old c.claim_entries.new.claims (object_at at T ∷ []) c.from_residual-in_err-claim_entries.result e _ (failed.1 ∙ ap Err same)
    (items_can bytes table old at T c.in-Some.count names.0 form c.args.content.now has by names.1 n_is)
    (c.in_err-claim_entries.ensures.refused (ready_live bytes table old ready))
    (items_lack bytes table old at T c.in-Some.count form c.args.content.now e ready lies has by n_is (c.in_err-claim_entries.ensures.lacks (ready_allocated bytes table old ready)))

pub returns-in_ok-claim_entries-clause-steps : goal.returns-in_ok-claim_entries-clause-steps
returns-in_ok-claim_entries-clause-steps g c = λ T form has by ready lies.
    let bytes = c.args.self.now.bytes.bytes.now in
    let table = c.args.self.now.types.now in
    let at = c.args.cell in
    let counts = sym c.counted.ensures ∙ c.in_ok-count.was ∙ ap Ok c.in-Some.is in
    let n_is = counted_some at (count_at bytes at) c.in-Some.count (target bytes at) counts in
    items_advance bytes table c.args.claims.now c.claim_entries.new.claims at T c.in-Some.count c.in_ok-claim_entries.field-0 form c.args.content.now ready lies has by n_is
    (c.in_ok-claim_entries.ensures.claimed (ready_live bytes table c.args.claims.now ready))

pub returns-in_default-clause-steps : goal.returns-in_default-clause-steps
returns-in_default-clause-steps g c = λ T form has by ready lies.
    let bytes = c.args.self.now.bytes.bytes.now in
    let table = c.args.self.now.types.now in
    let at = c.args.cell in
    let none = counted_none at (count_at bytes at) (target bytes at) (sym c.counted.ensures ∙ c.in_ok-count.was ∙ ap Ok c.in_default.is) in
    items_nothing bytes table c.args.claims.now at T form c.args.content.now has by none.0 none.1
