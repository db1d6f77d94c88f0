use Rattle.std.proofs.Common.{◌≡◌, ◌≤◌, ◌∷◌, [], Err, sym, ap, ◌∙◌, subst, arith}
use Rattle.std.proofs.lemmas.Result.{err_from_is_err_and}
use Rattle.seg_spec.specs.Pointer.{target}
use Rattle.seg_spec.specs.Reads.{count_at}
use Rattle.seg_cells.specs.Places.{object_at}
use Rattle.seg_check.specs.Resolving.{Steps}
use Rattle.seg_check.proofs.Queue.QueueStepLaws.{steps_refused}
use Rattle.seg_check.proofs.Blocks.CellClaimLaws.{ready_live}
use Rattle.seg_check.proofs.Blocks.LackingBlockLaws.{ready_allocated}
use Rattle.seg_check.proofs.Contents.BufferLaws.{blocks_is_some, blocks_is_none, own_advance, own_nothing, own_can, own_counted, own_many, own_counted_lack, own_lacks, own_many_lack}
use Rattle.seg_check.proofs.image.TypedImage.check_own.Goals as goal

pub returns-in_err-counted_blocks-clause-steps : goal.returns-in_err-counted_blocks-clause-steps
returns-in_err-counted_blocks-clause-steps g c = λ T U by ready lies.
    let bytes = c.args.self.now.bytes.bytes.now in
    let table = c.args.self.now.types.now in
    let old = c.args.claims.now in
    let at = c.args.cell in
    let e = c.in_err-counted_blocks.field-0.0 in
    let failed = err_from_is_err_and c.from_residual.result c.from_residual.ensures.1 in
    let same : failed.0 ≡ e = failed.2 in
    subst (λ r. Steps bytes table old old (object_at at T ∷ []) r) (sym (failed.1 ∙ ap Err same))
    (let was = sym c.counted_blocks.ensures ∙ c.in_err-counted_blocks.was in (own_counted bytes table at T U c.args.content.now by old e was, own_counted_lack bytes table at T U c.args.content.now by e lies was))

pub returns-then-count_in-gt1-clause-steps : goal.returns-then-count_in-gt1-clause-steps
returns-then-count_in-gt1-clause-steps g c = λ T U by ready lies.
    let bytes = c.args.self.now.bytes.bytes.now in
    let table = c.args.self.now.types.now in
    let many : 2 ≤ count_at bytes c.args.cell = omega (arith, c.if-count_in-gt1.true, c.count_in.ensures) in
    (own_many bytes table c.args.cell T U c.args.content.now by c.args.claims.now many, own_many_lack bytes table c.args.cell T U c.args.content.now by lies many)

pub returns-in_err-claim_entries-clause-steps : goal.returns-in_err-claim_entries-clause-steps
returns-in_err-claim_entries-clause-steps g c = λ T U by ready lies.
    let bytes = c.args.self.now.bytes.bytes.now in
    let table = c.args.self.now.types.now in
    let old = c.args.claims.now in
    let at = c.args.cell in
    let e = c.in_err-claim_entries.field-0.0 in
    let failed = err_from_is_err_and c.from_residual-in_err-claim_entries.result c.from_residual-in_err-claim_entries.ensures.1 in
    let same : failed.0 ≡ e = failed.2 in
    let names = blocks_is_some at (count_at bytes at) (target bytes at) c.in_ok-counted_blocks.field-0 (sym c.counted_blocks.ensures ∙ c.in_ok-counted_blocks.was) c.if-is_some.ensures in
    let one : 1 ≡ count_at bytes at = omega (arith, names.2, c.if-count_in-gt1.false, c.count_in.ensures) in
    steps_refused bytes table old c.claim_entries.new.claims (object_at at T ∷ []) c.from_residual-in_err-claim_entries.result e _ (failed.1 ∙ ap Err same)
    (own_can bytes table at T U c.args.content.now by old names.0 names.1 one)
    (c.in_err-claim_entries.ensures.refused (ready_live bytes table old ready))
    (own_lacks bytes table at T U c.args.content.now by old e ready lies (c.in_err-claim_entries.ensures.lacks (ready_allocated bytes table old ready)))

pub returns-in_ok-claim_entries-clause-steps : goal.returns-in_ok-claim_entries-clause-steps
returns-in_ok-claim_entries-clause-steps g c = λ T U by ready lies.
    let bytes = c.args.self.now.bytes.bytes.now in
    let table = c.args.self.now.types.now in
    let old = c.args.claims.now in
    let at = c.args.cell in
    let names = blocks_is_some at (count_at bytes at) (target bytes at) c.in_ok-counted_blocks.field-0 (sym c.counted_blocks.ensures ∙ c.in_ok-counted_blocks.was) c.if-is_some.ensures in
    let one : 1 ≡ count_at bytes at = omega (arith, names.2, c.if-count_in-gt1.false, c.count_in.ensures) in
    own_advance bytes table at T U c.args.content.now by old c.claim_entries.new.claims c.in_ok-claim_entries.field-0 ready lies one (c.in_ok-claim_entries.ensures.claimed (ready_live bytes table old ready))

pub returns-else-is_some-clause-steps : goal.returns-else-is_some-clause-steps
returns-else-is_some-clause-steps g c = λ T U by ready lies.
    let bytes = c.args.self.now.bytes.bytes.now in
    let at = c.args.cell in
    let none = blocks_is_none at (count_at bytes at) (target bytes at) c.in_ok-counted_blocks.field-0 (sym c.counted_blocks.ensures ∙ c.in_ok-counted_blocks.was) c.if-is_some.ensures in
    own_nothing bytes c.args.self.now.types.now at T U c.args.content.now by c.args.claims.now none.0 none.1
