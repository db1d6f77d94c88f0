use Rattle.std.proofs.Common.{◌≡◌, ◌+◌, ◌∷◌, [], Ok, Err, sym, ap, ◌∙◌, subst, arith}
use Rattle.std.proofs.lemmas.Result.{err_from_is_err_and}
use Rattle.seg_spec.specs.Pointer.{target}
use Rattle.seg_spec.specs.Types.{size}
use Rattle.seg_spec.specs.Reads.{count_at, keys_at, spaced}
use Rattle.seg_cells.specs.Places.{object_at}
use Rattle.std.specs.Prelude.{IsTrue, ◌↔◌}
use Rattle.seg_spec.specs.Value.{IsAscending}
use Rattle.seg_check.specs.Resolving.{Steps}
use Rattle.seg_check.proofs.Queue.QueueStepLaws.{steps_refused}
use Rattle.seg_check.proofs.Blocks.CellClaimLaws.{ready_live}
use Rattle.seg_check.proofs.Blocks.LackingBlockLaws.{ready_allocated}
use Rattle.seg_check.proofs.Contents.BufferLaws.{counted_none, counted_some, counted_names}
use Rattle.seg_check.proofs.Contents.AscendingKeyLaws.{order_told}
use Rattle.seg_check.proofs.Contents.FlatMapLaws.{flat_nothing, flat_counted, flat_can, flat_steps, flat_inside, flat_counted_lack, flat_lacks}
use Rattle.seg_check.proofs.image.TypedImage.check_flat_map.Goals as goal

pub returns-in_err-count-clause-steps : goal.returns-in_err-count-clause-steps
returns-in_err-count-clause-steps g c = λ T U by ready lies.
    let bytes = c.args.self.now.bytes.bytes.now in
    let table = c.args.self.now.types.now in
    let old = c.args.claims.now in
    let at = c.args.cell in
    let e = c.in_err-count.field-0.0 in
    let failed = err_from_is_err_and c.from_residual.result c.from_residual.ensures.1 in
    let same : failed.0 ≡ e = failed.2 in
    subst (λ r. Steps bytes table old old (object_at at T ∷ []) r) (sym (failed.1 ∙ ap Err same))
    (let was = sym c.counted.ensures ∙ c.in_err-count.was in (flat_counted bytes table at T U c.args.content.now by old e was, flat_counted_lack bytes table at T U c.args.content.now by e lies was))

pub returns-in_default-clause-steps : goal.returns-in_default-clause-steps
returns-in_default-clause-steps g c = λ T U by ready lies.
    let bytes = c.args.self.now.bytes.bytes.now in
    let at = c.args.cell in
    let none = counted_none at (count_at bytes at) (target bytes at) (sym c.counted.ensures ∙ c.in_ok-count.was ∙ ap Ok c.in_default.is) in
    flat_nothing bytes c.args.self.now.types.now at T U c.args.content.now by c.args.claims.now none.0 none.1

pub returns-in_err-start-clause-steps : goal.returns-in_err-start-clause-steps
returns-in_err-start-clause-steps g c = λ T U by ready lies.
    let bytes = c.args.self.now.bytes.bytes.now in
    let table = c.args.self.now.types.now in
    let old = c.args.claims.now in
    let at = c.args.cell in
    let e = c.in_err-start.field-0.0 in
    let failed = err_from_is_err_and c.from_residual-in_err-start.result c.from_residual-in_err-start.ensures.1 in
    let same : failed.0 ≡ e = failed.2 in
    let counts = sym c.counted.ensures ∙ c.in_ok-count.was ∙ ap Ok c.in-Some.is in
    let names = counted_names at (count_at bytes at) c.in-Some.count (target bytes at) counts in
    let n_is = counted_some at (count_at bytes at) c.in-Some.count (target bytes at) counts in
    steps_refused bytes table old c.claim_entries.new.claims (object_at at T ∷ []) c.from_residual-in_err-start.result e _ (failed.1 ∙ ap Err same)
    (flat_can bytes table at T U c.args.content.now by old c.in-Some.count names.0 names.1 n_is)
    (c.in_err-start.ensures.refused (ready_live bytes table old ready))
    (flat_lacks bytes table at T U c.args.content.now by old c.in-Some.count e ready lies n_is (c.in_err-start.ensures.lacks (ready_allocated bytes table old ready)))

pub returns-clause-steps : goal.returns-clause-steps
returns-clause-steps g c = λ T U by ready lies.
    let bytes = c.args.self.now.bytes.bytes.now in
    let table = c.args.self.now.types.now in
    let old = c.args.claims.now in
    let at = c.args.cell in
    let p = c.in_ok-start.start in
    let counts = sym c.counted.ensures ∙ c.in_ok-count.was ∙ ap Ok c.in-Some.is in
    let n_is = counted_some at (count_at bytes at) c.in-Some.count (target bytes at) counts in
    let claimed = c.in_ok-start.ensures.claimed (ready_live bytes table old ready) in
    let each : c.args.content.now.entry.size ≡ 8 + size table U = by.content_of.entry_is.size_is in
    let ascends = subst (λ step. IsTrue c.keys_ascend.result ↔ IsAscending (keys_at bytes (spaced p step c.in-Some.count))) each (c.keys_ascend.ensures (omega (arith, each))
    (flat_inside bytes table at T U c.args.content.now by old c.claim_entries.new.claims c.in-Some.count p ready claimed)) in
    flat_steps bytes table at T U c.args.content.now by {A = Unit {0}} old c.claim_entries.new.claims c.in-Some.count p c.in_order.result ready lies n_is claimed
    (order_told (keys_at bytes (spaced p (8 + size table U) c.in-Some.count)) c.keys_ascend.result at c.in_order.result ascends c.in_order.ensures)
