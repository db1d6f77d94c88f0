use Rattle.std.proofs.Common.{Err, sym, ap, ◌∙◌, subst}
use Rattle.std.specs.Prelude.{IfErr}
use Rattle.std.proofs.lemmas.Result.{err_from_is_err_and}
use Rattle.seg_check.specs.Positions.{IsFaultAt}
use Rattle.seg_check.proofs.CheckStageLaws.{content_at}
use Rattle.seg_check.proofs.checker.check_heap.Goals as goal

pub returns-in_err-check_content-clause-position : goal.returns-in_err-check_content-clause-position
returns-in_err-check_content-clause-position g c = λ front.
    let bytes = c.args.bytes.bytes.now in
    let table = c.args.types.now in
    let heap = c.in_ok-check_structure.ensures front (c.in_ok-claims.ensures front) in
    let wrong = c.in_err-check_content.ensures heap in
    let e = c.in_err-check_content.field-0.0 in
    let failed = err_from_is_err_and c.from_residual-in_err-check_content.result c.from_residual-in_err-check_content.ensures.1 in
    subst (λ x. IfErr x (IsFaultAt bytes)) (sym (failed.1 ∙ ap Err failed.2)) (content_at bytes table front e wrong.2)

pub returns-in-Some-clause-fault : goal.returns-in-Some-clause-fault
returns-in-Some-clause-fault g c = λ front.
    let heap = c.in_ok-check_structure.ensures front (c.in_ok-claims.ensures front) in
    let owners = c.in_ok-check_content.ensures heap in
    owners.some_unowned c.in-Some.block (c.in-Some.ensures owners.counted).0
