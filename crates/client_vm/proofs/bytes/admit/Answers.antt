use Rattle.std.proofs.Common.{List, ℕ, None, map, subst}
use Rattle.std.proofs.lemmas.Result.{IfErr-at_err}
use Rattle.seg_check.specs.Faults.{IsImageOf, IsFaultOf}
use Rattle.client_vm.specs.Admitted.{IsWrong}
use Rattle.client_vm.proofs.RefusalLaws.{err_is, if_wrong}
use Rattle.client_vm.proofs.bytes.admit.Goals as goal

pub returns-in_err-types-clause-refused : goal.returns-in_err-types-clause-refused
returns-in_err-types-clause-refused g c =
    let image = c.args.window.now.bytes in
    let texts : List (List ℕ) = map (λ x. x.now) c.args.clients.now in
    let f = c.in_err-types.field-0.0 in
    err_is c.from_residual.result (record { client = None; fault = f }) (IsWrong image texts) (subst (λ b. IsFaultOf b f) c.view.ensures c.in_err-types.ensures.fault) c.from_residual.ensures.1

pub returns-in_err-programs-clause-refused : goal.returns-in_err-programs-clause-refused
returns-in_err-programs-clause-refused g c =
    let image = c.args.window.now.bytes in
    let texts : List (List ℕ) = map (λ x. x.now) c.args.clients.now in
    let is = subst (λ b. IsImageOf b c.in_ok-types.types) c.view.ensures c.in_ok-types.ensures.image in
    err_is c.from_residual-in_err-programs.result c.in_err-programs.field-0.0 (IsWrong image texts)
    (IfErr-at_err (IsWrong image texts) c.in_err-programs.was (if_wrong image texts c.in_ok-types.types is c.prepared.result c.prepared.ensures.refused)) c.from_residual-in_err-programs.ensures.1
