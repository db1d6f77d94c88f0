use Rattle.std.proofs.Common.{◌≡◌, length, sym, ap, ◌∙◌, arith, Err}
use Rattle.std.proofs.lemmas.Result.{err_from_is_err_and}
use Rattle.client_verify.specs.Views.{register_type_of, checked, reason_of}
use Rattle.client_verify.proofs.Places.{kept_more, kept_not, kept_all}
use Rattle.client_verify.proofs.registers.Registers.keeps.Goals as goal

pub loop-i-preserved : goal.loop-i-preserved
loop-i-preserved c =
    let t = c.loop-i-test.true in
    let self_long : length c.args.self.now.types ≡ 16 = omega arith in
    let after_long : length c.args.after.now.types ≡ 16 = omega arith in
    kept_more register_type_of c.args.self.now.types c.args.after.now.types c.loop-i.i _ _ _ (omega arith) (omega arith) c.loop-i.invariant c.in_ok-keeps.ensures

pub returns-in_err-keeps : goal.returns-in_err-keeps
returns-in_err-keeps c =
    let t = c.loop-i-test.true in
    let self_long : length c.args.self.now.types ≡ 16 = omega arith in
    let after_long : length c.args.after.now.types ≡ 16 = omega arith in
    let e = c.in_err-keeps.field-0.0 in
    let failed = err_from_is_err_and c.from_residual.result c.from_residual.ensures.1 in
    let same : failed.0 ≡ e = failed.2 in
    ap (checked (λ x. x)) (failed.1 ∙ ap Err same)
    ∙ sym (kept_not register_type_of c.args.self.now.types c.args.after.now.types c.loop-i.i _ _ (reason_of e) (omega arith) (omega arith) c.loop-i.invariant c.in_err-keeps.ensures)

pub returns : goal.returns
returns c =
    let t = c.loop-i-test.false in
    let self_long : length c.args.self.now.types ≡ 16 = omega arith in
    let after_long : length c.args.after.now.types ≡ 16 = omega arith in
    sym (kept_all register_type_of c.args.self.now.types c.args.after.now.types c.loop-i.i (omega arith) (omega arith) c.loop-i.invariant)
