use Rattle.std.proofs.Common.{refl, ◌∙◌}
use Rattle.std.proofs.Common.{◌*◌, sym, subst, arith}
use Rattle.seg_spec.specs.Types.{IsUsed}
use Rattle.seg_raw.proofs.Numbers.{slice_from}
use Rattle.client_code.proofs.types.used_entries.Goals as goal

pub returns-then-bytes-i-eq0-clause-none : goal.returns-then-bytes-i-eq0-clause-none
returns-then-bytes-i-eq0-clause-none c whole used =
    let field = c.in_ok-bytes.ensures.lookup.0 in
    let is_slice = field.2 ∙ slice_from c.args.file.now c.args.file.now 20 (16 * c.args.count) refl in
    let here = subst (λ xs. IsUsed xs c.loop-i.i) (sym is_slice) (used c.loop-i.i c.loop-i-test.true) in
    let e = c.if-bytes-i-eq0.true in
    omega arith

pub returns-clause-found : goal.returns-clause-found
returns-clause-found c =
    let field = c.in_ok-bytes.ensures.lookup.0 in
    (field.1, field.2 ∙ slice_from c.args.file.now c.args.file.now 20 (16 * c.args.count) refl, omega (arith, field.3), λ k h. c.loop-i.invariant k (let t = c.loop-i-test.false in omega arith))
