use Rattle.std.proofs.Common.{arith}
use Rattle.std.proofs.lemmas.Bool.{eq-eqb, ne_eqb}
use Rattle.client_text.proofs.TextLines.{stops, goes_on, ends}
use Rattle.client_text.proofs.lines.line_len.Goals as goal

pub loop-i-init : goal.loop-i-init
loop-i-init c = omega arith

pub returns-then-text-i-eq10-clause-count : goal.returns-then-text-i-eq10-clause-count
returns-then-text-i-eq10-clause-count c = stops c.args.text.now c.loop-i.i c.loop-i-test.true c.loop-i.invariant (eq-eqb _ 10 c.if-text-i-eq10.true)

pub loop-i-preserved : goal.loop-i-preserved
loop-i-preserved c = goes_on c.args.text.now c.loop-i.i c.loop-i-test.true c.loop-i.invariant (ne_eqb _ 10 c.if-text-i-eq10.false)

pub returns-clause-count : goal.returns-clause-count
returns-clause-count c =
    let all = ends c.args.text.now c.loop-i.i (let t = c.loop-i-test.false in omega arith) c.loop-i.invariant in
    let t = c.loop-i-test.false in
    omega arith
