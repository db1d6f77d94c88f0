use Rattle.std.proofs.Common.{arith}
use Rattle.client_text.proofs.LineWords.{stops, goes_on, ends}
use Rattle.client_text.proofs.words.before_space.Goals as goal

pub loop-i-init : goal.loop-i-init
loop-i-init c = omega arith

pub returns-then-line-i-clause-count : goal.returns-then-line-i-clause-count
returns-then-line-i-clause-count c = stops c.args.is_space c.args.line.now c.loop-i.i c.loop-i-test.true c.loop-i.invariant c.if-line-i.true

pub loop-i-preserved : goal.loop-i-preserved
loop-i-preserved c = goes_on c.args.is_space c.args.line.now c.loop-i.i c.loop-i-test.true c.loop-i.invariant c.if-line-i.false

pub returns-clause-count : goal.returns-clause-count
returns-clause-count c =
    let all = ends c.args.is_space c.args.line.now c.loop-i.i (let t = c.loop-i-test.false in omega arith) c.loop-i.invariant in
    let t = c.loop-i-test.false in
    omega arith
