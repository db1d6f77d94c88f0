use Rattle.std.proofs.Common.{◌≡◌, ◌+◌, ◌≤◌, length, arith}
use Rattle.seg_seq.proofs.text.assign.Goals as goal

pub returns-clause-text : goal.returns-clause-text
returns-clause-text g c = λ xs blocks t.
    let few : 0 ≤ length xs = omega arith in
    let all : 0 + length c.args.bytes.now ≡ length c.args.bytes.now = omega arith in
    rw all at (c.write.ensures.text xs blocks t few)
