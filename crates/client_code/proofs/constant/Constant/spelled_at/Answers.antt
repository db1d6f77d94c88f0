use Rattle.std.proofs.Common.{refl}
use Rattle.client_code.proofs.FileReadLaws.{constant_at}
use Rattle.client_code.proofs.constant.Constant.spelled_at.Goals as goal

pub returns-clause-spelled : goal.returns-clause-spelled
returns-clause-spelled c =
    let front = c.in_ok-get.ensures.lookup.0 in
    let bytes = c.in_ok-bytes.ensures.lookup.0 in
    constant_at c.args.file.now c.in_ok-get.field-0.now _ c.in_ok-bytes.bytes.now c.in_ok-kind.kind c.args.at c.from-2.result c.from.result front.2
    c.in-len2-up.len_at_least refl c.from-2.ensures c.from.ensures bytes.1 bytes.2 c.in_ok-kind.ensures.found
