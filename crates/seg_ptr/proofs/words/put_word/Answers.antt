use Rattle.std.proofs.Common.{◌+◌, ◌<◌, length, sym, arith}
use Rattle.seg_spec.proofs.BytesLaws.{set_number_past}
use Rattle.seg_ptr.proofs.words.put_word.Goals as goal

pub returns-else-saturating_add-bytes-clause-bytes : goal.returns-else-saturating_add-bytes-clause-bytes
returns-else-saturating_add-bytes-clause-bytes c =
    let past : length c.args.bytes.now < c.args.at + 4 = omega (arith, c.saturating_add.ensures) in
    sym (set_number_past 4 c.args.bytes.now c.args.at c.args.value past)
