use Rattle.std.proofs.Common.{◌∙◌}
use Rattle.seg_raw.proofs.Numbers.{slice_from}
use Rattle.std.proofs.Common.{refl}
use Rattle.client_code.proofs.FileReadLaws.{word_at}
use Rattle.client_code.proofs.header.word.Goals as goal

pub returns : goal.returns
returns c =
    let found = c.in_ok-bytes.ensures.lookup.0 in
    (found.1, word_at c.args.file.now c.in_ok-bytes.bytes.now c.args.at c.read_u32.result found.1 (found.2 ∙ slice_from c.args.file.now c.args.file.now c.args.at 4 refl) c.read_u32.ensures)
