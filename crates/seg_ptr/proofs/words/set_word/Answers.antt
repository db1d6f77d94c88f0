use Rattle.std.proofs.Common.{◌+◌, ◌≤◌, length, arith, sym, ◌∙◌}
use Rattle.std.proofs.lemmas.Grind.{common_steps}
use Rattle.seg_raw.proofs.Numbers.{put_from, put-spelling, spelling-word}
use Rattle.seg_ptr.proofs.words.set_word.Goals as goal

pub returns-clause-bytes : goal.returns-clause-bytes
returns-clause-bytes c =
    let long : c.args.at + length c.to_le_bytes.result ≤ length c.args.bytes.now = grind (arith, common_steps) in
    put_from _ c.args.bytes.now c.to_le_bytes.result c.args.at long (grind (arith, common_steps))
    ∙ put-spelling 4 c.args.bytes.now c.to_le_bytes.result c.args.at c.args.value (spelling-word c.args.value ∙ sym c.to_le_bytes.ensures)
