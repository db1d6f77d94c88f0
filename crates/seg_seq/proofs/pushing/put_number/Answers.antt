use Rattle.std.proofs.Common.{◌+◌, ◌<◌, ◌≤◌, length, sym, ap, ◌∙◌, arith}
use Rattle.std.proofs.lemmas.Grind.{common_steps}
use Rattle.seg_spec.specs.Bytes.{set_long}
use Rattle.seg_spec.proofs.BytesLaws.{set_number_past}
use Rattle.seg_raw.proofs.Numbers.{put_from, put-spelling, spelling-long}
use Rattle.seg_seq.proofs.pushing.put_number.Goals as goal

pub returns-then-saturating_add-bytes-clause-bytes : goal.returns-then-saturating_add-bytes-clause-bytes
returns-then-saturating_add-bytes-clause-bytes c =
    let mid = c.put_word.new.bytes in
    let long : c.args.at + length c.to_le_bytes.result ≤ length mid = grind (arith, common_steps) in
    put_from _ mid c.to_le_bytes.result c.args.at long (grind (arith, common_steps))
    ∙ put-spelling 8 mid c.to_le_bytes.result c.args.at c.args.number (spelling-long c.args.number ∙ sym c.to_le_bytes.ensures)
    ∙ ap (λ bytes. set_long bytes c.args.at c.args.number) c.put_word.ensures.bytes

pub returns-else-saturating_add-bytes-clause-bytes : goal.returns-else-saturating_add-bytes-clause-bytes
returns-else-saturating_add-bytes-clause-bytes c =
    let past : length c.put_word.new.bytes < c.args.at + 8 = omega (arith, c.if-saturating_add-bytes.false) in
    sym (set_number_past 8 c.put_word.new.bytes c.args.at c.args.number past) ∙ ap (λ bytes. set_long bytes c.args.at c.args.number) c.put_word.ensures.bytes
