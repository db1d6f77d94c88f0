use Rattle.std.proofs.Common.{◌+◌, ◌≤◌, length, arith, sym, ◌∙◌}
use Rattle.std.proofs.lemmas.Grind.{common_steps}
use Rattle.seg_raw.proofs.Numbers.{put_from, put-spelling, spelling-long}
use Rattle.lezgauri_c.proofs.storing.set_long.Goals as goal

pub returns : goal.returns
returns c =
    let long : c.args.at + length c.to_le_bytes.result ≤ length c.args.bytes.now = grind (arith, common_steps) in
    put_from _ c.args.bytes.now c.to_le_bytes.result c.args.at long (grind (arith, common_steps))
    ∙ put-spelling 8 c.args.bytes.now c.to_le_bytes.result c.args.at c.args.value (spelling-long c.args.value ∙ sym c.to_le_bytes.ensures)
