use Rattle.std.proofs.Common.{◌+◌, ◌*◌, ap, ◌∙◌}
use Rattle.seg_spec.specs.Bytes.{set_word}
use Rattle.seg_seqfit.proofs.free_list.set_free_size.Goals as goal

pub returns-clause-bytes : goal.returns-clause-bytes
returns-clause-bytes c = c.put_word.ensures.bytes ∙ ap (λ b. set_word b (c.args.gap.at + 16 * c.args.gap.units + 4) c.args.gap.units) c.set_word.ensures.bytes
