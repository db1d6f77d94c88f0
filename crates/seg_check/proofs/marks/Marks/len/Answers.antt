use Rattle.std.proofs.Common.{length, sym, ap, ◌∙◌}
use Rattle.seg_check.specs.Bits.{mark_in}
use Rattle.seg_check.proofs.Blocks.BitLaws.{length_marks}
use Rattle.seg_check.proofs.marks.Marks.len.Goals as goal

pub returns : goal.returns
returns g c =
    let f = c.self.inside in
    sym (length_marks (mark_in f.live.words f.allocated.words f.other.words) 0 f.units) ∙ ap length c.self.view_is
