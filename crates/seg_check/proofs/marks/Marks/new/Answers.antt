use Rattle.std.proofs.Common.{ap, ◌∙◌, false}
use Rattle.seg_check.specs.Bits.{has}
use Rattle.seg_check.proofs.Blocks.BitLaws.{all_inside, no_bit, spelled_same}
use Rattle.seg_check.proofs.marks.Marks.new.Goals as goal

pub returns : goal.returns
returns g c =
    let live = c.in_ok-live.ensures in
    let allocated = c.in_ok-allocated.ensures in
    let other = c.in_ok-other.ensures in
    all_inside _ 0 c.args.units (λ v. spelled_same _ _ _ false false false
    (ap (λ b. has b.words v) live ∙ no_bit v) (ap (λ b. has b.words v) allocated ∙ no_bit v) (ap (λ b. has b.words v) other ∙ no_bit v))
