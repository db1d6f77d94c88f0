use Rattle.seg_image.proofs.GrowthLaws.{moved_grows}
use Rattle.seg_image.proofs.size.grow_memory.Goals as goal

pub returns-clause-grows : goal.returns-clause-grows
returns-clause-grows g c = λ picture held.
    let same = c.in_ok-replace_with.ensures in
    moved_grows c.args.extra c.grow.result c.args.segment.now c.replace_with.new.dest c.grow.new.segment same.0 same.1.0 held c.grow.ensures.grows
