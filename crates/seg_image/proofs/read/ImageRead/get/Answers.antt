use Rattle.std.proofs.Common.{w64}
use Rattle.std.proofs.lemmas.Int.{to_z-of_z}
use Rattle.seg_image.proofs.read.ImageRead.get.Goals as goal

pub returns-clause-finds : goal.returns-clause-finds
returns-clause-finds g c = rw (c.placed.ensures.position, ← to_z-of_z w64 c.args.key c.ranges.key) c.get.ensures.finds
