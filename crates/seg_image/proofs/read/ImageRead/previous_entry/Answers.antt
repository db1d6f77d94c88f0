use Rattle.std.proofs.Common.{w64}
use Rattle.std.proofs.lemmas.Int.{to_z-of_z}
use Rattle.seg_image.proofs.read.ImageRead.previous_entry.Goals as goal

pub returns-clause-previous : goal.returns-clause-previous
returns-clause-previous g c = rw (c.placed_entry.ensures.entry, ← to_z-of_z w64 c.args.before c.ranges.before) c.previous_entry.ensures.previous
