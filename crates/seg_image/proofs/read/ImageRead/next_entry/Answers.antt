use Rattle.std.proofs.Common.{w64}
use Rattle.std.proofs.lemmas.Int.{to_z-of_z}
use Rattle.seg_image.proofs.read.ImageRead.next_entry.Goals as goal

pub returns-clause-next : goal.returns-clause-next
returns-clause-next g c = rw (c.placed_entry.ensures.entry, ← to_z-of_z w64 c.args.after c.ranges.after) c.next_entry.ensures.next
