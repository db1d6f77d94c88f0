use Rattle.std.proofs.Common.{w64}
use Rattle.std.proofs.lemmas.Int.{to_z-of_z}
use Rattle.seg_image.proofs.image.Image.remove.Goals as goal

pub returns-in-Seq-clause-removes : goal.returns-in-Seq-clause-removes
returns-in-Seq-clause-removes g c = rw (c.in-Seq.is, ← c.heap_mut.ensures.value, ← to_z-of_z w64 c.args.key c.ranges.key) c.remove.ensures.removes

pub returns-in-Best-clause-removes : goal.returns-in-Best-clause-removes
returns-in-Best-clause-removes g c = rw (c.in-Best.is, ← c.heap_mut-in-Best.ensures.value, ← to_z-of_z w64 c.args.key c.ranges.key) c.remove-in-Best.ensures.removes
