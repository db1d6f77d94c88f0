use Rattle.std.proofs.Common.{w64}
use Rattle.std.proofs.lemmas.Int.{to_z-of_z}
use Rattle.seg_image.proofs.image.Image.put.Goals as goal

pub returns-in-Seq-clause-puts : goal.returns-in-Seq-clause-puts
returns-in-Seq-clause-puts g c = rw (c.in-Seq.is, ← c.heap_mut.ensures.value, c.placed.ensures.position, ← to_z-of_z w64 c.args.key c.ranges.key) c.put.ensures.puts

pub returns-in-Seq-clause-keeps : goal.returns-in-Seq-clause-keeps
returns-in-Seq-clause-keeps g c = rw (c.in-Seq.is, ← c.heap_mut.ensures.value) c.put.ensures.keeps

pub returns-in-Best-clause-puts : goal.returns-in-Best-clause-puts
returns-in-Best-clause-puts g c = rw (c.in-Best.is, ← c.heap_mut-in-Best.ensures.value, c.placed-in-Best.ensures.position, ← to_z-of_z w64 c.args.key c.ranges.key) c.put-in-Best.ensures.puts

pub returns-in-Best-clause-keeps : goal.returns-in-Best-clause-keeps
returns-in-Best-clause-keeps g c = rw (c.in-Best.is, ← c.heap_mut-in-Best.ensures.value) c.put-in-Best.ensures.keeps
