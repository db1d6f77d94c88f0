use Rattle.seg_image.proofs.image.Image.zero_free_memory.Goals as goal

pub returns-in-Seq-clause-zeroes : goal.returns-in-Seq-clause-zeroes
returns-in-Seq-clause-zeroes g c = rw c.in-Seq.is c.zero_free_memory.ensures.zeroes

pub returns-in-Best-clause-zeroes : goal.returns-in-Best-clause-zeroes
returns-in-Best-clause-zeroes g c = rw c.in-Best.is c.zero_free_memory-in-Best.ensures.zeroes
