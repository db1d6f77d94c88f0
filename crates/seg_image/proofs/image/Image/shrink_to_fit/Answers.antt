use Rattle.seg_image.proofs.image.Image.shrink_to_fit.Goals as goal

pub returns-in-Seq-clause-shrinks : goal.returns-in-Seq-clause-shrinks
returns-in-Seq-clause-shrinks g c = rw (c.in-Seq.is, ← c.heap_mut.ensures.value) c.shrink_to_fit.ensures.shrinks

pub returns-in-Best-clause-shrinks : goal.returns-in-Best-clause-shrinks
returns-in-Best-clause-shrinks g c = rw (c.in-Best.is, ← c.heap_mut-in-Best.ensures.value) c.shrink_to_fit-in-Best.ensures.shrinks
