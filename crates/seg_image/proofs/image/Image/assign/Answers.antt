use Rattle.seg_image.proofs.image.Image.assign.Goals as goal

pub returns-in-Seq-clause-text : goal.returns-in-Seq-clause-text
returns-in-Seq-clause-text g c = rw (c.in-Seq.is, ← c.heap_mut.ensures.value) c.assign.ensures.text

pub returns-in-Best-clause-text : goal.returns-in-Best-clause-text
returns-in-Best-clause-text g c = rw (c.in-Best.is, ← c.heap_mut-in-Best.ensures.value) c.assign-in-Best.ensures.text
