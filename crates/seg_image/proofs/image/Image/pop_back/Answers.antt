use Rattle.seg_image.proofs.image.Image.pop_back.Goals as goal

pub returns-in-Seq-clause-vector : goal.returns-in-Seq-clause-vector
returns-in-Seq-clause-vector g c = rw (c.in-Seq.is, ← c.heap_mut.ensures.value) c.pop_back.ensures.vector

pub returns-in-Seq-clause-list : goal.returns-in-Seq-clause-list
returns-in-Seq-clause-list g c = rw (c.in-Seq.is, ← c.heap_mut.ensures.value) c.pop_back.ensures.list

pub returns-in-Best-clause-vector : goal.returns-in-Best-clause-vector
returns-in-Best-clause-vector g c = rw (c.in-Best.is, ← c.heap_mut-in-Best.ensures.value) c.pop_back-in-Best.ensures.vector

pub returns-in-Best-clause-list : goal.returns-in-Best-clause-list
returns-in-Best-clause-list g c = rw (c.in-Best.is, ← c.heap_mut-in-Best.ensures.value) c.pop_back-in-Best.ensures.list
