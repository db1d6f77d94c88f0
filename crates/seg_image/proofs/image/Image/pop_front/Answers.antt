use Rattle.seg_image.proofs.image.Image.pop_front.Goals as goal

pub returns-in-Seq-clause-empty : goal.returns-in-Seq-clause-empty
returns-in-Seq-clause-empty g c = rw (c.in-Seq.is, ← c.heap_mut.ensures.value) (λ U blocks h. let d = c.pop_front.ensures.empty 0 U blocks h in record { result_is = d.0; same = d.1 })

pub returns-in-Seq-clause-popped : goal.returns-in-Seq-clause-popped
returns-in-Seq-clause-popped g c = rw (c.in-Seq.is, ← c.heap_mut.ensures.value) c.pop_front.ensures.popped

pub returns-in-Best-clause-empty : goal.returns-in-Best-clause-empty
returns-in-Best-clause-empty g c = rw (c.in-Best.is, ← c.heap_mut-in-Best.ensures.value) (λ U blocks h. let d = c.pop_front-in-Best.ensures.empty 1 U blocks h in record { result_is = d.0; same = d.1 })

pub returns-in-Best-clause-popped : goal.returns-in-Best-clause-popped
returns-in-Best-clause-popped g c = rw (c.in-Best.is, ← c.heap_mut-in-Best.ensures.value) c.pop_front-in-Best.ensures.popped
