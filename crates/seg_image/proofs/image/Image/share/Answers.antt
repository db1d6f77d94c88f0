use Rattle.seg_image.proofs.image.Image.share.Goals as goal

pub returns-in-Seq-clause-shares : goal.returns-in-Seq-clause-shares
returns-in-Seq-clause-shares g c = rw (c.in-Seq.is, ← c.heap_mut.ensures.value)
    (λ T next v w blocks others theirs kept now forms. c.share.ensures.shared T next v w blocks others theirs kept now forms.0 forms.1)

pub returns-in-Best-clause-shares : goal.returns-in-Best-clause-shares
returns-in-Best-clause-shares g c = rw (c.in-Best.is, ← c.heap_mut-in-Best.ensures.value)
    (λ T next v w blocks others theirs kept now forms. c.share-in-Best.ensures.shared T next v w blocks others theirs kept now forms.0 forms.1)
