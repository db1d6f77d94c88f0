use Rattle.seg_image.proofs.image.Image.shrink.Goals as goal

pub returns-in-Seq-clause-shrinks : goal.returns-in-Seq-clause-shrinks
returns-in-Seq-clause-shrinks g c = rw c.in-Seq.is c.shrink_to_fit.ensures.shrinks

pub returns-in-Best-clause-shrinks : goal.returns-in-Best-clause-shrinks
returns-in-Best-clause-shrinks g c = rw c.in-Best.is c.shrink_to_fit-in-Best.ensures.shrinks

pub returns-in-Seq-clause-home : goal.returns-in-Seq-clause-home
returns-in-Seq-clause-home g c = rw c.in-Seq.is c.shrink_to_fit.ensures.home

pub returns-in-Best-clause-home : goal.returns-in-Best-clause-home
returns-in-Best-clause-home g c = rw c.in-Best.is c.shrink_to_fit-in-Best.ensures.home
