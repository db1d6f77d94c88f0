use Rattle.seg_image.proofs.image.Image.destroy_anonymous.Goals as goal

pub returns-in-Seq-clause-loses : goal.returns-in-Seq-clause-loses
returns-in-Seq-clause-loses g c = rw c.in-Seq.is c.destroy_anonymous.ensures.loses

pub returns-in-Best-clause-loses : goal.returns-in-Best-clause-loses
returns-in-Best-clause-loses g c = rw c.in-Best.is c.destroy_anonymous-in-Best.ensures.loses
