use Rattle.seg_image.proofs.image.Image.destroy.Goals as goal

pub returns-in-Seq-clause-loses : goal.returns-in-Seq-clause-loses
returns-in-Seq-clause-loses g c = rw c.in-Seq.is c.destroy.ensures.loses

pub returns-in-Best-clause-loses : goal.returns-in-Best-clause-loses
returns-in-Best-clause-loses g c = rw c.in-Best.is c.destroy-in-Best.ensures.loses
