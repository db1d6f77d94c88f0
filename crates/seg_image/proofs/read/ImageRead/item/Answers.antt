use Rattle.seg_image.proofs.read.ImageRead.item.Goals as goal

pub returns-clause-vector : goal.returns-clause-vector
returns-clause-vector g c = rw c.placed.ensures.position c.at.ensures.vector

pub returns-clause-list : goal.returns-clause-list
returns-clause-list g c = rw c.placed.ensures.position c.at.ensures.list
