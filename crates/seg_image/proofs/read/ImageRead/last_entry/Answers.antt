use Rattle.seg_image.proofs.read.ImageRead.last_entry.Goals as goal

pub returns-clause-last : goal.returns-clause-last
returns-clause-last g c = rw c.placed_entry.ensures.entry c.last_entry.ensures.last
