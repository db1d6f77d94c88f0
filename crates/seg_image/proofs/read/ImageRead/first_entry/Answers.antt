use Rattle.seg_image.proofs.read.ImageRead.first_entry.Goals as goal

pub returns-clause-first : goal.returns-clause-first
returns-clause-first g c = rw c.placed_entry.ensures.entry c.first_entry.ensures.first
