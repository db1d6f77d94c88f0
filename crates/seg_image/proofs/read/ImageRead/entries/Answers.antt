use Rattle.seg_image.proofs.read.ImageRead.entries.Goals as goal

pub returns-clause-first : goal.returns-clause-first
returns-clause-first g c = c.in_ok-keys.ensures.first
