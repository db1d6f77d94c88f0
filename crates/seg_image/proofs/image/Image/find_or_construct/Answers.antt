use Rattle.seg_image.proofs.image.Image.find_or_construct.Goals as goal

pub returns-in-Seq-clause-makes : goal.returns-in-Seq-clause-makes
returns-in-Seq-clause-makes g c = rw (c.in-Seq.is, c.placed.ensures.position) (λ picture held none. c.find_or_construct.ensures.makes picture held (rw c.in-Seq.is at c.in_ok-known.ensures.known) none)

pub returns-in-Seq-clause-no_room : goal.returns-in-Seq-clause-no_room
returns-in-Seq-clause-no_room g c = rw (c.in-Seq.is, c.placed.ensures.position) (λ picture held full. c.find_or_construct.ensures.no_room picture held (rw c.in-Seq.is at c.in_ok-known.ensures.known) full)

pub returns-in-Best-clause-makes : goal.returns-in-Best-clause-makes
returns-in-Best-clause-makes g c = rw (c.in-Best.is, c.placed-in-Best.ensures.position) (λ picture held none. c.find_or_construct-in-Best.ensures.makes picture held (rw c.in-Best.is at c.in_ok-known.ensures.known) none)

pub returns-in-Best-clause-no_room : goal.returns-in-Best-clause-no_room
returns-in-Best-clause-no_room g c = rw (c.in-Best.is, c.placed-in-Best.ensures.position) (λ picture held full. c.find_or_construct-in-Best.ensures.no_room picture held (rw c.in-Best.is at c.in_ok-known.ensures.known) full)
