use Rattle.seg_image.proofs.image.Image.construct.Goals as goal

pub returns-in-Seq-clause-tells : goal.returns-in-Seq-clause-tells
returns-in-Seq-clause-tells g c = rw (c.in-Seq.is, c.placed.ensures.position) (λ picture held below. c.construct.ensures.tells picture held)

pub returns-in-Seq-clause-makes : goal.returns-in-Seq-clause-makes
returns-in-Seq-clause-makes g c = rw (c.in-Seq.is, c.placed.ensures.position) (λ picture held. c.construct.ensures.makes picture held (rw c.in-Seq.is at c.in_ok-known.ensures.known))

pub returns-in-Seq-clause-no_room : goal.returns-in-Seq-clause-no_room
returns-in-Seq-clause-no_room g c = rw (c.in-Seq.is, c.placed.ensures.position) (λ picture held full. c.construct.ensures.no_room picture held (rw c.in-Seq.is at c.in_ok-known.ensures.known) full)

pub returns-in-Best-clause-tells : goal.returns-in-Best-clause-tells
returns-in-Best-clause-tells g c = rw (c.in-Best.is, c.placed-in-Best.ensures.position) (λ picture held below. c.construct-in-Best.ensures.tells picture held)

pub returns-in-Best-clause-makes : goal.returns-in-Best-clause-makes
returns-in-Best-clause-makes g c = rw (c.in-Best.is, c.placed-in-Best.ensures.position) (λ picture held. c.construct-in-Best.ensures.makes picture held (rw c.in-Best.is at c.in_ok-known.ensures.known))

pub returns-in-Best-clause-no_room : goal.returns-in-Best-clause-no_room
returns-in-Best-clause-no_room g c = rw (c.in-Best.is, c.placed-in-Best.ensures.position) (λ picture held full. c.construct-in-Best.ensures.no_room picture held (rw c.in-Best.is at c.in_ok-known.ensures.known) full)
