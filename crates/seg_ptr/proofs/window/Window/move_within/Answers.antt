use Rattle.std.proofs.Common.{arith, rules}
use Rattle.seg_ptr.proofs.Places.{moved_inside, moved_outside}
use Rattle.seg_ptr.proofs.window.Window.move_within.Goals as goal
use Rattle.seg_ptr.proofs.window.Window.move_within.Goals.{else-holds-via-then-holds+else-holds-2, else-holds-via-else-holds}

pub returns-then-holds-2-clause-moved : goal.returns-then-holds-2-clause-moved
returns-then-holds-2-clause-moved g c = λ source.
    let s = c.self.inside in
    moved_inside s.region c.move_within.new.self s.base s.len c.args.from c.args.to c.args.n c.args.self.now c.move_within.ensures.bytes c.move_within.ensures.home c.self.view_is (omega arith) source (search rules)

pub returns-else-holds-clause-moved : goal.returns-else-holds-clause-moved
returns-else-holds-clause-moved g c = λ source.
    elim c.else-holds.branch [
      | else-holds-via-then-holds+else-holds-2 w ↦ moved_outside c.args.from c.args.to c.args.n c.args.self.now source (search rules)
      | else-holds-via-else-holds w ↦ absurd (search rules)
    ]
