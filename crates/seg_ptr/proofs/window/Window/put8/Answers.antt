use Rattle.std.proofs.Common.{arith, rules}
use Rattle.seg_ptr.proofs.Places.{set_inside, set_outside}
use Rattle.seg_ptr.proofs.window.Window.put8.Goals as goal

pub returns-then-holds : goal.returns-then-holds
returns-then-holds g c =
    let s = c.self.inside in
    set_inside 1 s.region c.put8.new.self s.base s.len c.args.at c.args.value c.args.self.now c.put8.ensures.bytes c.put8.ensures.home c.self.view_is (omega arith) (search rules)

pub returns-else-holds : goal.returns-else-holds
returns-else-holds g c = set_outside 1 c.args.at c.args.value c.args.self.now (search rules)
