use Rattle.std.proofs.Common.{arith, rules}
use Rattle.seg_ptr.proofs.Places.{set_inside, set_outside}
use Rattle.seg_ptr.proofs.window.Window.put64.Goals as goal

pub returns-then-holds : goal.returns-then-holds
returns-then-holds g c =
    let s = c.self.inside in
    set_inside 8 s.region c.put64.new.self s.base s.len c.args.at c.args.value c.args.self.now c.put64.ensures.bytes c.put64.ensures.home c.self.view_is (omega arith) (search rules)

pub returns-else-holds : goal.returns-else-holds
returns-else-holds g c = set_outside 8 c.args.at c.args.value c.args.self.now (search rules)
