use Rattle.std.proofs.Common.{arith, rules}
use Rattle.seg_ptr.proofs.Places.{write_inside, write_outside}
use Rattle.seg_ptr.proofs.window.Window.copy_in.Goals as goal

pub returns-then-holds : goal.returns-then-holds
returns-then-holds g c =
    let s = c.self.inside in
    write_inside s.region c.copy_in.new.self s.base s.len c.args.at c.args.bytes.now c.args.self.now c.copy_in.ensures.bytes c.copy_in.ensures.home c.self.view_is (omega arith) (search rules)

pub returns-else-holds : goal.returns-else-holds
returns-else-holds g c = write_outside c.args.at c.args.bytes.now c.args.self.now (search rules)
