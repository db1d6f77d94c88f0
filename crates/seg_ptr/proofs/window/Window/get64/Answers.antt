use Rattle.std.proofs.Common.{arith, rules, ◌∙◌}
use Rattle.seg_ptr.proofs.Places.{read_inside, read_outside}
use Rattle.seg_ptr.proofs.window.Window.get64.Goals as goal

pub returns-then-holds : goal.returns-then-holds
returns-then-holds g c =
    let s = c.self.inside in
    c.get64.ensures ∙ read_inside 8 s.region s.base s.len c.args.at c.args.self.now c.self.view_is (omega arith) (search rules)

pub returns-else-holds : goal.returns-else-holds
returns-else-holds g c = read_outside 8 c.args.at c.args.self.now (search rules)
