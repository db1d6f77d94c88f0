use Rattle.std.proofs.Common.{arith, rules}
use Rattle.seg_ptr.proofs.Places.{read_half, read_outside}
use Rattle.seg_ptr.proofs.window.Window.get16.Goals as goal

pub returns-then-holds : goal.returns-then-holds
returns-then-holds g c =
    let s = c.self.inside in
    let half_is = read_half s.region s.base s.len c.args.at c.args.self.now c.self.view_is (omega arith) (search rules) in
    omega (arith, c.from_le_bytes.ensures, c.get8.ensures, c.get8-then-holds.ensures)

pub returns-else-holds : goal.returns-else-holds
returns-else-holds g c = read_outside 2 c.args.at c.args.self.now (search rules)
