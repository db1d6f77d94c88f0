use Rattle.std.proofs.Common.{◌+◌, ◌<◌, ◌≤◌, arith, rules, length, replicate}
use Rattle.std.proofs.lemmas.List.{length-replicate}
use Rattle.seg_ptr.proofs.Places.{write_inside, write_outside}
use Rattle.seg_ptr.proofs.window.Window.fill.Goals as goal

pub returns-then-holds : goal.returns-then-holds
returns-then-holds g c =
    let s = c.self.inside in
    let inside : c.args.at + c.args.n ≤ length c.args.self.now.bytes = search rules in
    let size = length-replicate c.args.n c.args.byte in
    write_inside s.region c.fill.new.self s.base s.len c.args.at (replicate c.args.n c.args.byte) c.args.self.now c.fill.ensures.bytes c.fill.ensures.home c.self.view_is (omega arith) (omega arith)

pub returns-else-holds : goal.returns-else-holds
returns-else-holds g c =
    let past : length c.args.self.now.bytes < c.args.at + c.args.n = search rules in
    let size = length-replicate c.args.n c.args.byte in
    write_outside c.args.at (replicate c.args.n c.args.byte) c.args.self.now (omega arith)
