use Rattle.std.proofs.Common.{◌≤◌, arith}
use Rattle.seg_spec.specs.Block.{block_of}
use Rattle.seg_spec.specs.Heap.{live}
use Rattle.seg_spec.specs.Sound.{times, positions}
use Rattle.seg_spec.proofs.Heap.LiveBlockLaws.{times-same}
use Rattle.seg_value.proofs.Turns.{destroyed, is_live, number_destroys}
use Rattle.seg_value.proofs.heap.Heap.destroy.Goals as goal

pub returns-clause-destroyed : goal.returns-clause-destroyed
returns-clause-destroyed g c = λ U v inside valid heap loose theirs kept now final b.
    destroyed g.F.Fit.allocator c.args.self.now.window.bytes c.push.new.heap.window.bytes c.destroy.new.heap.window.bytes c.args.self.now.types c.push.new.heap.types c.push.ensures.types valid
    c.new-pending.result.first c.push.new.self.first c.new-pending.ensures c.args.object U v inside heap loose theirs kept now final b c.push.ensures.added c.destroy.ensures.destroyed

pub returns-then-is_number-clause-destroyed : goal.returns-then-is_number-clause-destroyed
returns-then-is_number-clause-destroyed g c = λ U v inside valid heap loose theirs kept now final b.
    let old = c.args.self.now.window.bytes in
    let block = block_of c.args.object in
    let some : 1 ≤ times block (positions (live old)) = let o = loose.owned block in let one = times-same block inside in omega arith in
    let number = c.is_number.ensures U v inside c.if-is_number.true loose in
    number_destroys g.F.Fit.allocator old c.free_block.new.self.window.bytes c.args.self.now.types valid block v inside number.0 number.1 heap theirs kept now final b
    (c.free_block.ensures.gives heap (is_live old block some))
