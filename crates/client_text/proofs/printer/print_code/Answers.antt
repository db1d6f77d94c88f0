use Rattle.std.proofs.Common.{arith}
use Rattle.client_spec.specs.Grammar.{listing}
use Rattle.client_spec.specs.Text.{instruction_item}
use Rattle.client_text.proofs.CanonicalLineLaws.{get_there, line_more}
use Rattle.client_text.proofs.printer.print_code.Goals as goal

pub loop-i-preserved : goal.loop-i-preserved
loop-i-preserved g c tree spells =
    let list = listing tree.code in
    let n = c.instruction_count-i-end.ensures.count tree spells in
    let t = c.loop-i-test.true in
    let instruction = get_there list c.loop-i.i (omega arith) in
    line_more instruction_item list c.loop-i.i instruction.0 c.args.text.now.bytes.items c.loop-i.text.bytes.items c.print_at.new.text.bytes.items
    (omega arith) instruction.2 (c.loop-i.invariant tree spells) (c.in_ok-print_at.ensures tree instruction.0 spells instruction.1)
