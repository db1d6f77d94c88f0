use Rattle.std.proofs.Common.{arith}
use Rattle.client_spec.specs.Text.{type_item}
use Rattle.client_text.proofs.CanonicalLineLaws.{get_there, line_more}
use Rattle.client_text.proofs.printer.print_types.Goals as goal

pub loop-type_id-preserved : goal.loop-type_id-preserved
loop-type_id-preserved g c =
    let types = c.args.types.now in
    let n = c.len-type_id-end.ensures.len in
    let t = c.loop-type_id-test.true in
    let form = get_there types c.loop-type_id.type_id (omega arith) in
    line_more type_item types c.loop-type_id.type_id form.0 c.args.text.now.bytes.items c.loop-type_id.text.bytes.items c.print_entry.new.text.bytes.items
    (omega arith) form.2 c.loop-type_id.invariant (c.in_ok-print_entry.ensures form.0 form.1)
