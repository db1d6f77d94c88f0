use Rattle.client_text.proofs.CanonicalLineLaws.{constant_more}
use Rattle.client_text.proofs.printer.print_constants.Goals as goal

pub loop-constant-preserved : goal.loop-constant-preserved
loop-constant-preserved g c all =
    constant_more c.args.constants.now c.loop-constant.constant-index _ c.args.text.now.bytes.items c.loop-constant.text.bytes.items
    c.print_constant.new.text.bytes.items c.loop-constant-test.true all (c.loop-constant.invariant all) c.in_ok-print_constant.ensures
