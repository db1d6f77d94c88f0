use Rattle.std.proofs.Common.{length}
use Rattle.client_text.proofs.assembler.line_at.Given as goal

abbrev pub decreases-loop-line : goal.decreases-loop-line
decreases-loop-line l = length l.lines.text.now
