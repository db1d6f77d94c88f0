use Rattle.std.proofs.Common.{length}
use Rattle.client_text.proofs.EscapeLaws.{Reads}
use Rattle.client_text.proofs.escape.unescaped.Given as goal

abbrev pub decreases-loop-rest : goal.decreases-loop-rest
decreases-loop-rest l = length l.rest

-- the bytes so far are the first of the text
abbrev pub invariant-loop-rest : goal.invariant-loop-rest
invariant-loop-rest l = Reads l.fn.spelling l.bytes.items l.rest
