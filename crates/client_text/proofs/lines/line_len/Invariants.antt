use Rattle.std.proofs.Common.{◌≡◌, ◌+◌, drop}
use Rattle.client_text.specs.Lines.{line_length}
use Rattle.client_text.proofs.lines.line_len.Given as goal

-- the length is i and the length of the rest
abbrev pub invariant-loop-i : goal.invariant-loop-i
invariant-loop-i l = line_length l.fn.text ≡ l.i + line_length (drop l.i l.fn.text)
