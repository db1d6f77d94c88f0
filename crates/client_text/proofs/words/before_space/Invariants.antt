use Rattle.std.proofs.Common.{◌≡◌, ◌+◌, drop}
use Rattle.client_text.specs.Texts.{before_space}
use Rattle.client_text.proofs.words.before_space.Given as goal

-- the length is i and the length of the rest
abbrev pub invariant-loop-i : goal.invariant-loop-i
invariant-loop-i l = before_space l.fn.is_space l.fn.line ≡ l.i + before_space l.fn.is_space (drop l.i l.fn.line)
