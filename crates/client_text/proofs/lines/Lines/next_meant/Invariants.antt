use Rattle.std.proofs.Common.{◌≡◌, ◌≤◌, length}
use Rattle.client_spec.specs.Pieces.{meant}
use Rattle.client_text.proofs.lines.Lines.next_meant.Given as goal

-- the lines so far are empty or comments
abbrev pub invariant-loop-line : goal.invariant-loop-line
invariant-loop-line l = record {
  same : meant l.fn.self.text.now ≡ meant l.self.text.now;
  shorter : length l.self.text.now ≤ length l.fn.self.text.now;
}

abbrev pub decreases-loop-line : goal.decreases-loop-line
decreases-loop-line l = length l.self.text.now
