use Rattle.std.proofs.Common.{◌≡◌, drop}
use Rattle.client_spec.specs.Pieces.{meant}
use Rattle.client_text.proofs.WrittenFiles.{Written}
use Rattle.client_text.proofs.writer.write.Given as goal

-- the lines so far are written
abbrev pub invariant-loop : goal.invariant-loop
invariant-loop g l = record {
  rest : meant l.lines.text.now ≡ drop l.counter (meant l.fn.text);
  written : Written (meant l.fn.text) l.initial.file.items l.file.items l.counter;
}
