use Rattle.std.proofs.Common.{◌≡◌, ◌++◌, take}
use Rattle.client_spec.specs.Text.{text_spelling}
use Rattle.client_text.proofs.printer.print_escaped.Given as goal

-- the bytes so far are printed
abbrev pub invariant-loop-byte : goal.invariant-loop-byte
invariant-loop-byte g l = l.text.bytes.items ≡ l.fn.text.bytes.items ++ text_spelling (take l.byte-index l.bytes)
