use Rattle.std.proofs.Common.{◌≡◌, ◌++◌, take}
use Rattle.std.specs.Prelude.{All}
use Rattle.client_spec.specs.Grammar.{IsNameByte}
use Rattle.client_text.proofs.printer.print_plain.Given as goal

-- the bytes so far are printed
abbrev pub invariant-loop-byte : goal.invariant-loop-byte
invariant-loop-byte g l = All IsNameByte l.name → l.text.bytes.items ≡ l.fn.text.bytes.items ++ take l.byte-index l.name
