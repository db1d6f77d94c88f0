use Rattle.std.proofs.Common.{◌≡◌, ◌++◌, map, take}
use Rattle.client_spec.specs.Text.{type_word}
use Rattle.client_text.specs.Texts.{with_spaces}
use Rattle.client_text.proofs.printer.print_fields.Given as goal

-- the fields so far are printed
abbrev pub invariant-loop-field : goal.invariant-loop-field
invariant-loop-field g l = l.text.bytes.items ≡ l.fn.text.bytes.items ++ with_spaces (map type_word (take l.field-index l.fields))
