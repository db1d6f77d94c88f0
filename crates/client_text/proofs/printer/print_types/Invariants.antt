use Rattle.std.proofs.Common.{◌≡◌, ◌++◌, map, take}
use Rattle.std.specs.Prelude.{flat_map}
use Rattle.client_spec.specs.Text.{type_item}
use Rattle.client_text.specs.Texts.{ended_line}
use Rattle.client_text.proofs.printer.print_types.Given as goal

-- the types so far are printed
abbrev pub invariant-loop-type_id : goal.invariant-loop-type_id
invariant-loop-type_id g l = l.text.bytes.items ≡ l.fn.text.bytes.items ++ flat_map ended_line (map type_item (take l.type_id l.types))
