use Rattle.std.proofs.Common.{◌≡◌, ◌++◌, map, take}
use Rattle.std.specs.Prelude.{flat_map, All}
use Rattle.client_spec.specs.Grammar.{IsConstant}
use Rattle.client_spec.specs.Text.{constant_item}
use Rattle.client_code.specs.Views.{constants_of}
use Rattle.client_text.specs.Texts.{ended_line}
use Rattle.client_text.proofs.printer.print_constants.Given as goal

-- the constants so far are printed
abbrev pub invariant-loop-constant : goal.invariant-loop-constant
invariant-loop-constant g l = All IsConstant (constants_of l.constants) → l.text.bytes.items ≡ l.fn.text.bytes.items ++ flat_map ended_line (map constant_item (take l.constant-index (constants_of l.constants)))
