use Rattle.std.proofs.Common.{◌≡◌, List, map}
use Rattle.client_spec.specs.Syntax.{Constant}
use Rattle.client_code.specs.Views.{constant_kind_of}
use Rattle.client_code.specs.Parts.{open_parts}
use Rattle.client_code.proofs.Instructions.{CodeTo}
use Rattle.client_code.proofs.parser.check_code.Given as goal

abbrev pub invariant-loop-i : goal.invariant-loop-i
invariant-loop-i l = (constants : List Constant) → map constant_kind_of constants ≡ l.kinds → CodeTo l.file l.at l.types constants l.i (open_parts l.nesting)
