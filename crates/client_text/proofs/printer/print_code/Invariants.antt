use Rattle.std.proofs.Common.{◌≡◌, ◌++◌, map, take}
use Rattle.std.specs.Prelude.{flat_map}
use Rattle.client_spec.specs.Syntax.{Client}
use Rattle.client_spec.specs.Grammar.{listing, SpellsClient}
use Rattle.client_spec.specs.Text.{instruction_item}
use Rattle.client_code.specs.Clients.{bytes_of}
use Rattle.client_text.specs.Texts.{ended_line}
use Rattle.client_text.proofs.printer.print_code.Given as goal

-- the instructions so far are printed
abbrev pub invariant-loop-i : goal.invariant-loop-i
invariant-loop-i g l = (tree : Client) → SpellsClient (bytes_of l.client) tree → l.text.bytes.items ≡ l.fn.text.bytes.items ++ flat_map ended_line (map instruction_item (take l.i (listing tree.code)))
