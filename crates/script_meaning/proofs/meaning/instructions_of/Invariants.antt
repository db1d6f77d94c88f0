use Rattle.std.proofs.Common.{◌≡◌, take, map}
use Rattle.client_spec.specs.Grammar.{listing}
use Rattle.client_code.specs.Views.{instruction_of}
use Rattle.client_code.specs.Clients.{OfTree}
use Rattle.script_meaning.proofs.meaning.instructions_of.Given as goal

-- the instructions so far are the first of the tree's
abbrev pub invariant-loop-at : goal.invariant-loop-at
invariant-loop-at l = OfTree l.client (λ tree. map instruction_of l.instructions.items ≡ take l.at (listing tree.code))
