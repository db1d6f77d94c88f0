use Rattle.std.proofs.Common.{◌≡◌, ◌≤◌, ◌+◌, ◌*◌, length}
use Rattle.client_spec.specs.Syntax.{Client}
use Rattle.client_spec.specs.Grammar.{SpellsClient}
use Rattle.client_code.specs.Views.{constants_of}
use Rattle.client_code.specs.Files.{code_place}
use Rattle.client_code.proofs.Constants.{Walk}
use Rattle.client_code.proofs.client.Client.constants.Given as goal

-- the constants so far are the first of the tree's
abbrev pub invariant-loop : goal.invariant-loop
invariant-loop l = record {
  near : l.next ≤ 532 + 257 * l.counter;
  all : length l.constants.items ≡ l.counter;
  walks : (tree : Client) → SpellsClient l.self.file.now tree → Walk l.self.file.now tree.constants (code_place tree) l.next (constants_of l.constants.items);
}
