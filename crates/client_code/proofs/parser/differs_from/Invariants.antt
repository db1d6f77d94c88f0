use Rattle.std.proofs.Common.{◌≡◌, ℕ, ◌≤◌, ◌+◌, ◌*◌, List, length}
use Rattle.std.specs.Prelude.{All}
use Rattle.client_spec.specs.Syntax.{Constant}
use Rattle.client_spec.specs.Grammar.{Differ}
use Rattle.client_code.specs.Views.{constant_of}
use Rattle.client_code.specs.Files.{AreConstants}
use Rattle.client_code.proofs.Constants.{Walk}
use Rattle.client_code.proofs.parser.differs_from.Given as goal

-- the constant differs from those that were read a second time so far
abbrev pub invariant-loop : goal.invariant-loop
invariant-loop l = record {
  near : l.next ≤ l.at + 257 * l.counter;
  walks : (cs : List Constant) (following : ℕ) → length cs ≡ l.count → AreConstants l.file l.at cs following
      → (front : List Constant) × Walk l.file cs following l.next front × (length front ≡ l.counter) × All (λ other. Differ other (constant_of l.constant)) front;
}
