-- The texts so far are a front of the bytes, and the code so far writes it.
use Rattle.std.proofs.Common.{◌≡◌, ℕ, List, ◌++◌, length}
use Rattle.script_meaning.specs.Meaning.{Writes}
use Rattle.script_meaning.specs.Following.{Held}
use Rattle.script_meaning.specs.Comparing.{holding, Follows}
use Rattle.script_meaning.proofs.comparison.Comparison.texts.Given as goal

abbrev pub invariant-loop-rest : goal.invariant-loop-rest
invariant-loop-rest l = record {
  front : List ℕ;
  split : l.bytes ≡ front ++ l.rest;
  follows : (held : Held) → Follows l.self l.at l.now (holding held) (Writes (λ m. front)) (holding held);
}

abbrev pub decreases-loop-rest : goal.decreases-loop-rest
decreases-loop-rest l = length l.rest
