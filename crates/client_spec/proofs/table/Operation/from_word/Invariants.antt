use Rattle.std.proofs.Common.{◌≡◌, ℕ, ◌<◌, List}
use Rattle.std.specs.Prelude.{slice_index_or}
use Rattle.std.specs.Borrow.{Bor}
use Rattle.client_spec.specs.declared.table.Row.{Row}
use Rattle.client_spec.proofs.table.Operation.from_word.Given as goal

-- no row so far has the word
abbrev pub invariant-loop-text : goal.invariant-loop-text
invariant-loop-text l = (d : Bor (List ℕ) × Row) (k : ℕ) → k < l.text-index → (slice_index_or l.text-items k d).0.now ≡ l.word → ⊥
