-- The numbers that a run gives to frozen objects.
use Rattle.std.proofs.Common.{ℕ, ◌+◌, ◌≤◌, inl, arith}
use Rattle.seg_spec.specs.Bytes.{word}
use Rattle.seg_spec.specs.Header.{next_word}
use Rattle.seg_spec.proofs.Values.PlaceFrameLaws.{word-same}
use Rattle.client_spec.specs.Syntax.{Client}
use Rattle.client_spec.specs.OnImages.{Situation, Given, Left, RunsClient}
use Rattle.client_spec.proofs.Runs.RunInvariantLaws.{Steps, run_keeps}

-- n is at least the first number, and at most one more for each step
record Taken (first steps n : ℕ) : Type 0 where
  pub none_returned : first ≤ n
  pub one_each : n ≤ first + steps

pub numbers_taken : (client : Client) (given : Given) (left : Left) → RunsClient client given left → (word given.image next_word ≤ word left.image next_word) × (word left.image next_word ≤ word given.image next_word + left.steps)
numbers_taken client given left runs =
    let first = word given.image next_word in
    let taken = λ (x : Situation). Taken first x.steps (word x.image next_word) in
    let step : (x y : Situation) → Steps given.moves x y → taken x → taken y = λ x y s before. record {
      none_returned = (let low = before.none_returned in let more = s.none_returned in omega (arith, low, more));
      one_each = (let high = before.one_each in let one = s.one_taken in let steps = s.moved.steps in omega (arith, high, one, steps));
    } in
    let begins = word-same given.image runs.first.image next_word (runs.is_first.types_alone.others next_word 4 (inl (omega arith))) in
    let keeps = run_keeps client.constants given.others given.moves taken step client.code in
    let none = runs.is_first.steps in
    let end = keeps.each runs.first runs.last left.steps left.ending runs.run (record { none_returned = omega (arith, begins); one_each = omega (arith, begins) }) in
    let steps = end.1 in
    let same = runs.is_left.next_kept in (
      (let low = end.0.none_returned in omega (arith, low, same)),
      (let high = end.0.one_each in omega (arith, high, same, steps, none)),
    )
