-- Several numbers that one call appends to a vector.
--     number_values numbers     the values of numbers
--     PushesNumbers allocator old new place numbers
--         each of the numbers was appended, one after another
--     StopsPushing allocator old new place numbers stopped
--         only the first numbers were appended, and the next one was refused
use Rattle.std.specs.Prelude.{◌≡◌, ℕ, ℤ, List, [], ◌∷◌, take, slice_get, Some, Ok, Err}
use Rattle.seg_spec.specs.Reads.{Place}
use Rattle.seg_spec.specs.Value.{Values, nil, cons, Int}
use Rattle.seg_value.specs.Stored.{Stored}
use Rattle.seg_seq.specs.Sequences.{PushesNumber}
use Rattle.seg_image.specs.declared.error.StoppedAt.{StoppedAt}

abbrev pub number_values : List ℤ → Values
number_values [] = nil
number_values (number ∷ numbers) = cons (Int number) (number_values numbers)

-- Between two numbers is another state of the segment, with the same types.
abbrev pub PushesNumbers : ℕ → Stored → Stored → Place → List ℤ → Type 0
PushesNumbers allocator old new place [] = new ≡ old
PushesNumbers allocator old new place (number ∷ numbers) =
    (between : Stored) × (at : ℕ) × (between.types ≡ old.types)
    × PushesNumber allocator old between place number (Ok at)
    × PushesNumbers allocator between new place numbers

-- The numbers before the one that was refused were appended.
pub record StopsPushing (allocator : ℕ) (old new : Stored) (place : Place) (numbers : List ℤ)
    (stopped : StoppedAt) : Type 0 where
  pub next : ℤ
  pub next_is : slice_get numbers stopped.done ≡ Some next
  pub before : Stored
  pub pushes : PushesNumbers allocator old before place (take stopped.done numbers)
  pub refused : PushesNumber allocator before new place next (Err stopped.code)
