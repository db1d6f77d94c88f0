-- Bits and marks of a heap's units, as the checker stores them.
--     Words                      the words of the bits, and how many have room; missing words are 0
--     has words unit             the unit's bit is set; a word has the bits of 64 units
--     KeepsBit old new place i   a bit of a word is the same, unless it is the one at a place
--     KeepsBits old new unit     the bits of all units but one are the same
--     spelled live allocated other
--                                the mark that three bits spell
--     marks_from mark unit n     the marks of n units, from a unit on
--     marks_in live allocated other n
--                                the marks of the first n units
--     AreTold units live allocated other
--                                a unit with the first bit has the other bits of a mark `Live`
use Rattle.std.specs.Prelude.{◌≡◌, ◌≢◌, ◌==◌, ℕ, zero, suc, ◌/◌, ◌%◌, ◌<◌, Bool, true, false, List, [], ◌∷◌, get_or}
use Rattle.std.specs.Int.{bit_at}
use Rattle.seg_check.specs.declared.marks.Mark.{Mark}
use Rattle.seg_check.specs.declared.marks.Mark.TheVariants.{Inside, Free, Live, Claimed, Named}

pub record Words : Type 0 where
  pub words : List ℕ
  pub room : ℕ

abbrev pub has : List ℕ → ℕ → Bool
has words unit = bit_at (get_or words (unit / 64) 0) (unit % 64) == 1

abbrev pub KeepsBit : (old new place i : ℕ) → Type 0
KeepsBit old new place i = i ≢ place → bit_at new i ≡ bit_at old i

abbrev pub KeepsBits : (old new : List ℕ) → ℕ → Type 0
KeepsBits old new unit = (u : ℕ) → u ≢ unit → has new u ≡ has old u

abbrev pub spelled : Bool → Bool → Bool → Mark
spelled true allocated other = Live
spelled false true true = Named
spelled false true false = Claimed
spelled false false true = Free
spelled false false false = Inside

abbrev pub marks_from : (ℕ → Mark) → ℕ → ℕ → List Mark
marks_from mark unit zero = []
marks_from mark unit (suc n) = mark unit ∷ marks_from mark (suc unit) n

abbrev pub mark_in : (live allocated other : List ℕ) → ℕ → Mark
mark_in live allocated other unit = spelled (has live unit) (has allocated unit) (has other unit)

abbrev pub marks_in : (live allocated other : List ℕ) → ℕ → List Mark
marks_in live allocated other n = marks_from (mark_in live allocated other) 0 n

abbrev pub AreTold : (units : ℕ) (live allocated other : List ℕ) → Type 0
AreTold units live allocated other =
    (u : ℕ) → u < units → has live u ≡ true → (has allocated u ≡ true) × (has other u ≡ false)

-- the three bits of a mark
abbrev pub live_bit : Mark → Bool
live_bit Live = true
live_bit _ = false

abbrev pub allocated_bit : Mark → Bool
allocated_bit Inside = false
allocated_bit Free = false
allocated_bit _ = true

abbrev pub other_bit : Mark → Bool
other_bit Free = true
other_bit Named = true
other_bit _ = false
