-- The cells of a place, and how they change together. A cell has 8 bytes: a number, or a pointer
-- word and a count. A pointer word has the distance from its own position.
--     IsWithin bytes at n                the n bytes from a position on lie in the bytes of a segment
--     EachCell table T P                 P is true of each cell of the type T: of its distance from the
--                                        value's start, and of the form of its type
--     ChangesCells R old new table at T  only the value of type T at a position changed, and R relates the
--                                        old and the new bytes of each of its cells
--     Shifts old new table before T each from to n   n entries were copied, and their pointers were corrected
--     IsDefaulted old new at form        the cell is now 0, or empty
--     IsMoved old new from to form       the cell has the target and the count that another cell had
--     IsFurther old new n at form        the distance in the cell grew by n, unless its pointer is null
use Rattle.std.specs.Prelude.{◌≡◌, ℕ, ◌+◌, ◌*◌, ◌%◌, ◌^◌, ◌==◌, ◌≤◌, ◌⊎◌, if◌then◌else◌, List, length, map, Option, Some}
use Rattle.std.specs.List.{AllByRecursion}
use Rattle.seg_spec.specs.Bytes.{slice, put, word, long, IsSame, ChangesOnly}
use Rattle.seg_spec.specs.Pointer.{target}
use Rattle.seg_spec.specs.Types.{Form, Table, form_at, size, cells}
use Rattle.seg_spec.specs.Reads.{count_at, spaced}
use Rattle.seg_spec.specs.Fresh.{IsFreshCell}
use Rattle.seg_spec.specs.Header.{max_length}

-- The number of bytes is at most the longest length of a segment.
pub record IsWithin (bytes : List ℕ) (at n : ℕ) : Type 0 where
  pub fits : at + n ≤ length bytes
  pub small : length bytes ≤ max_length

abbrev pub EachCell : Table → ℕ → (ℕ → Option Form → Type 0) → Type 0
EachCell table T P = AllByRecursion (λ c. P c.from (form_at table c.type)) (cells table T)

-- The cell is now 0, or has a null pointer and the count 0. Its old content doesn't matter.
abbrev pub IsDefaulted : List ℕ → List ℕ → ℕ → Option Form → Type 0
IsDefaulted old new at form = IsFreshCell new at form

-- the cell at `to` now has the target and the count that the cell at `from` had
abbrev pub IsMoved : List ℕ → List ℕ → ℕ → ℕ → Option Form → Type 0
IsMoved old new from to (Some Form.i64) = long new to ≡ long old from
IsMoved old new from to _ =
    (target new to ≡ target old from) × (count_at new to ≡ count_at old from)

-- a distance that grew by n, or the null pointer's distance
abbrev pub further : ℕ → ℕ → ℕ
further n distance = if distance == 1 then 1 else (distance + n) % 2 ^ 32

-- The distance in the cell grew by n. The cell's count is kept, and so is the number in a cell
-- without a pointer.
abbrev pub IsFurther : List ℕ → List ℕ → ℕ → ℕ → Option Form → Type 0
IsFurther old new n at (Some Form.i64) = long new at ≡ long old at
IsFurther old new n at _ =
    (word new at ≡ further n (word old at)) × (count_at new at ≡ count_at old at)

pub record ChangesCells (R : List ℕ → List ℕ → ℕ → Option Form → Type 0)
    (old new : List ℕ) (table : Table) (at T : ℕ) : Type 0 where
  pub changes : ChangesOnly old new at (size table T)
  pub cells : EachCell table T (λ d form. R old new (at + d) form)

-- ChangesCells for values at several positions, all inside the n bytes from `at`. The bytes between
-- them are kept.
pub record ChangesEach (R : List ℕ → List ℕ → ℕ → Option Form → Type 0)
    (old new : List ℕ) (table : Table) (T at n : ℕ) (positions : List ℕ) : Type 0 where
  pub changes : ChangesOnly old new at n
  pub cells : AllByRecursion (λ p. EachCell table T (λ d form. R old new (p + d) form)) positions
  pub beside : (q m : ℕ) → AllByRecursion (λ p. (q + m ≤ p) ⊎ (p + size table T ≤ q)) positions →
      IsSame old new q m

-- n entries were copied. Each has `each` bytes, and a value of the type T after `before` bytes. The
-- distances in the values grew by the number of bytes by which the entries moved down.
pub record Shifts (old new : List ℕ) (table : Table) (before T each from to n : ℕ) : Type 0 where
  pub distance : ℕ
  pub back : (to + distance) % 2 ^ 32 ≡ from
  pub changed : ChangesEach (λ a b at form. IsFurther a b distance at form)
      (put old to (slice old from (n * each))) new table
      T to (n * each) (map (λ p. p + before) (spaced to each n))
