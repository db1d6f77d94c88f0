-- Entries with a pointer that were moved. A pointer has the distance from its own position.
--     PointsAgain distance old new start each before n     the distances in the pointers of n entries grew by `distance`
--     MovesPointers old new each before from to n          n entries were moved, and their pointers have the same targets
use Rattle.std.specs.Prelude.{◌≡◌, ◌≢◌, ℕ, ◌+◌, ◌*◌, ◌<◌, ◌≤◌, ◌⊎◌, List, Some}
use Rattle.seg_spec.specs.Bytes.{word, slice, IsSame, ChangesOnly}
use Rattle.seg_spec.specs.Pointer.{target}
use Rattle.seg_spec.specs.Cells.{further}

-- the position of the pointer of an entry
abbrev pub pointer_at : ℕ → ℕ → ℕ → ℕ → ℕ
pointer_at start each before i = start + i * each + before

-- only the pointers of n entries changed: their distances grew, unless the pointer is null
pub record PointsAgain (distance : ℕ) (old new : List ℕ) (start each before n : ℕ) : Type 0 where
  pub changes : ChangesOnly old new start (n * each)
  pub words : (i : ℕ) → i < n →
      word new (pointer_at start each before i)
      ≡ further distance (word old (pointer_at start each before i))
  pub beside : (q m : ℕ) →
      ((i : ℕ) → i < n → (q + m ≤ pointer_at start each before i)
      ⊎ (pointer_at start each before i + 4 ≤ q)) →
      IsSame old new q m

-- N entries were copied, with the bytes beside their pointers. Each pointer has the same target,
-- unless its target was the byte after its new position: no pointer there can point to that byte.
pub record MovesPointers (old new : List ℕ) (each before from to n : ℕ) : Type 0 where
  pub changes : ChangesOnly old new to (n * each)
  pub named : (i : ℕ) → i < n →
      target old (pointer_at from each before i) ≢ Some (pointer_at to each before i + 1) →
      target new (pointer_at to each before i) ≡ target old (pointer_at from each before i)
  pub beside : (i d m : ℕ) → i < n → d + m ≤ each → (d + m ≤ before) ⊎ (before + 4 ≤ d) →
      slice new (to + i * each + d) m ≡ slice old (from + i * each + d) m
