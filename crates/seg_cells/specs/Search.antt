-- The end of a binary search.
--     IsBetween compares n i     the item before index i compares as less, and the one at i as greater
use Rattle.std.specs.Prelude.{◌≡◌, ℕ, ◌-◌, ◌⊎◌}
use Rattle.std.specs.declared.cmp.Ordering.{Ordering}
use Rattle.std.specs.declared.cmp.Ordering.TheVariants.{Less, Greater}

-- there is no item before index 0, and no item at index n
abbrev pub IsBetween : (ℕ → Ordering → Type 0) → ℕ → ℕ → Type 0
IsBetween compares n i = ((i ≡ 0) ⊎ compares (i - 1) Less) × ((i ≡ n) ⊎ compares i Greater)
