-- The number of a named object.
use Rattle.std.specs.Prelude.{◌≡◌, ℕ, ℤ, List, Some}
use Rattle.seg_spec.specs.Value.{Int, nth}
use Rattle.seg_spec.specs.Index.{Root, root_named}
use Rattle.seg_spec.specs.Sound.{Picture}

-- the first value of the object with this name is this number
abbrev pub HasNumber : Picture → List ℕ → ℤ → Type 0
HasNumber picture name number = (root : Root) × (root_named picture.names name ≡ Some root)
    × (nth root.values 0 ≡ Some (Int number))
