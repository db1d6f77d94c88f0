-- The release of shared cells one after the other, in any order. A released cell no longer points
-- to its object, which counts one cell fewer. An object without a cell is freed, and its own cells
-- are released.
--     lowered p frozen          the objects after the object at position p counts one cell fewer
--     let_go p frozen           the targets of that object's cells, if it is freed
--     Releases gone frozen turns pending now
--                               after `turns` releases, the cells `pending` are still to be released, and
--                               the objects are `now`
use Rattle.std.specs.Prelude.{ℕ, zero, suc, ◌-◌, ◌==◌, if◌then◌else◌, List, [], ◌∷◌, ◌++◌, IsPermutation}
use Rattle.seg_spec.specs.Reads.{Place}
use Rattle.seg_spec.specs.Frozen.{Frozen}
use Rattle.seg_spec.specs.Shared.{names_in, kept_with}

-- The object at a position counts one cell fewer, and is removed if it then counts 0.
abbrev pub lowered : ℕ → List Frozen → List Frozen
lowered p [] = []
lowered p (f ∷ fs) = if f.at == p then kept_with f (f.count - 1) fs fs else f ∷ lowered p fs

-- the targets of an object's cells, if no cell points to it any more; otherwise nothing
abbrev pub names_with : Frozen → ℕ → List Place
names_with f zero = names_in f.value
names_with f (suc n) = []

-- the targets of the cells of the object at a position, if it loses its last cell
abbrev pub let_go : ℕ → List Frozen → List Place
let_go p [] = []
let_go p (f ∷ fs) = if f.at == p then names_with f (f.count - 1) else let_go p fs

-- the cells that remain to be released, and the objects; any of these cells may be next
pub data Releases (gone : List Place) (frozen : List Frozen) :
    ℕ → List Place → List Frozen → Type 0 where
  no_turn : Releases gone frozen 0 gone frozen
  one_turn : {turns : ℕ} {pending rest : List Place} {name : Place} {now : List Frozen} →
      Releases gone frozen turns pending now → IsPermutation pending (name ∷ rest) →
      Releases gone frozen (suc turns) (rest ++ let_go name.at now) (lowered name.at now)
