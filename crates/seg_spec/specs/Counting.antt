-- The counts of the frozen objects of a picture. A frozen object counts the shared cells that point
-- to it, in all roots and in other frozen objects.
--     cells_in roots           the targets of the shared cells in the values of these roots
--     owners_in picture        the roots that aren't frozen objects
--     AreCounted next picture  each frozen object counts its cells; the objects' numbers are below next,
--                              and don't rise along the list
--     without_cells gone picture   the picture without the cells that point to `gone`, and without the frozen
--                              objects whose last cell is among them
--     FrozenGone bytes picture gone blocks     the blocks of these frozen objects
use Rattle.std.specs.Prelude.{◌≡◌, ℕ, List, [], ◌∷◌, ◌++◌}
use Rattle.seg_spec.specs.Reads.{Place}
use Rattle.seg_spec.specs.Index.{Root}
use Rattle.seg_spec.specs.Sound.{Picture}
use Rattle.seg_spec.specs.Shared.{names_each, IsCounted, IsFalling, left, freed}
use Rattle.seg_spec.specs.Frozen.{blocks_by}
use Rattle.seg_spec.specs.Destroying.{HoldFrozen}

abbrev pub cells_in : List Root → List Place
cells_in [] = []
cells_in (r ∷ rs) = names_each r.values ++ cells_in rs

abbrev pub owners_in : Picture → List Root
owners_in picture = picture.names ++ (picture.uniques ++ picture.loose)

pub record AreCounted (next : ℕ) (picture : Picture) : Type 0 where
  pub counted : IsCounted next picture.frozen (cells_in (owners_in picture))
  pub falling : IsFalling picture.frozen

abbrev pub without_cells : List Place → Picture → Picture
without_cells gone picture = record picture { frozen = left gone picture.frozen }

pub record FrozenGone (bytes : List ℕ) (picture : Picture) (gone : List Place)
    (blocks : List ℕ) : Type 0 where
  pub theirs : ℕ → List ℕ
  pub holds : HoldFrozen bytes picture.table theirs picture.frozen
  pub blocks_are : blocks ≡ blocks_by theirs (freed gone picture.frozen)
