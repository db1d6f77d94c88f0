-- The rules of colours around a place in a tree.
--     IsBelowBlack layers      the node above the place is black
--     Wants layers height      a balanced tree of this black height at the place makes the whole tree balanced
use Rattle.std.specs.Prelude.{◌≡◌, ℕ, suc, ⊤, List, [], ◌∷◌}
use Rattle.seg_spec.specs.Shapes.{Colour, black, red, Tree, IsBlack, IsBalanced}
use Rattle.seg_rbtree.specs.Ways.{Layer}

abbrev pub IsBelowBlack : List Layer → Type 0
IsBelowBlack [] = ⊥
IsBelowBlack (layer ∷ layers) = layer.colour ≡ black

-- the black height above a node of a colour
abbrev pub height_above : Colour → ℕ → ℕ
height_above black height = suc height
height_above red height = height

-- the other subtree of a layer fits the colours
abbrev pub SideFits : Colour → Tree → List Layer → ℕ → Type 0
SideFits black other layers height = IsBalanced other height
SideFits red other layers height = IsBlack other × IsBalanced other height × IsBelowBlack layers

abbrev pub Wants : List Layer → ℕ → Type 0
Wants [] height = ⊤
Wants (layer ∷ layers) height =
    SideFits layer.colour layer.other layers height
    × Wants layers (height_above layer.colour height)
