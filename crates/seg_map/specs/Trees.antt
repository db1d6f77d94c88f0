-- Maps as trees of nodes.
--     VALUE                           the size of a node's bytes before its value
--     NamesTree table T U content     the cell of a type T points to a tree of nodes with values of type U
--     KeepsOtherKeys old new table map key
--                                     paths through other keys of a map still reach the same places
use Rattle.std.specs.Prelude.{◌≢◌, ℕ, ℤ, List, ◌∷◌}
use Rattle.seg_spec.specs.Types.{Table}
use Rattle.seg_spec.specs.Value.{Selector}
use Rattle.seg_spec.specs.Reads.{Place, Leads}
use Rattle.seg_spec.specs.Block.{Kind, tag_of}
use Rattle.seg_cells.specs.Contents.{IsContent}
use Rattle.seg_cells.specs.declared.content.Content.{Content}
use Rattle.seg_cells.specs.declared.content.Shape.TheVariants as shape

-- the tree words have 16 bytes, and the key 8
abbrev pub VALUE : ℕ
VALUE = 24

abbrev pub NamesTree : Table → ℕ → ℕ → Content → Type 0
NamesTree table T U content = IsContent table shape.Tree (tag_of Kind.node T) VALUE U content

abbrev pub KeepsOtherKeys : List ℕ → List ℕ → Table → Place → ℤ → Type 0
KeepsOtherKeys old new table map key =
    (other : ℤ) (path : List Selector) (inner : Place) → other ≢ key
    → Leads old table map (Selector.key other ∷ path) inner
    → Leads new table map (Selector.key other ∷ path) inner
