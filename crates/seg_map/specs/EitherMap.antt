-- Maps of both kinds, flat maps and trees.
--     has_keys form                    values of this form are maps
--     IsMapOf form U                   values of this form are maps to values of type U
--     WhereMaps allocator bytes table map claim     the claim is true of a place that is a map
--     key_asks bytes table at form     the requests for one more key
--     MapKindOf table T form result    the kind of the maps of a type
--     KeepsTreePaths form old new table map         paths into a tree map still reach the same places
--     KeepsKeysBut form old new table map key       paths through other keys are kept: through all of them in a tree,
--                                                   through lower ones in a flat map
use Rattle.std.specs.Prelude.{⊤, ◌≡◌, ℕ, ◌+◌, ℤ, Bool, true, false, List, [], ◌∷◌, Option, Some, Result, Ok, Err}
use Rattle.seg_spec.specs.Types.{Form, Table, form_at, size}
use Rattle.seg_spec.specs.Value.{Values, Map}
use Rattle.seg_spec.specs.Block.{Kind, tag_of}
use Rattle.seg_spec.specs.Reads.{Place}
use Rattle.seg_spec.specs.Owning.{Stands}
use Rattle.seg_spec.specs.Demand.{Ask, block_for}
use Rattle.seg_spec.specs.Shrinking.{KeepsPathsInside}
use Rattle.seg_cells.specs.Contents.{IsContent}
use Rattle.seg_value.specs.Entries.{flat_asks}
use Rattle.seg_cells.specs.declared.content.Shape.TheVariants as shape
use Rattle.seg_raw.specs.declared.code.Code.{Code}
use Rattle.seg_raw.specs.declared.code.Code.TheVariants as code
use Rattle.seg_map.specs.declared.map.MapKind as map
use Rattle.seg_map.specs.declared.map.MapKind.TheVariants as kind
use Rattle.seg_map.specs.Maps.{KeepsLowerKeys}
use Rattle.seg_map.specs.Trees.{VALUE, NamesTree, KeepsOtherKeys}

abbrev pub has_keys : Option Form → Bool
has_keys (Some (Form.flat_map U)) = true
has_keys (Some (Form.map U)) = true
has_keys _ = false

abbrev pub IsMapOf : Option Form → ℕ → Type 0
IsMapOf (Some (Form.flat_map V)) U = V ≡ U
IsMapOf (Some (Form.map V)) U = V ≡ U
IsMapOf _ U = ⊥

-- If the place has a map, the claim is true of the type of the map's values, its keys and values,
-- and the blocks that it owns.
abbrev pub WhereMaps : ℕ → List ℕ → Table → Place → (ℕ → List ℤ → Values → List ℕ → Type 0) → Type 0
WhereMaps allocator bytes table map claim =
    (U : ℕ) (keys : List ℤ) (vs : Values) (blocks : List ℕ) → IsMapOf (form_at table map.type) U →
    Stands allocator bytes table map (Map keys vs) blocks → claim U keys vs blocks

-- the requests for one more key of a map of this form
abbrev pub key_asks : List ℕ → Table → ℕ → Option Form → List Ask
key_asks bytes table at (Some (Form.flat_map U)) = flat_asks bytes table at U
key_asks bytes table at (Some (Form.map U)) = block_for (VALUE + size table U) ∷ []
key_asks bytes table at form = []

-- the kind of the maps of a type; `OtherType` if the type's values aren't maps
abbrev pub MapKindOf : Table → ℕ → Option Form → Result map.MapKind Code → Type 0
MapKindOf table T (Some (Form.flat_map U)) (Ok (kind.Flat content)) =
    IsContent table shape.Buffer (tag_of Kind.buffer T) 8 U content
MapKindOf table T (Some (Form.map U)) (Ok (kind.Tree content)) = NamesTree table T U content
MapKindOf table T (Some (Form.flat_map U)) _ = ⊥
MapKindOf table T (Some (Form.map U)) _ = ⊥
MapKindOf table T form (Ok content) = ⊥
MapKindOf table T form (Err error) = error ≡ code.OtherType

abbrev pub KeepsTreePaths : Option Form → List ℕ → List ℕ → Table → Place → Type 0
KeepsTreePaths (Some (Form.map U)) old new table map = KeepsPathsInside old new table map
KeepsTreePaths form old new table map = ⊤

-- Paths through other keys still reach the same places. In a flat map only paths through lower keys
-- do, since the other values moved.
abbrev pub KeepsKeysBut : Option Form → List ℕ → List ℕ → Table → Place → ℤ → Type 0
KeepsKeysBut (Some (Form.flat_map U)) old new table map key = KeepsLowerKeys old new table map key
KeepsKeysBut (Some (Form.map U)) old new table map key = KeepsOtherKeys old new table map key
KeepsKeysBut form old new table map key = ⊤
