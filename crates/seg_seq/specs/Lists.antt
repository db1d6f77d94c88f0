-- Lists before and after calls. U is the type of the items, vs are the items, and `blocks` the
-- blocks that the list owns.
--     IsList table T U content         the type is a list of values of type U, and its nodes have this layout
--     HasList allocator heap list U vs blocks     a place has a list with these items
--     IsNoList table T                 the type isn't a list
--     MovesItems old new table list to      a path from an item reaches the same place, from the item's new index
--     without_index j i                the new index of item i after item j was removed
--     AddsItem ..                      the list has one item more: a default value, in a new node
--     RemovesItem ..                   an item was removed from the list
--     LosesItem old new table list vs j items home blocks
--                                      the same, for any frozen objects
use Rattle.std.specs.Prelude.{◌≡◌, ◌≢◌, ℕ, ◌+◌, ◌-◌, ◌==◌, nat_lt, if◌then◌else◌, List, [], ◌∷◌, Option, Some, None}
use Rattle.std.specs.Option.{IfSome}
use Rattle.seg_spec.specs.Types.{Form, Table, form_at, size}
use Rattle.seg_spec.specs.Value.{Value, Values, Seq, nth, Selector}
use Rattle.seg_spec.specs.Block.{Kind, tag_of}
use Rattle.seg_spec.specs.Reads.{Place, Leads}
use Rattle.seg_spec.specs.Parts.{KeepsParts}
use Rattle.seg_spec.specs.Demand.{block_for}
use Rattle.seg_spec.specs.Growing.{Succeeds}
use Rattle.seg_spec.specs.Clearing.{BesideShared, LosesPart}
use Rattle.seg_spec.specs.Frozen.{Frozen}
use Rattle.seg_spec.specs.Shared.{named_in}
use Rattle.seg_spec.specs.Owning.{Stands}
use Rattle.seg_value.specs.Stored.{Stored}
use Rattle.seg_cells.specs.Contents.{IsContent}
use Rattle.seg_cells.specs.declared.content.Content.{Content}
use Rattle.seg_cells.specs.declared.content.Shape.TheVariants as shape

pub record IsList (table : Table) (T U : ℕ) (content : Content) : Type 0 where
  pub form_is : form_at table T ≡ Some (Form.list U)
  pub content_is : IsContent table shape.Ring (tag_of Kind.node T) 8 U content

pub record HasList (allocator : ℕ) (heap : Stored) (list : Place) (U : ℕ) (vs : Values)
    (blocks : List ℕ) : Type 0 where
  pub form_is : form_at heap.types list.type ≡ Some (Form.list U)
  pub stands : Stands allocator heap.window.bytes heap.types list (Seq vs) blocks

abbrev pub IsNoList : Table → ℕ → Type 0
IsNoList table T = (U : ℕ) → form_at table T ≢ Some (Form.list U)

-- a path from an item reaches the same place, from the item's new index, if the item wasn't removed
abbrev pub MovesItems : List ℕ → List ℕ → Table → Place → (ℕ → Option ℕ) → Type 0
MovesItems old new table list to = (i : ℕ) (path : List Selector) (inner : Place) →
    Leads old table list (Selector.item i ∷ path) inner →
    IfSome (to i) (λ k. Leads new table list (Selector.item k ∷ path) inner)

abbrev pub without_index : ℕ → ℕ → Option ℕ
without_index j i = if i == j then None else Some (if nat_lt i j then i else i - 1)

-- The list now has these items. Item i is new, at this position, in a new node. The others stay in
-- their nodes.
pub record AddsItem (allocator : ℕ) (old new : List ℕ) (table : Table) (list : Place) (U : ℕ)
    (items : Values) (blocks : List ℕ) (i at : ℕ) (to : ℕ → Option ℕ) : Type 0 where
  pub others : List ℕ
  pub succeeds : Succeeds allocator old new table list (Seq items)
      (block_for (8 + size table U) ∷ []) [] blocks others
  pub parts : KeepsParts old new table list i 0 1
  pub stands : Leads new table list (Selector.item i ∷ []) (record { at = at; type = U })
  pub moves : MovesItems old new table list to

-- The list now has these items. Item j was destroyed: its node and what it owned were freed, with
-- the frozen objects that lost their last cell. The others didn't move.
pub record RemovesItem (old new : List ℕ) (table : Table) (list : Place) (items : Values)
    (blocks : List ℕ) (j : ℕ) (theirs : ℕ → List ℕ) (now final : List Frozen) : Type 0 where
  pub loses : LosesPart old new table list (Seq items) j blocks theirs now final
  pub moves : MovesItems old new table list (without_index j)

-- the same, for any frozen objects, if the list lies in the block `home`
abbrev pub LosesItem : List ℕ → List ℕ → Table → Place → Values → ℕ → Values → ℕ → List ℕ → Type 0
LosesItem old new table list vs j items home blocks = (v : Value) → nth vs j ≡ Some v →
    BesideShared old table (home ∷ blocks) (named_in v)
    (RemovesItem old new table list items blocks j)
