-- The layouts of types that a heap stores.
--     AreContents table contents                  for each type, the layout of what its cells point to
--     numbers_in table T                          the type of the items of a vector of numbers
--     AreNumbers table each                       the same for each type
--     IsDescribed table contents cells numbers    what a heap stores about each type of a valid table
--     GivesBlock ..                               a new block, with the default of a value
use Rattle.std.specs.Prelude.{◌≡◌, ℕ, ◌+◌, ◌≤◌, List, [], ◌∷◌, length, Option, Some, None, get_or}
use Rattle.seg_spec.specs.Header.{KeepsFront, KeepsBack}
use Rattle.seg_spec.specs.Value.{default_of}
use Rattle.seg_spec.specs.Heap.{IsHeap, live, link_at}
use Rattle.seg_spec.specs.Reads.{Holds}
use Rattle.seg_spec.specs.Sound.{times, positions}
use Rattle.seg_spec.specs.Demand.{after_asks, block_for}
use Rattle.seg_spec.specs.Types.{Form, Table, IsTable, form_at, size}
use Rattle.seg_spec.specs.Block as block
use Rattle.seg_cells.specs.declared.cells.Cells.{Cells}
use Rattle.seg_cells.specs.Cells.{AreCells}
use Rattle.seg_cells.specs.Contents.{ContentOf}
use Rattle.seg_cells.specs.declared.content.Content.{Content}

-- a list with an element for each type
abbrev pub AreContents : Table → List (Option Content) → Type 0
AreContents table contents =
    (T : ℕ) → ContentOf table T (form_at table T) (get_or contents T None)

-- the type of a vector's items, if they are numbers
abbrev pub number_item : ℕ → Option Form → Option ℕ
number_item U (Some Form.i64) = Some U
number_item U _ = None

-- the type of the items, if values of this form are vectors of numbers
abbrev pub numbers_by : Table → Option Form → Option ℕ
numbers_by table (Some (Form.vec U)) = number_item U (form_at table U)
numbers_by table _ = None

-- the type of the items, if values of this type are vectors of numbers
abbrev pub numbers_in : Table → ℕ → Option ℕ
numbers_in table T = numbers_by table (form_at table T)

-- a list with an element for each type
abbrev pub AreNumbers : Table → List (Option ℕ) → Type 0
AreNumbers table each = (T : ℕ) → get_or each T None ≡ numbers_in table T

-- For each type of a valid table: the layout of what its cells point to, what its values consist
-- of, and whether it is a vector of numbers.
pub record IsDescribed (table : Table) (contents : List (Option Content)) (each : List Cells)
    (numbers : List (Option ℕ)) : Type 0 where
  pub valid : IsTable table
  pub contents_are : AreContents table contents
  pub cells_are : AreCells table each
  pub numbers_are : AreNumbers table numbers

-- A new block has this tag, and contains the default of a value after `before` bytes. All other
-- allocated blocks are kept.
pub record GivesBlock (allocator : ℕ) (old new : List ℕ) (table : Table) (tag before U : ℕ)
    (payload : ℕ) : Type 0 where
  pub length_kept : length new ≡ length old
  pub front_kept : KeepsFront old new
  pub back_kept : KeepsBack old new
  pub heap : IsHeap allocator new
  pub is_block : block.IsBlock new payload tag (before + size table U)
  pub link_is : link_at new (block.block_of payload) ≡ None
  pub value : Holds new table (record { at = payload + before; type = U }) (default_of table U) []
  pub granted_is :
      after_asks allocator (live old) (length old) (block_for (before + size table U) ∷ [])
      ≡ Some (live new)
  pub was_free : times (block.block_of payload) (positions (live old)) ≡ 0
  pub now_live : times (block.block_of payload) (positions (live new)) ≡ 1
  pub kept : (h : ℕ) → 1 ≤ times h (positions (live old)) →
      block.KeepsBlock old new h × (link_at new h ≡ link_at old h)
