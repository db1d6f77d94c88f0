-- An own that got a new object, or whose object was frozen.
--     PutsNew allocator old new table own U blocks at theirs now final
--                            the object at a position has the default value of its type; the own's old object
--                            was destroyed, with the frozen objects that lost their last cell
--     OwnAndShared table own shared U
--                            the places are an own and a shared cell for objects of type U
--     AreShared table to from T
--                            both places are shared cells for objects of type T
--     FreezesOwn allocator old new table own cell U object v inside blocks names theirs now
--                            the object of the own at a position was frozen, and a shared cell points to it
use Rattle.std.specs.Prelude.{◌≡◌, ℕ, ◌+◌, List, [], ◌∷◌, ◌++◌, length, Some, None}
use Rattle.seg_spec.specs.Bytes.{set_word}
use Rattle.seg_spec.specs.Pointer.{set_pointer}
use Rattle.seg_spec.specs.Types.{Form, Table, form_at}
use Rattle.seg_spec.specs.Value.{Value, Full, default_of}
use Rattle.seg_spec.specs.Heap.{Span, live}
use Rattle.seg_spec.specs.Block.{block_of}
use Rattle.seg_spec.specs.Reads.{Place}
use Rattle.seg_spec.specs.Roots.{ChangesPlace}
use Rattle.seg_spec.specs.Sound.{SameBlocks}
use Rattle.seg_spec.specs.Demand.{after_asks, after_gives}
use Rattle.seg_spec.specs.Destroying.{HoldFrozen, KeepFrozen}
use Rattle.seg_spec.specs.Frozen.{Frozen, blocks_by}
use Rattle.seg_value.specs.Place as places
use Rattle.seg_spec.specs.Sharing.{FreezesParts}
use Rattle.seg_manager.specs.Segments.{one_value}

-- The own had `blocks`, and now has the object's block. `now` are the frozen objects before, which
-- own `theirs`, and `final` the remaining ones.
pub record PutsNew (allocator : ℕ) (old new : List ℕ) (table : Table) (own : Place) (U : ℕ)
    (blocks : List ℕ) (at : ℕ) (theirs : ℕ → List ℕ) (now final : List Frozen) : Type 0 where
  pub granted : List Span
  pub granted_is : after_asks allocator (live old) (length old) (one_value table U) ≡ Some granted
  pub gives : List ℕ
  pub gives_are :
      SameBlocks (blocks ++ blocks_by theirs now) (gives ++ blocks_by theirs final)
  pub changes : ChangesPlace old new table own (Full (default_of table U)) (block_of at ∷ [])
      (after_gives granted gives) (blocks ++ blocks_by theirs now)
      (block_of at ∷ blocks_by theirs final)
  pub shared_kept : KeepFrozen old new theirs final
  pub holds : HoldFrozen new table theirs final

-- ---- frozen objects

abbrev pub OwnAndShared : Table → places.Place → places.Place → ℕ → Type 0
OwnAndShared table own shared U = (form_at table own.type_id ≡ Some (Form.own U))
    × (form_at table shared.type_id ≡ Some (Form.shared U))

abbrev pub AreShared : Table → places.Place → places.Place → ℕ → Type 0
AreShared table to from T = (form_at table to.type_id ≡ Some (Form.shared T))
    × (form_at table from.type_id ≡ Some (Form.shared T))

-- The object was frozen with its parts, and the cell points to it. After that the own became empty.
pub record FreezesOwn (allocator : ℕ) (old new : List ℕ) (table : Table) (own : ℕ) (cell : Place)
    (U object : ℕ) (v : Value) (inside blocks : List ℕ) (names : List Place)
    (theirs : ℕ → List ℕ) (now : List Frozen) : Type 0 where
  pub frozen : List ℕ
  pub freezes : FreezesParts allocator old frozen table cell U object v inside blocks names theirs
      now
  pub empties : new ≡ set_word (set_pointer frozen own None) (own + 4) 0
