-- The premises and results of a call that destroys a value, and the frozen objects that lose their
-- last cell. Frozen objects are in `now` before the call and in `final` after it. `theirs` gives
-- the blocks of each, by its position. `names` are the positions to which the destroyed shared
-- cells pointed.
--     SharedBeside bytes table besides names theirs kept now final
--                        these frozen objects exist apart from the blocks `besides`; without the cells
--                        `names` they become `final`
--     BesideShared bytes table besides names claim
--                        the claim is true for any such frozen objects
--     ClearsPlace old new table place w olds news theirs now final
--                        a value was destroyed, and the blocks without an owner were freed
--     LosesPart old new table place w j blocks theirs now final
--                        part j of a place was destroyed, with its node
use Rattle.std.specs.Prelude.{ℕ, ◌≤◌, List, ◌++◌}
use Rattle.seg_spec.specs.Types.{Table}
use Rattle.seg_spec.specs.Value.{Value}
use Rattle.seg_spec.specs.Heap.{live}
use Rattle.seg_spec.specs.Reads.{Place}
use Rattle.seg_spec.specs.Parts.{KeepsParts}
use Rattle.seg_spec.specs.Demand.{after_gives}
use Rattle.seg_spec.specs.Spending.{PartBlocks}
use Rattle.seg_spec.specs.Roots.{ChangesPlace}
use Rattle.seg_spec.specs.Block.{IsOwnable}
use Rattle.seg_spec.specs.Sound.{times, SameBlocks}
use Rattle.seg_spec.specs.Frozen.{Frozen, blocks_by}
use Rattle.seg_spec.specs.Shared.{IsReleasing}
use Rattle.seg_spec.specs.Destroying.{AreLive, HoldFrozen, KeepFrozen}

-- The frozen objects own the blocks `theirs`. These and `besides` are allocated and differ. If the
-- cells `names` are destroyed and the cells `kept` remain, the objects become `final`.
pub record SharedBeside (bytes : List ℕ) (table : Table) (besides names : List ℕ)
    (theirs : ℕ → List ℕ) (kept : List Place) (now final : List Frozen) : Type 0 where
  pub holds : HoldFrozen bytes table theirs now
  pub ownable : (h : ℕ) → 1 ≤ times h (blocks_by theirs now) → IsOwnable bytes table h
  pub owned : AreLive bytes (besides ++ blocks_by theirs now)
  pub releasing : IsReleasing kept final names now

abbrev pub BesideShared : List ℕ → Table → List ℕ → List ℕ →
    ((ℕ → List ℕ) → List Frozen → List Frozen → Type 0) → Type 0
BesideShared bytes table besides names claim =
    (theirs : ℕ → List ℕ) (kept : List Place) (now final : List Frozen) →
    SharedBeside bytes table besides names theirs kept now final → claim theirs now final

-- The place now contains w with the blocks `news`, which its old value owned. Its other old blocks
-- were freed, and so were the blocks of frozen objects without a cell.
pub record ClearsPlace (old new : List ℕ) (table : Table) (place : Place) (w : Value)
    (olds news : List ℕ) (theirs : ℕ → List ℕ) (now final : List Frozen) : Type 0 where
  pub gives : List ℕ
  pub all_are :
      SameBlocks (olds ++ blocks_by theirs now) (gives ++ (news ++ blocks_by theirs final))
  pub changes : ChangesPlace old new table place w news (after_gives (live old) gives)
      (olds ++ blocks_by theirs now) (news ++ blocks_by theirs final)
  pub shared_kept : KeepFrozen old new theirs final
  pub holds : HoldFrozen new table theirs final

-- The place lost part j, an item or the value of a key, with its node and everything that it owned.
-- It contains w with the other blocks. The other parts stay.
pub record LosesPart (old new : List ℕ) (table : Table) (place : Place) (w : Value) (j : ℕ)
    (blocks : List ℕ) (theirs : ℕ → List ℕ) (now final : List Frozen) : Type 0 where
  pub lost : List ℕ
  pub part : PartBlocks old table place j lost
  pub others : List ℕ
  pub blocks_are : SameBlocks blocks (lost ++ others)
  pub clears : ClearsPlace old new table place w blocks others theirs now final
  pub parts : KeepsParts old new table place j 1 0
