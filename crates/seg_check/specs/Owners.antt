-- Images in which blocks have no owner. The faults of the content are told apart by them: either no
-- block has several owners and everything else is right, or the fault is another one.
--     HoldsBut bytes unowned       a sound image, except that these allocated blocks have no owner
--     HoldsOnce bytes              the same, for some such blocks
--     LacksOwnerAt bytes at        only owners are missing; the first block without one is at `at`
--     IsOwnerFaultOf bytes fault   `Unowned` if only owners are missing, and then no other fault of the content
use Rattle.std.specs.Prelude.{ℕ, ◌≤◌, ⊤, List, ◌++◌}
use Rattle.seg_spec.specs.Heap.{live}
use Rattle.seg_spec.specs.Sound.{times, SameBlocks, positions}
use Rattle.seg_spec.specs.Images.{IsSound}
use Rattle.seg_spec.specs.Faulty.{HoldsAll}
use Rattle.seg_raw.specs.declared.fault.Fault.{Fault}
use Rattle.seg_raw.specs.declared.fault.Fault.TheVariants as fault

-- Everything is right. Each allocated block has one owner, except that these blocks have none.
pub record HoldsBut (bytes : List ℕ) (unowned : List ℕ) : Type 0 where
  pub all : HoldsAll bytes
  pub owners : SameBlocks (positions (live bytes))
      ((all.index_blocks ++ all.root_blocks) ++ unowned)

-- no block has several owners, but some may have none
abbrev pub HoldsOnce : List ℕ → Type 0
HoldsOnce bytes = (unowned : List ℕ) × HoldsBut bytes unowned

-- Everything is right, except that blocks have no owner. The first of them is at this position.
pub record LacksOwnerAt (bytes : List ℕ) (at : ℕ) : Type 0 where
  pub unowned : List ℕ
  pub right : HoldsBut bytes unowned
  pub there : 1 ≤ times at unowned
  pub first : (block : ℕ) → 1 ≤ times block unowned → at ≤ block
  pub unsound : IsSound bytes → ⊥

-- Of the faults of the content, the last one means that only owners are missing. The others mean
-- that something else is wrong.
abbrev pub IsOwnerFaultOf : List ℕ → Fault → Type 0
IsOwnerFaultOf bytes (fault.BadIndex at) = HoldsOnce bytes → ⊥
IsOwnerFaultOf bytes (fault.BadPointer at) = HoldsOnce bytes → ⊥
IsOwnerFaultOf bytes (fault.DoubleOwner at) = HoldsOnce bytes → ⊥
IsOwnerFaultOf bytes (fault.BadValue at) = HoldsOnce bytes → ⊥
IsOwnerFaultOf bytes (fault.Unowned at) = LacksOwnerAt bytes at
IsOwnerFaultOf bytes _ = ⊤
