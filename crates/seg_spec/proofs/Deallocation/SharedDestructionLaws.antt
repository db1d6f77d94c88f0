-- The state in which the destruction of a value begins, with frozen objects apart from it.
use Rattle.std.proofs.Common.{◌≡◌, ℕ, ◌≤◌, List, [], ◌++◌, Option, None, refl, sym, subst, arith}
use Rattle.seg_spec.specs.Types.{Table}
use Rattle.seg_spec.specs.Heap.{IsHeap}
use Rattle.seg_spec.specs.Reads.{Place}
use Rattle.seg_spec.specs.Frozen.{Frozen, blocks_by}
use Rattle.seg_spec.specs.Sound.{times}
use Rattle.seg_spec.specs.Owing.{Waits, none_waits}
use Rattle.seg_spec.specs.Destroying.{Awaits}
use Rattle.seg_spec.specs.Clearing.{SharedBeside}
use Rattle.seg_spec.proofs.Heap.LiveBlockLaws.{times-append}
use Rattle.seg_spec.proofs.Deallocation.DestructionLaws.{releasing_same}

-- no block waits yet, and the targets of the value remain to be released
pub awaits_shared : (allocator : ℕ) (bytes : List ℕ) (table : Table) (first : Option ℕ) (besides names : List ℕ) (theirs : ℕ → List ℕ) (kept : List Place) (now final : List Frozen) → first ≡ None → IsHeap allocator bytes
    → SharedBeside bytes table besides names theirs kept now final → Awaits allocator bytes table first (blocks_by theirs now) (names ++ []) kept theirs final
awaits_shared allocator bytes table first besides names theirs kept now final none heap s = record {
  named = [];
  frozen = now;
  beside = record {
    owed = [];
    pends = record { heap = heap; owed = []; named = []; waiting = subst (λ f. Waits bytes table f [] []) (sym none) none_waits; owed_are = λ h. refl; named_are = λ h. refl };
    holds = s.holds;
    ownable = s.ownable;
    blocks_are = λ h. refl;
  };
  releasing = releasing_same kept final names ((names ++ []) ++ []) now (λ h. omega (arith, times-append h (names ++ []) [], times-append h names [])) s.releasing;
}

-- the same for fewer blocks
pub shared_fewer : (bytes : List ℕ) (table : Table) (more fewer names : List ℕ) (theirs : ℕ → List ℕ) (kept : List Place) (now final : List Frozen) → ((h : ℕ) → times h fewer ≤ times h more)
    → SharedBeside bytes table more names theirs kept now final → SharedBeside bytes table fewer names theirs kept now final
shared_fewer bytes table more fewer names theirs kept now final less s = record {
  holds = s.holds;
  ownable = s.ownable;
  owned = λ h. omega (arith, less h, s.owned h, times-append h more (blocks_by theirs now), times-append h fewer (blocks_by theirs now));
  releasing = s.releasing;
}
