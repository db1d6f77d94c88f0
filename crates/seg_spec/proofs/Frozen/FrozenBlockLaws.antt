-- Frozen objects with the blocks that they own.
use Rattle.std.proofs.Common.{◌≡◌, ℕ, zero, suc, ◌+◌, ◌-◌, ◌≤◌, List, [], ◌∷◌, ◌++◌, length, subst, arith}
use Rattle.std.specs.List.{AllByRecursion}
use Rattle.seg_spec.specs.Types.{Table, IsTable}
use Rattle.seg_spec.specs.Heap.{IsHeap, live, heap_start}
use Rattle.seg_spec.specs.Block.{KeepsBlock}
use Rattle.seg_spec.specs.Reads.{Place}
use Rattle.seg_spec.specs.Apart.{KeepsBlockAround}
use Rattle.seg_spec.specs.Frozen.{Frozen, root_of_frozen, blocks_by}
use Rattle.seg_spec.specs.Sound.{times, positions}
use Rattle.seg_spec.specs.Shared.{names_in, times_named, left, kept_with, IsReleasing}
use Rattle.seg_spec.specs.Destroying.{HoldFrozen, KeepFrozen}
use Rattle.seg_spec.proofs.Heap.LiveBlockLaws.{times-append, there, each_there, LiesIn, live-lie}
use Rattle.seg_spec.proofs.Heap.BlockFrameLaws.{around_twice, around_kept}
use Rattle.seg_spec.proofs.Images.RootFrameLaws.{HoldsRoot-kept}

-- the blocks of two lists of objects are counted separately
pub times_by : (theirs : ℕ → List ℕ) (fs gs : List Frozen) (h : ℕ) → times h (blocks_by theirs (fs ++ gs)) ≡ times h (blocks_by theirs fs) + times h (blocks_by theirs gs)
times_by theirs [] gs h = omega arith
times_by theirs (f ∷ fs) gs h =
    let rest = times_by theirs fs gs h in
    omega (arith, times-append h (theirs f.at) (blocks_by theirs (fs ++ gs)), times-append h (theirs f.at) (blocks_by theirs fs))

-- the objects keep their values if their blocks are kept
pub hold_kept : (old new : List ℕ) (table : Table) → IsTable table → (theirs : ℕ → List ℕ) (fs : List Frozen) → ((h : ℕ) → 1 ≤ times h (blocks_by theirs fs) → KeepsBlock old new h)
    → HoldFrozen old table theirs fs → HoldFrozen new table theirs fs
hold_kept old new table valid theirs [] kept hold = tt
hold_kept old new table valid theirs (f ∷ fs) kept hold = (
  HoldsRoot-kept old new table valid (root_of_frozen f) (theirs f.at) (each_there (KeepsBlock old new) (theirs f.at) (λ h some. kept h (omega (arith, times-append h (theirs f.at) (blocks_by theirs fs))))) hold.0,
  hold_kept old new table valid theirs fs (λ h some. kept h (omega (arith, times-append h (theirs f.at) (blocks_by theirs fs)))) hold.1,
)

-- ---- the objects' blocks are kept, except for the counts

pub frozen_twice : (a b c : List ℕ) (theirs : ℕ → List ℕ) (fs : List Frozen) → KeepFrozen a b theirs fs → KeepFrozen b c theirs fs → KeepFrozen a c theirs fs
frozen_twice a b c theirs [] j k = tt
frozen_twice a b c theirs (f ∷ fs) j k = (one (theirs f.at) j.0 k.0, frozen_twice a b c theirs fs j.1 k.1)
  where
    one : (hs : List ℕ) → AllByRecursion (KeepsBlockAround a b f.at 4) hs → AllByRecursion (KeepsBlockAround b c f.at 4) hs → AllByRecursion (KeepsBlockAround a c f.at 4) hs
    one [] j k = tt
    one (h ∷ hs) j k = (around_twice a b c f.at 4 h j.0 k.0, one hs j.1 k.1)

-- the blocks of the objects were allocated and are kept
module _ (allocator : ℕ) (old new : List ℕ) (heap : IsHeap allocator old) (theirs : ℕ → List ℕ) where
  pub frozen_kept : (fs : List Frozen) → ((h : ℕ) → 1 ≤ times h (blocks_by theirs fs) → 1 ≤ times h (positions (live old))) → ((h : ℕ) → 1 ≤ times h (blocks_by theirs fs) → KeepsBlock old new h)
      → KeepFrozen old new theirs fs
  frozen_kept [] lives kept = tt
  frozen_kept (f ∷ fs) lives kept = (
    each_there (KeepsBlockAround old new f.at 4) (theirs f.at) (λ h some.
        let there_is : 1 ≤ times h (blocks_by theirs (f ∷ fs)) = omega (arith, times-append h (theirs f.at) (blocks_by theirs fs)) in
        let solid = (there (LiesIn old heap_start (length old)) h (positions (live old)) (live-lie old allocator heap) (lives h there_is)).size in
        around_kept old new f.at 4 h (omega arith) (kept h there_is)),
    frozen_kept fs (λ h some. lives h (omega (arith, times-append h (theirs f.at) (blocks_by theirs fs)))) (λ h some. kept h (omega (arith, times-append h (theirs f.at) (blocks_by theirs fs)))),
  )

-- ---- the objects that remain

-- a fact about the position of each object is a fact about the objects that remain
pub left_each : (Q : ℕ → Type 0) (gone : List Place) (fs : List Frozen) → AllByRecursion (λ f. Q f.at) fs → AllByRecursion (λ f. Q f.at) (left gone fs)
left_each Q gone [] a = tt
left_each Q gone (f ∷ fs) a = go (f.count - times_named f.at gone) (left_each Q (gone ++ names_in f.value) fs a.1) (left_each Q gone fs a.1)
  where
    go : (n : ℕ) → AllByRecursion (λ g. Q g.at) (left (gone ++ names_in f.value) fs) → AllByRecursion (λ g. Q g.at) (left gone fs)
        → AllByRecursion (λ g. Q g.at) (kept_with f n (left (gone ++ names_in f.value) fs) (left gone fs))
    go zero without with_it = without
    go (suc n) without with_it = (a.0, with_it)

pub released_each : (Q : ℕ → Type 0) (kept : List Place) (final : List Frozen) (names : List ℕ) (now : List Frozen) → IsReleasing kept final names now → AllByRecursion (λ f. Q f.at) now
    → AllByRecursion (λ f. Q f.at) final
released_each Q kept final names now r a = subst (AllByRecursion (λ f. Q f.at)) r.leaves (left_each Q r.pending now a)

pub left_fewer : (theirs : ℕ → List ℕ) (gone : List Place) (fs : List Frozen) (h : ℕ) → times h (blocks_by theirs (left gone fs)) ≤ times h (blocks_by theirs fs)
left_fewer theirs gone [] h = omega arith
left_fewer theirs gone (f ∷ fs) h = go (f.count - times_named f.at gone) (left_fewer theirs (gone ++ names_in f.value) fs h) (left_fewer theirs gone fs h)
  where
    go : (n : ℕ) → times h (blocks_by theirs (left (gone ++ names_in f.value) fs)) ≤ times h (blocks_by theirs fs) → times h (blocks_by theirs (left gone fs)) ≤ times h (blocks_by theirs fs)
        → times h (blocks_by theirs (kept_with f n (left (gone ++ names_in f.value) fs) (left gone fs))) ≤ times h (theirs f.at ++ blocks_by theirs fs)
    go zero without with_it = omega (arith, without, times-append h (theirs f.at) (blocks_by theirs fs))
    go (suc n) without with_it = omega (arith, with_it, times-append h (theirs f.at) (blocks_by theirs fs), times-append h (theirs f.at) (blocks_by theirs (left gone fs)))
