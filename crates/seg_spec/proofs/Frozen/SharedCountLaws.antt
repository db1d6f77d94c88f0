-- The counts of frozen objects after a cell was made to share one of them, or another object was
-- frozen.
use Rattle.std.proofs.Common.{◌≡◌, ℕ, suc, ◌<◌, ◌≤◌, List, [], ◌∷◌, ◌++◌, subst, arith}
use Rattle.std.specs.List.{AllByRecursion}
use Rattle.seg_spec.specs.Types.{Table}
use Rattle.seg_spec.specs.Value.{Value}
use Rattle.seg_spec.specs.Heap.{live}
use Rattle.seg_spec.specs.Block.{block_of}
use Rattle.seg_spec.specs.Reads.{Place}
use Rattle.seg_spec.specs.Sound.{times, positions}
use Rattle.seg_spec.specs.Frozen.{Frozen, blocks_by}
use Rattle.seg_spec.specs.Shared.{names_in, IsBelow, IsCounted, IsFalling, raised, raised_by, left}
use Rattle.seg_spec.proofs.Values.PlaceFrameLaws.{each_weaker, each_left, each_right}
use Rattle.seg_spec.proofs.Heap.LiveBlockLaws.{times-append}
use Rattle.seg_spec.proofs.Frozen.SharedLaws.{elsewhere, counted_again}
use Rattle.seg_spec.proofs.Frozen.PictureCountLaws.{falling_left}
use Rattle.seg_spec.proofs.Frozen.OneMoreCellLaws.{below_raised, shared, one_frozen}
use Rattle.seg_spec.proofs.Frozen.CountIncreaseLaws.{falling_raised, counted_moved}
use Rattle.seg_spec.specs.Sharing.{FrozenBeside, frozen_now}
use Rattle.seg_spec.proofs.Frozen.OneMoreObjectLaws.{not_there, stays_left}

below_all : (next : ℕ) (names : List Place) (fs : List Frozen) (q : Place) → IsBelow next fs q → IsBelow next (raised_by names fs) q
below_all next [] fs q b = b
below_all next (n ∷ names) fs q b = below_raised next n.at (raised_by names fs) q (below_all next names fs q b)

-- more cells were counted
raised_all : (next : ℕ) (names xs kept : List Place) (fs : List Frozen) → IsFalling fs → IsCounted next fs (xs ++ kept) → AllByRecursion (IsBelow next fs) names
    → IsFalling (raised_by names fs) × IsCounted next (raised_by names fs) (xs ++ (names ++ kept))
raised_all next [] xs kept fs falling counted below = (falling, counted)
raised_all next (q ∷ names) xs kept fs falling counted below =
    let r = raised_all next names xs kept fs falling counted below.1 in
    let more = shared next (raised_by names fs) (xs ++ (names ++ kept)) q r.1 (below_all next names fs q below.0) in
    (falling_raised q.at (raised_by names fs) r.0, counted_moved next q xs (names ++ kept) (raised q.at (raised_by names fs)) more)

-- a cell that contained v now contains w
pub shared_counts : (next : ℕ) (v w : Value) (kept : List Place) (now : List Frozen) → IsFalling now → IsCounted next now (names_in v ++ kept) → AllByRecursion (IsBelow next now) (names_in w)
    → IsFalling (left (names_in v) (raised_by (names_in w) now)) × IsCounted next (left (names_in v) (raised_by (names_in w) now)) (names_in w ++ kept)
shared_counts next v w kept now falling counted below =
    let r = raised_all next (names_in w) (names_in v) kept now falling counted below in
    (falling_left (names_in v) (raised_by (names_in w) now) r.0, counted_again next (names_in v) (names_in w ++ kept) (raised_by (names_in w) now) r.0 r.1)

-- an object with the value w was frozen, and a cell that contained v now points to it
pub frozen_counts : (bytes : List ℕ) (table : Table) (besides : List ℕ) (next : ℕ) (theirs : ℕ → List ℕ) (T p : ℕ) (v w : Value) (kept : List Place) (now : List Frozen)
    → FrozenBeside bytes table besides (names_in w ++ (names_in v ++ kept)) next theirs now
    → times (block_of p) (positions (live bytes)) ≡ 0
    → IsFalling (frozen_now p T next w ∷ left (names_in v) now) × IsCounted (suc next) (frozen_now p T next w ∷ left (names_in v) now) (record { at = p; type = T } ∷ kept)
frozen_counts bytes table besides next theirs T p v w kept now b free =
    let apart = not_there bytes table theirs p now (omega (arith, b.owned (block_of p), times-append (block_of p) besides (blocks_by theirs now), free)) b.holds in
    let q : Place = record { at = p; type = T } in
    let falling : IsFalling (frozen_now p T next w ∷ now) = (each_weaker (λ (g : Frozen). g.number < next) (λ (g : Frozen). g.number ≤ next) (λ g l. omega arith) now b.counted.numbered, b.falling) in
    let counted = counted_moved (suc next) q (names_in v) kept (frozen_now p T next w ∷ now) (one_frozen next p T w now (names_in v ++ kept) apart b.counted) in
    let below = each_left (IsBelow next now) (names_in v) kept (each_right (IsBelow next now) (names_in w) (names_in v ++ kept) b.counted.named) in
    let is = stays_left p T next w (names_in v) now (elsewhere p next now (names_in v) apart below) in
    (subst IsFalling is (falling_left (names_in v) (frozen_now p T next w ∷ now) falling), subst (λ fs. IsCounted (suc next) fs (q ∷ kept)) is (counted_again (suc next) (names_in v) (q ∷ kept) (frozen_now p T next w ∷ now) falling counted))
