-- A request without a large enough free block, and one with such a block.
use Rattle.std.proofs.Common.{◌≡◌, ◌≤◌, List, [], ◌∷◌, ◌++◌, length, Some, refl, ap, subst, lit≤, arith}
use Rattle.std.proofs.lemmas.List.{length-append}
use Rattle.seg_spec.specs.Heap.{span}
use Rattle.seg_spec.specs.Demand.{Ask, units_for, growth, NoRoom, IsDenied}
use Rattle.seg_spec.proofs.Heap.OutOfMemoryLaws.{denied, no_room}

pub second_is_denied : IsDenied 0 [] 752 (units_for 3 ∷ units_for 3 ∷ [])
second_is_denied = denied 0 [] 752 (units_for 3 ∷ units_for 3 ∷ []) refl

only : (x : Ask) (before : List Ask) (y : Ask) (after : List Ask) → x ∷ [] ≡ before ++ y ∷ after → x ≡ y
only x [] y after e = let f : x ≡ y = cc in f
only x (b ∷ before) y after e = absurd (omega (arith, ap length e, length-append before (y ∷ after)))

pub growth_is_granted : IsDenied 0 (span 704 2 ∷ []) 800 (growth (Some 704) 8 2 3 ∷ []) → ⊥
growth_is_granted d =
    let same = only (growth (Some 704) 8 2 3) d.before d.ask d.after d.asks_are in
    let none : NoRoom 0 (span 704 2 ∷ []) 800 (growth (Some 704) 8 2 3 ∷ []) = no_room 0 (span 704 2 ∷ []) 800 (growth (Some 704) 8 2 3 ∷ []) d (subst (λ (a : Ask). a.limit ≤ a.preferred) same (lit≤ tt)) in
    cc
