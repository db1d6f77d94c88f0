-- If no number was given to an object so far, no object is frozen.
use Rattle.std.proofs.Common.{◌≡◌, ◌<◌, [], ◌∷◌, List, refl, arith}
use Rattle.std.specs.List.{AllByRecursion}
use Rattle.seg_spec.specs.Frozen.{Frozen}
use Rattle.seg_spec.specs.Sound.{Picture}
use Rattle.seg_spec.specs.Counting.{AreCounted}

pub none_numbered : (picture : Picture) → AreCounted 0 picture → picture.frozen ≡ []
none_numbered picture c = go picture.frozen c.counted.numbered
  where
    go : (fs : List Frozen) → AllByRecursion (λ (f : Frozen). f.number < 0) fs → fs ≡ []
    go [] a = refl
    go (f ∷ fs) a = absurd (omega (arith, a.0))
