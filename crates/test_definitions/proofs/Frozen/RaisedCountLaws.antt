-- Frozen objects of which some counts were raised.
use Rattle.std.proofs.Common.{◌≡◌, ℕ, suc, ◌≤◌, Bool, true, false, List, [], ◌∷◌, ◌++◌, map, refl, sym, ap, ◌∙◌, subst, eqb, cond}
use Rattle.seg_spec.specs.Reads.{Place}
use Rattle.seg_spec.specs.Frozen.{Frozen, blocks_by}
use Rattle.seg_spec.specs.Sound.{times}
use Rattle.seg_spec.specs.Shared.{with_count, raised, raised_by}
use Rattle.test_definitions.proofs.Frozen.FreedBlockLaws.{at_times}
use Rattle.test_definitions.proofs.Frozen.FrozenOrderLaws.{IsOneOf}
use Rattle.test_definitions.proofs.Frozen.FrozenReleasedLaws.{Based, each_based}
use Rattle.test_definitions.proofs.Rows.OneFrozenLaws.{was_raised}

-- each has its position and value
pub raised_based : (names : List Place) (fs : List Frozen) (f : Frozen) → IsOneOf f (raised_by names fs) → Based f fs
raised_based [] fs f i = each_based fs f i
raised_based (q ∷ names) fs f i =
    let w = was_raised q.at f (raised_by names fs) i in
    let o = raised_based names fs w.before w.among in
    record { object = o.object; among = o.among; at_is = o.at_is ∙ sym w.at; value_is = o.value_is ∙ sym w.value }

raised_at : (p : ℕ) (fs : List Frozen) → map (λ (f : Frozen). f.at) (raised p fs) ≡ map (λ (f : Frozen). f.at) fs
raised_at p [] = refl
raised_at p (f ∷ fs) =
    let first = one (eqb f.at p) in
    let rest = raised_at p fs in
    λ j. first j ∷ rest j
  where
    one : (b : Bool) → (cond b (with_count f (suc f.count)) f).at ≡ f.at
    one true = refl
    one false = refl

pub raised_by_at : (names : List Place) (fs : List Frozen) → map (λ (f : Frozen). f.at) (raised_by names fs) ≡ map (λ (f : Frozen). f.at) fs
raised_by_at [] fs = refl
raised_by_at (q ∷ names) fs = raised_at q.at (raised_by names fs) ∙ raised_by_at names fs

pub raised_there : (names : List Place) (fs : List Frozen) (f : Frozen) → IsOneOf f fs → 1 ≤ times f.at (map (λ (g : Frozen). g.at) (raised_by names fs))
raised_there names fs f i = subst (λ ps. 1 ≤ times f.at ps) (sym (raised_by_at names fs)) (at_times f fs i)

by_positions : (theirs : ℕ → List ℕ) → List ℕ → List ℕ
by_positions theirs [] = []
by_positions theirs (p ∷ ps) = theirs p ++ by_positions theirs ps

blocks_at : (theirs : ℕ → List ℕ) (fs : List Frozen) → blocks_by theirs fs ≡ by_positions theirs (map (λ (f : Frozen). f.at) fs)
unfolding by_positions
blocks_at theirs [] = refl
blocks_at theirs (f ∷ fs) = ap (λ xs. theirs f.at ++ xs) (blocks_at theirs fs)

-- they have the same blocks
pub raised_blocks : (theirs : ℕ → List ℕ) (names : List Place) (fs : List Frozen) → blocks_by theirs (raised_by names fs) ≡ blocks_by theirs fs
raised_blocks theirs names fs = blocks_at theirs (raised_by names fs) ∙ ap (by_positions theirs) (raised_by_at names fs) ∙ sym (blocks_at theirs fs)
