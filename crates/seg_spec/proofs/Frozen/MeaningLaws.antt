-- References keep their meaning if frozen objects are freed, if more cells point to the remaining
-- ones, and if an object is added before the others.
use Rattle.std.proofs.Common.{◌≡◌, ◌≢◌, ℕ, zero, suc, ◌+◌, ◌-◌, ◌<◌, inl, inr, Bool, true, false, List, [], ◌∷◌, ◌++◌, Some, refl, sym, ◌∙◌, ap, subst, arith}
use Rattle.std.specs.Prelude.{◌==◌, if◌then◌else◌}
use Rattle.std.specs.List.{AllByRecursion}
use Rattle.seg_spec.specs.Value.{Full}
use Rattle.seg_spec.specs.Reads.{Place}
use Rattle.seg_spec.specs.Frozen.{Frozen}
use Rattle.seg_spec.specs.Shared.{names_in, IsBelow, AreDistinct, IsCounted, IsFalling, with_count, raised, raised_by, kept_with, left, times_named, replaced, value_at_position, owner_by, meaning}
use Rattle.seg_spec.proofs.Values.PlaceFrameLaws.{each_weaker}
use Rattle.seg_spec.proofs.Frozen.SharedLaws.{below_elsewhere, NamesLater, names_later, falls_among}
use Rattle.seg_spec.proofs.Frozen.OneMoreCellLaws.{distinct_raised}
use Rattle.seg_spec.proofs.Frozen.UnfoldedTreeLaws.{same_tree, found_here, found_after, deep_enough, means_among, means_the_same}

-- each object points only to objects with lower numbers
abbrev NameLower : List Frozen → Type 0
NameLower fs = AllByRecursion (λ (f : Frozen). AllByRecursion (IsBelow f.number fs) (names_in f.value)) fs

-- ---- references below a number

pub below_weaker : (n m : ℕ) (fs : List Frozen) (q : Place) → AllByRecursion (λ (f : Frozen). f.number < m) fs → IsBelow n fs q → IsBelow m fs q
below_weaker n m [] q a h = absurd h
below_weaker n m (f ∷ fs) q a (inl h) = inl (h.0, h.1, a.0)
below_weaker n m (f ∷ fs) q a (inr h) = inr (below_weaker n m fs q a.1 h)

below_before : (n : ℕ) (gone : List Place) (fs : List Frozen) (q : Place) → IsBelow n (left gone fs) q → IsBelow n fs q
below_before n gone [] q h = absurd h
below_before n gone (f ∷ fs) q h = go (f.count - times_named f.at gone) (below_before n (gone ++ names_in f.value) fs q) (below_before n gone fs q) h
  where
    go : (k : ℕ) → (IsBelow n (left (gone ++ names_in f.value) fs) q → IsBelow n fs q) → (IsBelow n (left gone fs) q → IsBelow n fs q)
        → IsBelow n (kept_with f k (left (gone ++ names_in f.value) fs) (left gone fs)) q → IsBelow n (f ∷ fs) q
    go zero goes stays b = inr (goes b)
    go (suc k) goes stays (inl b) = inl b
    go (suc k) goes stays (inr b) = inr (stays b)

below_raised_one : (n p : ℕ) (fs : List Frozen) (q : Place) → IsBelow n (raised p fs) q → IsBelow n fs q
below_raised_one n p [] q h = h
below_raised_one n p (f ∷ fs) q (inl h) = inl (go (f.at == p) h)
  where
    Here : Frozen → Type 0
    Here g = (g.at ≡ q.at) × (g.type ≡ q.type) × (g.number < n)

    go : (b : Bool) → Here (if b then with_count f (suc f.count) else f) → Here f
    go true k = k
    go false k = k
below_raised_one n p (f ∷ fs) q (inr h) = inr (below_raised_one n p fs q h)

below_raised_by : (n : ℕ) (names : List Place) (fs : List Frozen) (q : Place) → IsBelow n (raised_by names fs) q → IsBelow n fs q
below_raised_by n [] fs q h = h
below_raised_by n (r ∷ names) fs q h = below_raised_by n names fs q (below_raised_one n r.at (raised_by names fs) q h)

-- ---- more cells

distinct_raised_by : (names : List Place) (fs : List Frozen) → AreDistinct fs → AreDistinct (raised_by names fs)
distinct_raised_by [] fs d = d
distinct_raised_by (r ∷ names) fs d = distinct_raised r.at (raised_by names fs) (distinct_raised_by names fs d)

value_raised : (p : ℕ) (fs : List Frozen) (at : ℕ) → value_at_position (raised p fs) at ≡ value_at_position fs at
value_raised p [] at = refl
value_raised p (f ∷ fs) at = go (f.at == p) ∙ ap (λ o. if f.at == at then Some f.value else o) (value_raised p fs at)
  where
    go : (b : Bool) → value_at_position ((if b then with_count f (suc f.count) else f) ∷ raised p fs) at ≡ value_at_position (f ∷ raised p fs) at
    go true = refl
    go false = refl

value_raised_by : (names : List Place) (fs : List Frozen) (at : ℕ) → value_at_position (raised_by names fs) at ≡ value_at_position fs at
value_raised_by [] fs at = refl
value_raised_by (r ∷ names) fs at = value_raised r.at (raised_by names fs) at ∙ value_raised_by names fs at

-- the meaning doesn't depend on counts
meaning_raised : (names : List Place) (fs : List Frozen) (n at : ℕ) → meaning n (raised_by names fs) at ≡ meaning n fs at
unfolding meaning
meaning_raised names fs zero at = refl
meaning_raised names fs (suc n) at =
    ap (owner_by (λ v. replaced (meaning n (raised_by names fs)) v)) (value_raised_by names fs at)
    ∙ (λ i. owner_by (λ v. replaced (λ p. meaning_raised names fs n p i) v) (value_at_position fs at))

-- ---- objects that remain

module _ (next : ℕ) (fs : List Frozen) {cells : List Place} (c : IsCounted next fs cells) where
  pub all_mean : (n : ℕ) (q : Place) → IsBelow n fs q → meaning next fs q.at ≡ meaning n fs q.at
  all_mean n q b =
      let deep = deep_enough fs c.distinct c.falling in
      deep next (n + next) q (omega arith) (below_weaker n next fs q c.numbered b) ∙ sym (deep n (n + next) q (omega arith) b)

  -- a reference to an object that remains keeps its meaning
  pub left_means : (names gone : List Place) (gs : List Frozen) → gs ≡ left gone (raised_by names fs) → AreDistinct gs → NameLower gs → (n : ℕ) (q : Place) → IsBelow n gs q → meaning next fs q.at ≡ meaning n gs q.at
  left_means names gone gs is d l n q b = subst (λ hs. AreDistinct hs → NameLower hs → IsBelow n hs q → meaning next fs q.at ≡ meaning n hs q.at) (sym is) go d l b
    where
      more : List Frozen
      more = raised_by names fs

      go : AreDistinct (left gone more) → NameLower (left gone more) → IsBelow n (left gone more) q → meaning next fs q.at ≡ meaning n (left gone more) q.at
      go distinct lower below =
          all_mean n q (below_raised_by n names fs q (below_before n gone more q below))
          ∙ sym (means_the_same gone more (distinct_raised_by names fs c.distinct) distinct lower n q below ∙ meaning_raised names fs n q.at)

  -- ---- an object before the ones that remain

  module _ (f : Frozen) (gone : List Place) (gs : List Frozen) (is : gs ≡ f ∷ left gone fs) (distinct : AreDistinct gs) (falling : IsFalling gs) (lower : NameLower gs) where
    abbrev stay : List Frozen
    stay = left gone fs

    apart : AreDistinct (f ∷ stay)
    apart = subst AreDistinct is distinct

    later : NamesLater (f ∷ stay)
    later = subst NamesLater is (names_later gs falling lower)

    lower_stay : NameLower stay
    unfolding NamesLater
    lower_stay = falls_among stay later.1

    stays : (n : ℕ) (q : Place) → IsBelow n stay q → meaning next fs q.at ≡ meaning n (f ∷ stay) q.at
    stays n q b =
        left_means [] gone stay refl apart.1 lower_stay n q b
        ∙ means_among (f ∷ stay) stay apart.1 lower_stay (λ k r h. sym (found_after f stay r.at (λ e. below_elsewhere f.at k stay r apart.0 h (sym e)))) n q b

    -- a reference to one of the others keeps its meaning
    pub others_mean : (n : ℕ) (q : Place) → IsBelow n gs q → q.at ≢ f.at → meaning next fs q.at ≡ meaning n gs q.at
    others_mean n q b other = subst (λ hs. IsBelow n hs q → meaning next fs q.at ≡ meaning n hs q.at) (sym is) go b
      where
        go : IsBelow n (f ∷ stay) q → meaning next fs q.at ≡ meaning n (f ∷ stay) q.at
        go (inl h) = absurd (other (sym h.0))
        go (inr h) = stays n q h

    -- a reference to the new object means the object's value
    pub first_means : meaning (suc f.number) gs f.at ≡ Full (replaced (meaning next fs) f.value)
    unfolding meaning NamesLater
    first_means =
        subst (λ hs. meaning (suc f.number) hs f.at ≡ Full (replaced (meaning next fs) f.value)) (sym is)
        (ap (owner_by (λ v. replaced (meaning f.number (f ∷ stay)) v)) (found_here f stay f.at refl)
        ∙ ap Full (sym (same_tree (meaning next fs) (meaning f.number (f ∷ stay)) f.value
        (each_weaker (IsBelow f.number stay) (λ (q : Place). meaning next fs q.at ≡ meaning f.number (f ∷ stay) q.at) (λ q b. stays f.number q b) (names_in f.value) later.0))))
