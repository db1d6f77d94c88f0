-- Frozen objects: those that remain after cells were released.
use Rattle.std.proofs.Common.{◌≡◌, ◌≢◌, ℕ, zero, suc, ◌+◌, ◌-◌, ◌<◌, ◌≤◌, inl, inr, List, [], ◌∷◌, ◌++◌, map, refl, sym, ap, ◌∙◌, subst, arith}
use Rattle.std.specs.List.{AllByRecursion}
use Rattle.std.proofs.lemmas.List.{map-append}
use Rattle.seg_spec.specs.Reads.{Place}
use Rattle.seg_spec.specs.Sound.{times}
use Rattle.seg_spec.specs.Frozen.{Frozen}
use Rattle.seg_spec.specs.Shared.{names_in, names_of, times_named, IsBelow, AreDistinct, IsCounted, IsFalling, with_count, kept_with, left, freed_with, freed}
use Rattle.seg_spec.proofs.Heap.LiveBlockLaws.{times-append, times-same, times-other}
use Rattle.seg_spec.proofs.Values.PlaceFrameLaws.{each_weaker, each_left, each_right}

-- a target whose number is less than n is one whose number is less than m, if n is at most m
pub wider : (n m : ℕ) (fs : List Frozen) (q : Place) → n ≤ m → IsBelow n fs q → IsBelow m fs q
wider n m [] q l h = h
wider n m (f ∷ fs) q l (inl h) = inl (h.0, h.1, (let less = h.2 in omega arith))
wider n m (f ∷ fs) q l (inr h) = inr (wider n m fs q l h)

-- ---- the number of cells that point to an object

pub named-append : (p : ℕ) (xs ys : List Place) → times_named p (xs ++ ys) ≡ times_named p xs + times_named p ys
named-append p xs ys = ap (times p) (map-append (λ (q : Place). q.at) xs ys) ∙ times-append p (map (λ (q : Place). q.at) xs) (map (λ (q : Place). q.at) ys)

named_here : (p : ℕ) (q : Place) (qs : List Place) → q.at ≡ p → 1 ≤ times_named p (q ∷ qs)
named_here p q qs e = subst (λ x. 1 ≤ times p (x ∷ map (λ (r : Place). r.at) qs)) (sym e) (let n = times-same p (map (λ (r : Place). r.at) qs) in omega arith)

-- no target is at p if none is counted there
not_none : (p : ℕ) (qs : List Place) → times_named p qs ≡ 0 → AllByRecursion (λ (q : Place). q.at ≢ p) qs
not_none p [] e = tt
not_none p (q ∷ qs) e =
    let fewer : times_named p qs ≤ times_named p (q ∷ qs) = omega arith in
    ((λ same. let n = named_here p q qs same in absurd (omega arith)), not_none p qs (omega arith))

unnamed : (p : ℕ) (qs : List Place) → AllByRecursion (λ (q : Place). q.at ≢ p) qs → times_named p qs ≡ 0
unnamed p [] a = refl
unnamed p (q ∷ qs) a = times-other p q.at (map (λ (r : Place). r.at) qs) a.0 ∙ unnamed p qs a.1

-- ---- each object points only to objects after it

unfoldable pub NamesLater : List Frozen → Type 0
NamesLater [] = Unit {0}
NamesLater (f ∷ fs) = AllByRecursion (IsBelow f.number fs) (names_in f.value) × NamesLater fs

-- a target whose number is less than n isn't an object whose number is n or more
below_later : (n : ℕ) (f : Frozen) (fs : List Frozen) (q : Place) → n ≤ f.number → IsBelow n (f ∷ fs) q → IsBelow n fs q
below_later n f fs q l (inl h) = absurd (let less = h.2 in omega arith)
below_later n f fs q l (inr h) = h

later_each : (n : ℕ) (f : Frozen) (fs : List Frozen) (qs : List Place) → n ≤ f.number → AllByRecursion (IsBelow n (f ∷ fs)) qs → AllByRecursion (IsBelow n fs) qs
later_each n f fs [] l a = tt
later_each n f fs (q ∷ qs) l a = (below_later n f fs q l a.0, later_each n f fs qs l a.1)

later_all : (f : Frozen) (fs gs : List Frozen) → AllByRecursion (λ (g : Frozen). g.number ≤ f.number) gs → AllByRecursion (λ (g : Frozen). AllByRecursion (IsBelow g.number (f ∷ fs)) (names_in g.value)) gs
    → AllByRecursion (λ (g : Frozen). AllByRecursion (IsBelow g.number fs) (names_in g.value)) gs
later_all f fs [] l a = tt
later_all f fs (g ∷ gs) l a = (later_each g.number f fs (names_in g.value) l.0 a.0, later_all f fs gs l.1 a.1)

pub names_later : (fs : List Frozen) → IsFalling fs → AllByRecursion (λ (f : Frozen). AllByRecursion (IsBelow f.number fs) (names_in f.value)) fs → NamesLater fs
unfolding NamesLater
names_later [] l a = tt
names_later (f ∷ fs) l a = (later_each f.number f fs (names_in f.value) (omega arith) a.0, names_later fs l.1 (later_all f fs fs l.0 a.1))

-- a target among objects at other positions isn't at p
pub below_elsewhere : (p n : ℕ) (fs : List Frozen) (q : Place) → AllByRecursion (λ (g : Frozen). g.at ≢ p) fs → IsBelow n fs q → q.at ≢ p
below_elsewhere p n [] q a h = absurd h
below_elsewhere p n (f ∷ fs) q a (inl h) = λ e. a.0 (h.0 ∙ e)
below_elsewhere p n (f ∷ fs) q a (inr h) = below_elsewhere p n fs q a.1 h

pub elsewhere : (p n : ℕ) (fs : List Frozen) (qs : List Place) → AllByRecursion (λ (g : Frozen). g.at ≢ p) fs → AllByRecursion (IsBelow n fs) qs → times_named p qs ≡ 0
elsewhere p n fs [] a b = refl
elsewhere p n fs (q ∷ qs) a b = times-other p q.at (map (λ (r : Place). r.at) qs) (below_elsewhere p n fs q a b.0) ∙ elsewhere p n fs qs a b.1

later_elsewhere : (p : ℕ) (fs : List Frozen) → AllByRecursion (λ (g : Frozen). g.at ≢ p) fs → NamesLater fs → times_named p (names_of fs) ≡ 0
unfolding NamesLater
later_elsewhere p [] a l = refl
later_elsewhere p (f ∷ fs) a l =
    named-append p (names_in f.value) (names_of fs)
    ∙ (let first = elsewhere p f.number fs (names_in f.value) a.1 l.0 in let rest = later_elsewhere p fs a.1 l.1 in omega arith)

-- neither the first object nor the objects after it point to the first
pub first_unnamed : (f : Frozen) (fs : List Frozen) → AllByRecursion (λ (g : Frozen). g.at ≢ f.at) fs → NamesLater (f ∷ fs) → times_named f.at (names_of (f ∷ fs)) ≡ 0
unfolding NamesLater
first_unnamed f fs a l =
    named-append f.at (names_in f.value) (names_of fs)
    ∙ (let own = elsewhere f.at f.number fs (names_in f.value) a l.0 in let rest = later_elsewhere f.at fs a l.1 in omega arith)

-- ---- objects that remain are the same, except for their counts

module _ (P : Frozen → Type 0) (whatever : (f : Frozen) (n : ℕ) → P f → P (with_count f n)) where
  pub left_each : (gone : List Place) (fs : List Frozen) → AllByRecursion P fs → AllByRecursion P (left gone fs)
  left_each gone [] a = tt
  left_each gone (f ∷ fs) a = go (f.count - times_named f.at gone) (left_each (gone ++ names_in f.value) fs a.1) (left_each gone fs a.1)
    where
      go : (n : ℕ) → AllByRecursion P (left (gone ++ names_in f.value) fs) → AllByRecursion P (left gone fs) → AllByRecursion P (kept_with f n (left (gone ++ names_in f.value) fs) (left gone fs))
      go zero without with_it = without
      go (suc n) without with_it = (whatever f (suc n) a.0, with_it)

-- ---- the objects that remain

-- each object counts these cells: the released cells, the remaining cells, and the cells in the
-- objects themselves
pub CountsAll : List Place → List Place → List Frozen → Type 0
CountsAll gone stay fs = AllByRecursion (λ (f : Frozen). f.count ≡ times_named f.at gone + times_named f.at stay + times_named f.at (names_of fs)) fs

pub record Left (stay : List Place) (fs rs : List Frozen) : Type 0 where
  pub distinct : AreDistinct rs
  pub later : NamesLater rs
  pub some : AllByRecursion (λ (r : Frozen). 1 ≤ r.count) rs
  pub counts : AllByRecursion (λ (r : Frozen). r.count ≡ times_named r.at stay + times_named r.at (names_of rs)) rs
  -- the target of a remaining cell remains
  pub stays : (n : ℕ) → AllByRecursion (λ (q : Place). IsBelow n fs q → IsBelow n rs q) stay

counts_more : (gone stay gone' stay' : List Place) (f : Frozen) (fs gs : List Frozen)
    → ((p : ℕ) → times_named p gone' + times_named p stay' ≡ times_named p gone + times_named p stay + times_named p (names_in f.value))
    → AllByRecursion (λ (g : Frozen). g.count ≡ times_named g.at gone + times_named g.at stay + times_named g.at (names_of (f ∷ fs))) gs
    → AllByRecursion (λ (g : Frozen). g.count ≡ times_named g.at gone' + times_named g.at stay' + times_named g.at (names_of fs)) gs
counts_more gone stay gone' stay' f fs [] same a = tt
counts_more gone stay gone' stay' f fs (g ∷ gs) same a =
    ((let both = same g.at in let parts = named-append g.at (names_in f.value) (names_of fs) in let now = a.0 in omega arith), counts_more gone stay gone' stay' f fs gs same a.1)

regrouped : (stay more : List Place) (rs : List Frozen) (gs : List Frozen)
    → AllByRecursion (λ (r : Frozen). r.count ≡ times_named r.at (stay ++ more) + times_named r.at (names_of rs)) gs
    → AllByRecursion (λ (r : Frozen). r.count ≡ times_named r.at stay + times_named r.at (more ++ names_of rs)) gs
regrouped stay more rs [] a = tt
regrouped stay more rs (g ∷ gs) a =
    ((let x = named-append g.at stay more in let y = named-append g.at more (names_of rs) in let now = a.0 in omega arith), regrouped stay more rs gs a.1)

stays_on : (n : ℕ) (f : Frozen) (fs rs : List Frozen) (qs : List Place) → times_named f.at qs ≡ 0 → AllByRecursion (λ (q : Place). IsBelow n fs q → IsBelow n rs q) qs
    → AllByRecursion (λ (q : Place). IsBelow n (f ∷ fs) q → IsBelow n rs q) qs
stays_on n f fs rs [] none a = tt
stays_on n f fs rs (q ∷ qs) none a =
    let others = not_none f.at (q ∷ qs) none in
    (step, stays_on n f fs rs qs (unnamed f.at qs others.1) a.1)
  where
    step : IsBelow n (f ∷ fs) q → IsBelow n rs q
    step (inl h) = absurd ((not_none f.at (q ∷ qs) none).0 (sym h.0))
    step (inr h) = a.0 h

stays_with : (n k : ℕ) (f : Frozen) (fs rs : List Frozen) (qs : List Place) → AllByRecursion (λ (q : Place). IsBelow n fs q → IsBelow n rs q) qs
    → AllByRecursion (λ (q : Place). IsBelow n (f ∷ fs) q → IsBelow n (with_count f k ∷ rs) q) qs
stays_with n k f fs rs [] a = tt
stays_with n k f fs rs (q ∷ qs) a = (step, stays_with n k f fs rs qs a.1)
  where
    step : IsBelow n (f ∷ fs) q → IsBelow n (with_count f k ∷ rs) q
    step (inl h) = inl h
    step (inr h) = inr (a.0 h)

-- all of these targets remain
all_stay : (n : ℕ) (fs rs : List Frozen) (qs : List Place) → AllByRecursion (λ (q : Place). IsBelow n fs q → IsBelow n rs q) qs → AllByRecursion (IsBelow n fs) qs → AllByRecursion (IsBelow n rs) qs
all_stay n fs rs [] a b = tt
all_stay n fs rs (q ∷ qs) a b = (a.0 b.0, all_stay n fs rs qs a.1 b.1)

pub what_is_left : (gone stay : List Place) (fs : List Frozen) → AreDistinct fs → NamesLater fs → CountsAll gone stay fs → Left stay fs (left gone fs)
unfolding NamesLater CountsAll
what_is_left gone stay [] d l c = record { distinct = tt; later = tt; some = tt; counts = tt; stays = λ n. nothing n stay }
  where
    nothing : (n : ℕ) (qs : List Place) → AllByRecursion (λ (q : Place). IsBelow n [] q → IsBelow n [] q) qs
    nothing n [] = tt
    nothing n (q ∷ qs) = ((λ h. h), nothing n qs)
what_is_left gone stay (f ∷ fs) d l c =
    go (f.count - times_named f.at gone) refl (λ more. what_is_left (gone ++ names_in f.value) stay fs d.1 l.1 more) (λ more. what_is_left gone (stay ++ names_in f.value) fs d.1 l.1 more)
  where
    go : (n : ℕ) → f.count - times_named f.at gone ≡ n → (CountsAll (gone ++ names_in f.value) stay fs → Left stay fs (left (gone ++ names_in f.value) fs))
        → (CountsAll gone (stay ++ names_in f.value) fs → Left (stay ++ names_in f.value) fs (left gone fs)) → Left stay (f ∷ fs) (kept_with f n (left (gone ++ names_in f.value) fs) (left gone fs))
    go zero e goes stays_too =
        let r = goes (counts_more gone stay (gone ++ names_in f.value) stay f fs fs (λ p. let n = named-append p gone (names_in f.value) in omega arith) c.1) in
        let none : times_named f.at stay ≡ 0 = (let now = c.0 in let z = first_unnamed f fs d.0 l in omega arith) in
        record { distinct = r.distinct; later = r.later; some = r.some; counts = r.counts; stays = λ n. stays_on n f fs (left (gone ++ names_in f.value) fs) stay none (r.stays n) }
    go (suc n) e goes stays_too =
        let r = stays_too (counts_more gone stay gone (stay ++ names_in f.value) f fs fs (λ p. let m = named-append p stay (names_in f.value) in omega arith) c.1) in
        let apart = left_each (λ (g : Frozen). g.at ≢ f.at) (λ g k h. h) gone fs d.0 in
        let mine = all_stay f.number fs (left gone fs) (names_in f.value) (each_right _ stay (names_in f.value) (r.stays f.number)) l.0 in
        let inside : times_named f.at (names_in f.value ++ names_of (left gone fs)) ≡ 0 = first_unnamed f (left gone fs) apart (mine, r.later) in
        record {
          distinct = (apart, r.distinct);
          later = (mine, r.later);
          some = (omega arith, r.some);
          counts = ((let now = c.0 in let z = first_unnamed f fs d.0 l in omega (arith, inside)), regrouped stay (names_in f.value) (left gone fs) (left gone fs) r.counts);
          stays = λ k. stays_with k (suc n) f fs (left gone fs) stay (each_left _ stay (names_in f.value) (r.stays k));
        }

-- ---- cells are released

later_whole : (f : Frozen) (fs gs : List Frozen) → AllByRecursion (λ (g : Frozen). AllByRecursion (IsBelow g.number fs) (names_in g.value)) gs
    → AllByRecursion (λ (g : Frozen). AllByRecursion (IsBelow g.number (f ∷ fs)) (names_in g.value)) gs
later_whole f fs [] a = tt
later_whole f fs (g ∷ gs) a = (each_weaker (IsBelow g.number fs) (IsBelow g.number (f ∷ fs)) (λ q h. inr h) (names_in g.value) a.0, later_whole f fs gs a.1)

pub falls_among : (fs : List Frozen) → NamesLater fs → AllByRecursion (λ (f : Frozen). AllByRecursion (IsBelow f.number fs) (names_in f.value)) fs
unfolding NamesLater
falls_among [] l = tt
falls_among (f ∷ fs) l = (each_weaker (IsBelow f.number fs) (IsBelow f.number (f ∷ fs)) (λ q h. inr h) (names_in f.value) l.0, later_whole f fs fs (falls_among fs l.1))

counts_apart : (gone kept : List Place) (fs gs : List Frozen) → AllByRecursion (λ (f : Frozen). f.count ≡ times_named f.at ((gone ++ kept) ++ names_of fs)) gs
    → AllByRecursion (λ (f : Frozen). f.count ≡ times_named f.at gone + times_named f.at kept + times_named f.at (names_of fs)) gs
counts_apart gone kept fs [] a = tt
counts_apart gone kept fs (g ∷ gs) a =
    ((let x = named-append g.at (gone ++ kept) (names_of fs) in let y = named-append g.at gone kept in let now = a.0 in omega arith), counts_apart gone kept fs gs a.1)

counts_together : (kept : List Place) (fs gs : List Frozen) → AllByRecursion (λ (f : Frozen). f.count ≡ times_named f.at kept + times_named f.at (names_of fs)) gs
    → AllByRecursion (λ (f : Frozen). f.count ≡ times_named f.at (kept ++ names_of fs)) gs
counts_together kept fs [] a = tt
counts_together kept fs (g ∷ gs) a = ((let x = named-append g.at kept (names_of fs) in let now = a.0 in omega arith), counts_together kept fs gs a.1)

module _ (next : ℕ) (gone kept : List Place) (fs : List Frozen) (falling : IsFalling fs) (counted : IsCounted next fs (gone ++ kept)) where
  rest : Left kept fs (left gone fs)
  unfolding CountsAll
  rest = what_is_left gone kept fs counted.distinct (names_later fs falling counted.falling) (counts_apart gone kept fs fs counted.counts)

  -- the objects that remain count the remaining cells
  pub counted_again : IsCounted next (left gone fs) kept
  counted_again = record {
    distinct = rest.distinct;
    numbered = left_each (λ (f : Frozen). f.number < next) (λ f n h. h) gone fs counted.numbered;
    named = all_stay next fs (left gone fs) kept (rest.stays next) (each_right _ gone kept counted.named);
    falling = falls_among (left gone fs) rest.later;
    some = rest.some;
    counts = counts_together kept (left gone fs) (left gone fs) rest.counts;
  }

-- ---- the objects that are freed

unnamed_over : (stay more : List Place) (rs gs : List Frozen) → AllByRecursion (λ (g : Frozen). times_named g.at (stay ++ more) + times_named g.at (names_of rs) ≡ 0) gs
    → AllByRecursion (λ (g : Frozen). times_named g.at stay + times_named g.at (more ++ names_of rs) ≡ 0) gs
unnamed_over stay more rs [] a = tt
unnamed_over stay more rs (g ∷ gs) a =
    ((let x = named-append g.at stay more in let y = named-append g.at more (names_of rs) in let now = a.0 in omega arith), unnamed_over stay more rs gs a.1)

-- no remaining cell points to an object that is freed
pub what_goes : (gone stay : List Place) (fs : List Frozen) → AreDistinct fs → NamesLater fs → CountsAll gone stay fs
    → AllByRecursion (λ (f : Frozen). times_named f.at stay + times_named f.at (names_of (left gone fs)) ≡ 0) (freed gone fs)
unfolding NamesLater CountsAll
what_goes gone stay [] d l c = tt
what_goes gone stay (f ∷ fs) d l c =
    go (f.count - times_named f.at gone) refl (λ more. (what_is_left (gone ++ names_in f.value) stay fs d.1 l.1 more, what_goes (gone ++ names_in f.value) stay fs d.1 l.1 more))
    (λ more. what_goes gone (stay ++ names_in f.value) fs d.1 l.1 more)
  where
    Gone : List Frozen → List Place → List Frozen → Type 0
    Gone rs stays gs = AllByRecursion (λ (g : Frozen). times_named g.at stays + times_named g.at (names_of rs) ≡ 0) gs

    go : (n : ℕ) → f.count - times_named f.at gone ≡ n
        → (CountsAll (gone ++ names_in f.value) stay fs → Left stay fs (left (gone ++ names_in f.value) fs) × Gone (left (gone ++ names_in f.value) fs) stay (freed (gone ++ names_in f.value) fs))
        → (CountsAll gone (stay ++ names_in f.value) fs → Gone (left gone fs) (stay ++ names_in f.value) (freed gone fs))
        → Gone (kept_with f n (left (gone ++ names_in f.value) fs) (left gone fs)) stay (freed_with f n (freed (gone ++ names_in f.value) fs) (freed gone fs))
    go zero e goes stays_too =
        let more = goes (counts_more gone stay (gone ++ names_in f.value) stay f fs fs (λ p. let n = named-append p gone (names_in f.value) in omega arith) c.1) in
        let apart = left_each (λ (g : Frozen). g.at ≢ f.at) (λ g k h. h) (gone ++ names_in f.value) fs d.0 in
        let none = later_elsewhere f.at (left (gone ++ names_in f.value) fs) apart more.0.later in
        ((let now = c.0 in let z = first_unnamed f fs d.0 l in omega arith), more.1)
    go (suc n) e goes stays_too =
        unnamed_over stay (names_in f.value) (left gone fs) (freed gone fs)
        (stays_too (counts_more gone stay gone (stay ++ names_in f.value) f fs fs (λ p. let m = named-append p stay (names_in f.value) in omega arith) c.1))

module _ (next : ℕ) (gone kept : List Place) (fs : List Frozen) (falling : IsFalling fs) (counted : IsCounted next fs (gone ++ kept)) where
  pub unnamed_freed : AllByRecursion (λ (f : Frozen). times_named f.at kept + times_named f.at (names_of (left gone fs)) ≡ 0) (freed gone fs)
  unfolding CountsAll
  unnamed_freed = what_goes gone kept fs counted.distinct (names_later fs falling counted.falling) (counts_apart gone kept fs fs counted.counts)

-- each object remains or is freed
pub left_or_freed : (p : ℕ) (gone : List Place) (fs : List Frozen)
    → times p (map (λ (f : Frozen). f.at) (left gone fs)) + times p (map (λ (f : Frozen). f.at) (freed gone fs)) ≡ times p (map (λ (f : Frozen). f.at) fs)
left_or_freed p gone [] = refl
left_or_freed p gone (f ∷ fs) = go (f.count - times_named f.at gone) (left_or_freed p (gone ++ names_in f.value) fs) (left_or_freed p gone fs)
  where
    at_of : List Frozen → ℕ
    at_of gs = times p (map (λ (g : Frozen). g.at) gs)

    go : (n : ℕ) → at_of (left (gone ++ names_in f.value) fs) + at_of (freed (gone ++ names_in f.value) fs) ≡ at_of fs → at_of (left gone fs) + at_of (freed gone fs) ≡ at_of fs
        → at_of (kept_with f n (left (gone ++ names_in f.value) fs) (left gone fs)) + at_of (freed_with f n (freed (gone ++ names_in f.value) fs) (freed gone fs)) ≡ at_of (f ∷ fs)
    go zero goes stays_too = omega arith
    go (suc n) goes stays_too = omega arith
