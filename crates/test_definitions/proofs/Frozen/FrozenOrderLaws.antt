-- Frozen objects are listed by falling numbers. The order of objects with one number makes no
-- difference to which of them are freed.
use Rattle.std.proofs.Common.{◌≡◌, ◌≢◌, ℕ, zero, suc, ◌+◌, ◌-◌, ◌≤◌, ◌⊎◌, inl, inr, List, [], ◌∷◌, ◌++◌, refl, sym, ap, ◌∙◌, subst, arith}
use Rattle.std.specs.List.{AllByRecursion}
use Rattle.seg_spec.specs.Reads.{Place}
use Rattle.seg_spec.specs.Frozen.{Frozen, blocks_by}
use Rattle.seg_spec.specs.Sound.{times}
use Rattle.seg_spec.specs.Shared.{names_in, times_named, AreDistinct, IsFalling, freed_with, freed}
use Rattle.seg_spec.proofs.Heap.LiveBlockLaws.{times-append}
use Rattle.seg_spec.proofs.Frozen.SharedLaws.{named-append}

-- ---- one of several objects

abbrev pub IsOneOf : Frozen → List Frozen → Type 0
IsOneOf f [] = ⊥
IsOneOf f (g ∷ gs) = (f ≡ g) ⊎ IsOneOf f gs

pub each_of : (P : Frozen → Type 0) (f : Frozen) (fs : List Frozen) → IsOneOf f fs → AllByRecursion P fs → P f
each_of P f [] i a = absurd i
each_of P f (g ∷ gs) (inl e) a = subst P (sym e) a.0
each_of P f (g ∷ gs) (inr i) a = each_of P f gs i a.1

pub record Taken (f : Frozen) (gs : List Frozen) : Type 0 where
  pub before : List Frozen
  pub after : List Frozen
  pub are : gs ≡ before ++ f ∷ after

pub taken : (f : Frozen) (gs : List Frozen) → IsOneOf f gs → Taken f gs
taken f [] i = absurd i
taken f (g ∷ gs) (inl e) = record { before = []; after = gs; are = ap (λ x. x ∷ gs) (sym e) }
taken f (g ∷ gs) (inr i) = let t = taken f gs i in record { before = g ∷ t.before; after = t.after; are = ap (λ xs. g ∷ xs) t.are }

module _ (f : Frozen) (after : List Frozen) where
  pub one_of_parts : (x : Frozen) (before : List Frozen) → IsOneOf x (before ++ f ∷ after) → (x ≡ f) ⊎ IsOneOf x (before ++ after)
  one_of_parts x [] i = i
  one_of_parts x (b ∷ bs) (inl e) = inr (inl e)
  one_of_parts x (b ∷ bs) (inr i) = elim (one_of_parts x bs i) [ inl e ↦ inl e | inr j ↦ inr (inr j) ]

  pub part_one_of : (x : Frozen) (before : List Frozen) → IsOneOf x (before ++ after) → IsOneOf x (before ++ f ∷ after)
  part_one_of x [] i = inr i
  part_one_of x (b ∷ bs) (inl e) = inl e
  part_one_of x (b ∷ bs) (inr i) = inr (part_one_of x bs i)

  before_one_of : (x : Frozen) (before : List Frozen) → IsOneOf x before → IsOneOf x (before ++ f ∷ after)
  before_one_of x [] i = absurd i
  before_one_of x (b ∷ bs) (inl e) = inl e
  before_one_of x (b ∷ bs) (inr i) = inr (before_one_of x bs i)

  each_parts : (P : Frozen → Type 0) (before : List Frozen) → AllByRecursion P (before ++ f ∷ after) → P f × AllByRecursion P (before ++ after)
  each_parts P [] a = a
  each_parts P (b ∷ bs) a = let rest = each_parts P bs a.1 in (rest.0, (a.0, rest.1))

  pub distinct_parts : (before : List Frozen) → AreDistinct (before ++ f ∷ after) → AllByRecursion (λ g. g.at ≢ f.at) (before ++ after) × AreDistinct (before ++ after)
  distinct_parts [] d = d
  distinct_parts (b ∷ bs) d =
      let rest = distinct_parts bs d.1 in
      let parts = each_parts (λ g. g.at ≢ b.at) bs d.0 in
      ((λ e. parts.0 (sym e), rest.0), (parts.1, rest.1))

  falling_parts : (before : List Frozen) → IsFalling (before ++ f ∷ after) → IsFalling (before ++ after)
  falling_parts [] l = l.1
  falling_parts (b ∷ bs) l = ((each_parts (λ g. g.number ≤ b.number) bs l.0).1, falling_parts bs l.1)

  not_above : (x : Frozen) (before : List Frozen) → IsFalling (before ++ f ∷ after) → IsOneOf x before → f.number ≤ x.number
  not_above x [] l i = absurd i
  not_above x (b ∷ bs) l (inl e) = subst (λ (y : Frozen). f.number ≤ y.number) (sym e) (each_parts (λ g. g.number ≤ b.number) bs l.0).0
  not_above x (b ∷ bs) l (inr i) = not_above x bs l.1 i

first_highest : (x f : Frozen) (fs : List Frozen) → IsFalling (f ∷ fs) → IsOneOf x (f ∷ fs) → x.number ≤ f.number
first_highest x f fs l (inl e) = subst (λ (y : Frozen). y.number ≤ f.number) (sym e) (omega arith)
first_highest x f fs l (inr i) = each_of (λ g. g.number ≤ f.number) x fs i l.0

-- ---- cells in any order

freed_same : (xs ys : List Place) (fs : List Frozen) → ((p : ℕ) → times_named p xs ≡ times_named p ys) → freed xs fs ≡ freed ys fs
freed_same xs ys [] same = refl
freed_same xs ys (f ∷ fs) same =
    let ns = names_in f.value in
    let more : (p : ℕ) → times_named p (xs ++ ns) ≡ times_named p (ys ++ ns) = λ p. (let a = named-append p xs ns in let b = named-append p ys ns in let e = same p in omega arith) in
    ap (λ n. freed_with f (f.count - n) (freed (xs ++ ns) fs) (freed xs fs)) (same f.at)
    ∙ ap (λ gs. freed_with f (f.count - times_named f.at ys) gs (freed xs fs)) (freed_same (xs ++ ns) (ys ++ ns) fs more)
    ∙ ap (λ gs. freed_with f (f.count - times_named f.at ys) (freed (ys ++ ns) fs) gs) (freed_same xs ys fs same)

-- ---- objects in any order

-- each object points only to objects with lower numbers
abbrev pub PointLower : List Frozen → Type 0
PointLower fs = (f g : Frozen) → IsOneOf f fs → IsOneOf g fs → f.number ≤ g.number → times_named g.at (names_in f.value) ≡ 0

-- neither object points to the other
record Apart (f g : Frozen) : Type 0 where
  first : times_named g.at (names_in f.value) ≡ 0
  second : times_named f.at (names_in g.value) ≡ 0

module _ (theirs : ℕ → List ℕ) (h : ℕ) where
  abbrev By : List Frozen → ℕ
  By fs = times h (blocks_by theirs fs)

  with_first : (f : Frozen) (fs : List Frozen) → By (f ∷ fs) ≡ times h (theirs f.at) + By fs
  with_first f fs = times-append h (theirs f.at) (blocks_by theirs fs)

  freed_alike : (f : Frozen) (n : ℕ) (xs ys zs ws : List Frozen) → By xs ≡ By ys → By zs ≡ By ws → By (freed_with f n xs zs) ≡ By (freed_with f n ys ws)
  freed_alike f zero xs ys zs ws e g = (let a = with_first f xs in let b = with_first f ys in omega arith)
  freed_alike f (suc n) xs ys zs ws e g = g

  exchanged : (f g : Frozen) → Apart f g → (gone : List Place) (rest : List Frozen) → By (freed gone (f ∷ g ∷ rest)) ≡ By (freed gone (g ∷ f ∷ rest))
  exchanged f g apart gone rest =
      let nf = names_in f.value in
      let ng = names_in g.value in
      let after_f : g.count - times_named g.at (gone ++ nf) ≡ g.count - times_named g.at gone = (let a = named-append g.at gone nf in let e = apart.first in omega arith) in
      let after_g : f.count - times_named f.at (gone ++ ng) ≡ f.count - times_named f.at gone = (let a = named-append f.at gone ng in let e = apart.second in omega arith) in
      let both = freed_same ((gone ++ nf) ++ ng) ((gone ++ ng) ++ nf) rest
      (λ p. (let a = named-append p (gone ++ nf) ng in let b = named-append p gone nf in let c = named-append p (gone ++ ng) nf in let d = named-append p gone ng in omega arith)) in
      ap (λ n. By (freed_with f (f.count - times_named f.at gone) (freed_with g n (freed ((gone ++ nf) ++ ng) rest) (freed (gone ++ nf) rest)) (freed gone (g ∷ rest)))) after_f
      ∙ cases (f.count - times_named f.at gone) (g.count - times_named g.at gone) _ _ (freed (gone ++ nf) rest) (freed (gone ++ ng) rest) (freed gone rest) both
      ∙ sym (ap (λ n. By (freed_with g (g.count - times_named g.at gone) (freed_with f n (freed ((gone ++ ng) ++ nf) rest) (freed (gone ++ ng) rest)) (freed gone (f ∷ rest)))) after_g)
    where
      cases : (n m : ℕ) (xs ys zs ws us : List Frozen) → xs ≡ ys → By (freed_with f n (freed_with g m xs zs) (freed_with g m ws us)) ≡ By (freed_with g m (freed_with f n ys ws) (freed_with f n zs us))
      cases zero zero xs ys zs ws us e =
          let same = ap By e in
          let a = with_first f (g ∷ xs) in
          let b = with_first g xs in
          let c = with_first g (f ∷ ys) in
          let d = with_first f ys in
          omega arith
      cases zero (suc m) xs ys zs ws us e = refl
      cases (suc n) zero xs ys zs ws us e = refl
      cases (suc n) (suc m) xs ys zs ws us e = refl

  -- the object comes first
  moved_first : (f : Frozen) (before after : List Frozen) (gone : List Place) → ((g : Frozen) → IsOneOf g before → Apart g f) → By (freed gone (before ++ f ∷ after)) ≡ By (freed gone (f ∷ (before ++ after)))
  moved_first f [] after gone apart = refl
  moved_first f (b ∷ bs) after gone apart =
      let later : (g : Frozen) → IsOneOf g bs → Apart g f = λ g i. apart g (inr i) in
      freed_alike b (b.count - times_named b.at gone) (freed (gone ++ names_in b.value) (bs ++ f ∷ after)) (freed (gone ++ names_in b.value) (f ∷ (bs ++ after))) (freed gone (bs ++ f ∷ after)) (freed gone (f ∷ (bs ++ after)))
      (moved_first f bs after (gone ++ names_in b.value) later) (moved_first f bs after gone later)
      ∙ exchanged b f (apart b (inl refl)) gone (bs ++ after)

  pub freed_in_any_order : (gone : List Place) (fs gs : List Frozen) → AreDistinct fs → IsFalling fs → PointLower fs → AreDistinct gs → IsFalling gs
      → ((x : Frozen) → IsOneOf x fs → IsOneOf x gs) → ((x : Frozen) → IsOneOf x gs → IsOneOf x fs) → By (freed gone fs) ≡ By (freed gone gs)
  freed_in_any_order gone [] [] d l p d' l' a b = refl
  freed_in_any_order gone [] (g ∷ gs) d l p d' l' a b = absurd (b g (inl refl))
  freed_in_any_order gone (f ∷ fs) gs d l p d' l' a b =
      let t = taken f gs (a f (inl refl)) in
      let all = t.before ++ t.after in
      let distinct = subst AreDistinct t.are d' in
      let falling = subst IsFalling t.are l' in
      let others = distinct_parts f t.after t.before distinct in
      let apart : (x : Frozen) → IsOneOf x t.before → Apart x f = λ x i. (
      let there : IsOneOf x (f ∷ fs) = b x (subst (IsOneOf x) (sym t.are) (before_one_of f t.after x t.before i)) in
      let low = first_highest x f fs l there in
      let high = not_above f t.after x t.before falling i in
      record { first = p x f there (inl refl) (omega arith); second = p f x (inl refl) there (omega arith) }) in
      let forth : (x : Frozen) → IsOneOf x fs → IsOneOf x all = λ x i. elim (one_of_parts f t.after x t.before (subst (IsOneOf x) t.are (a x (inr i)))) [
        | inl e ↦ absurd (each_of (λ g. g.at ≢ f.at) x fs i d.0 (ap (λ (y : Frozen). y.at) e))
        | inr j ↦ j
      ] in
      let back : (x : Frozen) → IsOneOf x all → IsOneOf x fs = λ x i. elim (b x (subst (IsOneOf x) (sym t.are) (part_one_of f t.after x t.before i))) [
        | inl e ↦ absurd (each_of (λ g. g.at ≢ f.at) x all i others.0 (ap (λ (y : Frozen). y.at) e))
        | inr j ↦ j
      ] in
      let lower : PointLower fs = λ x y i j. p x y (inr i) (inr j) in
      let later : (cells : List Place) → By (freed cells fs) ≡ By (freed cells all) = λ cells. freed_in_any_order cells fs all d.1 l.1 lower others.1 (falling_parts f t.after t.before falling) forth back in
      freed_alike f (f.count - times_named f.at gone) (freed (gone ++ names_in f.value) fs) (freed (gone ++ names_in f.value) all) (freed gone fs) (freed gone all) (later (gone ++ names_in f.value)) (later gone)
      ∙ sym (moved_first f t.before t.after gone apart) ∙ ap (λ xs. By (freed gone xs)) (sym t.are)
