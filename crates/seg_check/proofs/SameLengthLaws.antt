-- Lists that contain each block equally often have the same length, and lists within others.
use Rattle.std.proofs.Common.{◌≡◌, ℕ, ◌+◌, ◌≤◌, ⊎_elim, List, [], ◌∷◌, ◌++◌, length, refl, sym, ap, ◌∙◌, arith, length-append}
use Rattle.std.proofs.lemmas.Bool.{cases_eq}
use Rattle.seg_spec.specs.Sound.{times, SameBlocks}
use Rattle.seg_spec.proofs.Heap.LiveBlockLaws.{times-append, times-same, times-other}
use Rattle.seg_check.specs.Marks.{Within}

-- ---- a list with one of its items taken out

pub record Splits (h : ℕ) (xs : List ℕ) : Type 0 where
  pub before : List ℕ
  pub after : List ℕ
  pub parts : xs ≡ before ++ h ∷ after

pub splits : (h : ℕ) (xs : List ℕ) → 1 ≤ times h xs → Splits h xs
splits h [] some = absurd (omega arith)
splits h (x ∷ xs) some = ⊎_elim
    (λ same. record { before = []; after = xs; parts = ap (λ y. y ∷ xs) same })
    (λ other.
    let rest = splits h xs (omega (arith, times-other h x xs other)) in
    record { before = x ∷ rest.before; after = rest.after; parts = ap (λ ys. x ∷ ys) rest.parts })
    (cases_eq x h)

-- ---- lists with the same blocks

none_is_empty : (ys : List ℕ) → SameBlocks [] ys → length ys ≡ 0
none_is_empty [] e = refl
none_is_empty (y ∷ ys) e = absurd (omega (arith, e y, times-same y ys))

pub same_length : (xs ys : List ℕ) → SameBlocks xs ys → length xs ≡ length ys
same_length [] ys e = sym (none_is_empty ys e)
same_length (x ∷ xs) ys e =
    let s = splits x ys (omega (arith, e x, times-same x xs)) in
    let rest : SameBlocks xs (s.before ++ s.after) = (λ h.
    let here = e h in
    let there : times h ys ≡ times h s.before + times h (x ∷ s.after) = ap (times h) s.parts ∙ times-append h s.before (x ∷ s.after) in
    let apart = times-append h s.before s.after in
    omega arith) in
    let lengths = same_length xs (s.before ++ s.after) rest in
    let there : length ys ≡ length s.before + length (x ∷ s.after) = ap length s.parts ∙ length-append s.before (x ∷ s.after) in
    let apart : length (s.before ++ s.after) ≡ length s.before + length s.after = length-append s.before s.after in
    omega arith

-- if one list is within another, it is no longer
pub within_length : (xs ys : List ℕ) → Within xs ys → length xs ≤ length ys
within_length [] ys w = omega arith
within_length (x ∷ xs) ys w =
    let s = splits x ys (omega (arith, w x, times-same x xs)) in
    let rest : Within xs (s.before ++ s.after) = (λ h.
    let here = w h in
    let mine = times-append h (x ∷ []) xs in
    let there : times h ys ≡ times h s.before + times h (x ∷ s.after) = ap (times h) s.parts ∙ times-append h s.before (x ∷ s.after) in
    let own = times-append h (x ∷ []) s.after in
    let apart = times-append h s.before s.after in
    omega arith) in
    let lengths = within_length xs (s.before ++ s.after) rest in
    let there : length ys ≡ length s.before + length (x ∷ s.after) = ap length s.parts ∙ length-append s.before (x ∷ s.after) in
    let apart : length (s.before ++ s.after) ≡ length s.before + length s.after = length-append s.before s.after in
    omega arith

-- ---- a list within another

-- the rest of a list, without another list
pub record Remainder (xs ys : List ℕ) : Type 0 where
  pub rest : List ℕ
  pub same : SameBlocks ys (xs ++ rest)

pub remainder : (xs ys : List ℕ) → Within xs ys → Remainder xs ys
remainder [] ys w = record { rest = ys; same = λ h. refl }
remainder (x ∷ xs) ys w =
    let s = splits x ys (omega (arith, w x, times-same x xs)) in
    let there = λ (h : ℕ). ap (times h) s.parts ∙ times-append h s.before (x ∷ s.after) in
    let others = remainder xs (s.before ++ s.after)
    (λ h. omega (arith, w h, there h, times-append h (x ∷ []) xs, times-append h (x ∷ []) s.after, times-append h s.before s.after)) in
    record {
      rest = others.rest;
      same = λ h. omega (
        arith,
        others.same h,
        there h,
        times-append h (x ∷ []) s.after,
        times-append h s.before s.after,
        times-append h (x ∷ xs) others.rest,
        times-append h (x ∷ []) xs,
        times-append h xs others.rest,
      );
    }
