-- Blocks in the order of their frozen objects' numbers.
use Rattle.std.proofs.Common.{ℕ, ◌<◌, ◌≤◌, ◌⊎◌, inl, inr, List, [], ◌∷◌, refl, sym, ◌∙◌, arith}
use Rattle.std.specs.List.{AllByRecursion}
use Rattle.seg_spec.specs.Sound.{times, SameBlocks}
use Rattle.seg_spec.proofs.Values.PlaceFrameLaws.{each_weaker}
use Rattle.seg_spec.proofs.Heap.LiveBlockLaws.{times-same, times-append, each_same}

module _ (key : ℕ → ℕ) where
  -- no key is greater than an earlier one
  abbrev pub Falls : List ℕ → Type 0
  Falls [] = Unit {0}
  Falls (h ∷ hs) = AllByRecursion (λ x. key x ≤ key h) hs × Falls hs

  pub record Sorted (hs : List ℕ) : Type 0 where
    pub list : List ℕ
    pub same : SameBlocks list hs
    pub falls : Falls list

  le_or_not : (a b : ℕ) → (a ≤ b) ⊎ (b < a)
  le_or_not a b = grind arith

  inserted : (h : ℕ) (ys : List ℕ) → Falls ys → Sorted (h ∷ ys)
  inserted h [] f = record { list = h ∷ []; same = λ x. refl; falls = (tt, tt) }
  inserted h (y ∷ ys) f = go (le_or_not (key y) (key h)) (inserted h ys f.1)
    where
      go : (key y ≤ key h) ⊎ (key h < key y) → Sorted (h ∷ ys) → Sorted (h ∷ y ∷ ys)
      go (inl low) rest = record {
        list = h ∷ y ∷ ys;
        same = λ x. refl;
        falls = ((low, each_weaker (λ x. key x ≤ key y) (λ x. key x ≤ key h) (λ x l. omega arith) ys f.0), f);
      }
      go (inr high) rest = record {
        list = y ∷ rest.list;
        same = λ x. omega (arith, rest.same x, times-append x (y ∷ []) rest.list, times-append x (h ∷ []) ys, times-append x (h ∷ []) (y ∷ ys), times-append x (y ∷ []) ys);
        falls = (each_same (λ x. key x ≤ key y) (h ∷ ys) rest.list (λ x. sym (rest.same x)) (omega arith, f.0), rest.falls);
      }

  pub sorted : (hs : List ℕ) → Sorted hs
  sorted [] = record { list = []; same = λ x. refl; falls = tt }
  sorted (h ∷ hs) =
      let rest = sorted hs in
      let more = inserted h rest.list rest.falls in
      record { list = more.list; same = λ x. more.same x ∙ (let e = rest.same x in omega (arith, e, times-append x (h ∷ []) rest.list, times-append x (h ∷ []) hs)); falls = more.falls }

  -- a block of the list with the greatest key
  pub record Greatest (hs : List ℕ) : Type 0 where
    pub block : ℕ
    pub there : 1 ≤ times block hs
    pub all : AllByRecursion (λ x. key x ≤ key block) hs

  pub greatest : (h : ℕ) (hs : List ℕ) → Greatest (h ∷ hs)
  greatest h hs = go (sorted (h ∷ hs))
    where
      of : (list : List ℕ) → SameBlocks list (h ∷ hs) → Falls list → Greatest (h ∷ hs)
      of [] same falls = absurd (omega (arith, same h, times-same h hs))
      of (x ∷ xs) same falls = record {
        block = x;
        there = omega (arith, same x, times-same x xs);
        all = each_same (λ y. key y ≤ key x) (x ∷ xs) (h ∷ hs) same (omega arith, falls.0);
      }

      go : Sorted (h ∷ hs) → Greatest (h ∷ hs)
      go s = of s.list s.same s.falls
