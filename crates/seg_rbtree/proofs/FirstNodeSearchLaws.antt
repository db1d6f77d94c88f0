-- The first node with a property that all later nodes have too.
use Rattle.std.proofs.Common.{◌≡◌, ℕ, ◌≤◌, Bool, true, false, leb, List, [], ◌∷◌, ◌++◌, Option, Some, None, refl, ◌∙◌, arith}
use Rattle.std.proofs.lemmas.Bool.Decides.{nat_tests}
use Rattle.std.specs.Option.{option_or}
use Rattle.std.specs.List.{AllByRecursion}
use Rattle.std.specs.declared.cmp.Ordering.{Ordering}
use Rattle.std.specs.declared.cmp.Ordering.TheVariants.{Less}
use Rattle.seg_spec.specs.Search.{rank_of, reaches, Ascend, first_where, IsUpward}
use Rattle.seg_spec.proofs.Values.PlaceFrameLaws.{each_weaker}

-- ---- first nodes

pub or_none : (o : Option ℕ) → option_or o None ≡ o
or_none None = refl
or_none (Some x) = refl

pub or_some : (o : Option ℕ) (x : ℕ) (n : Option ℕ) → option_or (option_or o (Some x)) n ≡ option_or o (Some x)
or_some None x n = refl
or_some (Some y) x n = refl

pub first_append : (p : ℕ → Bool) (xs ys : List ℕ) → first_where p (xs ++ ys) ≡ option_or (first_where p xs) (first_where p ys)
first_append p [] ys = refl
first_append p (x ∷ xs) ys = go (p x) refl (first_append p xs ys)
  where
    go : (b : Bool) → p x ≡ b → first_where p (xs ++ ys) ≡ option_or (first_where p xs) (first_where p ys) → first_where p (x ∷ xs ++ ys) ≡ option_or (first_where p (x ∷ xs)) (first_where p ys)
    go true e h = rw e refl
    go false e h = rw e h

pub first_here : (p : ℕ → Bool) (x : ℕ) (xs : List ℕ) → p x ≡ true → first_where p (x ∷ xs) ≡ Some x
first_here p x xs e = rw e refl

pub first_later : (p : ℕ → Bool) (x : ℕ) (xs : List ℕ) → p x ≡ false → first_where p (x ∷ xs) ≡ first_where p xs
first_later p x xs e = rw e refl

-- ---- properties that all later nodes have too

each_left : (P : ℕ → Type 0) (xs ys : List ℕ) → AllByRecursion P (xs ++ ys) → AllByRecursion P xs
each_left P [] ys a = tt
each_left P (x ∷ xs) ys a = (a.0, each_left P xs ys a.1)

each_middle : (P : ℕ → Type 0) (xs : List ℕ) (y : ℕ) (ys : List ℕ) → AllByRecursion P (xs ++ y ∷ ys) → P y
each_middle P [] y ys a = a.0
each_middle P (x ∷ xs) y ys a = each_middle P xs y ys a.1

pub upward_left : (p : ℕ → Bool) (xs ys : List ℕ) → IsUpward p (xs ++ ys) → IsUpward p xs
upward_left p [] ys u = tt
upward_left p (x ∷ xs) ys u = (λ e. each_left _ xs ys (u.0 e), upward_left p xs ys u.1)

pub upward_right : (p : ℕ → Bool) (xs ys : List ℕ) → IsUpward p (xs ++ ys) → IsUpward p ys
upward_right p [] ys u = u
upward_right p (x ∷ xs) ys u = upward_right p xs ys u.1

pub none_before : (p : ℕ → Bool) (xs : List ℕ) (y : ℕ) (ys : List ℕ) → IsUpward p (xs ++ y ∷ ys) → p y ≡ false → first_where p xs ≡ None
none_before p [] y ys u e = refl
none_before p (x ∷ xs) y ys u e = go (p x) refl (none_before p xs y ys u.1 e)
  where
    go : (b : Bool) → p x ≡ b → first_where p xs ≡ None → first_where p (x ∷ xs) ≡ None
    go true d h = let t = each_middle (λ z. p z ≡ true) xs y ys (u.0 d) in cc
    go false d h = first_later p x xs d ∙ h

pub upward_of : (order : ℕ → ℕ → Ordering) (p : ℕ → Bool) → ((x y : ℕ) → order x y ≡ Less → p x ≡ true → p y ≡ true) → (ns : List ℕ) → Ascend order ns → IsUpward p ns
upward_of order p up [] a = tt
upward_of order p up (x ∷ xs) a = (λ e. each_weaker _ _ (λ y l. up x y l e) xs a.0, upward_of order p up xs a.1)

reaches_by : (l x y : ℕ) → x ≤ y → leb l x ≡ true → leb l y ≡ true
reaches_by l x y h e = grind (arith, nat_tests)

-- if a node compares as greater than another or the same, it reaches what the other reaches
pub reaches_up : (least r s : Ordering) → rank_of r ≤ rank_of s → reaches least r ≡ true → reaches least s ≡ true
reaches_up least r s h e = reaches_by (rank_of least) (rank_of r) (rank_of s) h e
