-- The first root of a list that passes a test, for example of a name or a type, and replacing that
-- root.
use Rattle.std.proofs.Common.{◌≡◌, ℕ, Bool, true, false, List, [], ◌∷◌, ◌++◌, Option, Some, None, refl, sym, ◌∙◌, ap, subst, append_assoc}
use Rattle.std.specs.Prelude.{◌==◌, if◌then◌else◌}
use Rattle.std.specs.List.{AllByRecursion}
use Rattle.seg_spec.specs.Index.{Root, same_name, root_named, root_of_type}

-- ---- a root among others

pub record Among (roots : List Root) (root : Root) : Type 0 where
  pub before : List Root
  pub after : List Root
  pub is : roots ≡ before ++ root ∷ after

pub each_among : (P : Root → Type 0) (roots : List Root) (root : Root) → Among roots root → AllByRecursion P roots → P root
each_among P roots root a h = go a.before (subst (AllByRecursion P) a.is h)
  where
    go : (before : List Root) → AllByRecursion P (before ++ root ∷ a.after) → P root
    go [] h = h.0
    go (r ∷ before) h = go before h.1

pub among_left : (xs ys : List Root) (root : Root) → Among xs root → Among (xs ++ ys) root
among_left xs ys root a = record { before = a.before; after = a.after ++ ys; is = ap (λ zs. zs ++ ys) a.is ∙ append_assoc a.before (root ∷ a.after) ys }

pub among_right : (xs ys : List Root) (root : Root) → Among ys root → Among (xs ++ ys) root
among_right xs ys root a = record { before = xs ++ a.before; after = a.after; is = ap (λ zs. xs ++ zs) a.is ∙ sym (append_assoc xs a.before (root ∷ a.after)) }

-- ---- the first

abbrev pub first_of : (Root → Bool) → List Root → Option Root
first_of test [] = None
first_of test (root ∷ roots) = if test root then Some root else first_of test roots

pub record First (test : Root → Bool) (roots : List Root) (root : Root) : Type 0 where
  pub before : List Root
  pub after : List Root
  pub among : roots ≡ before ++ root ∷ after
  pub none : first_of test before ≡ None
  pub is : test root ≡ true

module _ (test : Root → Bool) where
  pub first_split : (roots : List Root) (root : Root) → first_of test roots ≡ Some root → First test roots root
  first_split [] root e = cc
  first_split (r ∷ roots) root e = choose (test r) refl (first_split roots root) e
    where
      choose : (b : Bool) → test r ≡ b → (first_of test roots ≡ Some root → First test roots root) → (if b then Some r else first_of test roots) ≡ Some root → First test (r ∷ roots) root
      choose true g again f =
          let same : r ≡ root = cc in
          record { before = []; after = roots; among = ap (λ x. x ∷ roots) same; none = refl; is = ap test (sym same) ∙ g }
      choose false g again f =
          let m = again f in
          record { before = r ∷ m.before; after = m.after; among = ap (λ xs. r ∷ xs) m.among; none = ap (λ b. if b then Some r else first_of test m.before) g ∙ m.none; is = m.is }

  pub first_among : (roots : List Root) (root : Root) → first_of test roots ≡ Some root → Among roots root
  first_among roots root e = let f = first_split roots root e in record { before = f.before; after = f.after; is = f.among }

  pub first_here : (before after : List Root) (root : Root) → first_of test before ≡ None → test root ≡ true → first_of test (before ++ root ∷ after) ≡ Some root
  first_here [] after root none e = ap (λ b. if b then Some root else first_of test after) e
  first_here (r ∷ before) after root none e = choose (test r) (first_here before after root) none
    where
      choose : (b : Bool) → (first_of test before ≡ None → test root ≡ true → first_of test (before ++ root ∷ after) ≡ Some root) → (if b then Some r else first_of test before) ≡ None
          → (if b then Some r else first_of test (before ++ root ∷ after)) ≡ Some root
      choose true again f = cc
      choose false again f = again f e

  pub first_beside : (before after : List Root) (root : Root) → test root ≡ false → first_of test (before ++ root ∷ after) ≡ first_of test (before ++ after)
  first_beside [] after root e = ap (λ b. if b then Some root else first_of test after) e
  first_beside (r ∷ before) after root e = ap (λ o. if test r then Some r else o) (first_beside before after root e)

-- ---- of a name, and of a type

abbrev pub is_named : List ℕ → Root → Bool
is_named name root = same_name name root.name

abbrev pub is_of_type : ℕ → Root → Bool
is_of_type T root = T == root.type

pub named_first : (roots : List Root) (name : List ℕ) → root_named roots name ≡ first_of (is_named name) roots
named_first [] name = refl
named_first (root ∷ roots) name = ap (λ o. if same_name name root.name then Some root else o) (named_first roots name)

pub typed_first : (roots : List Root) (T : ℕ) → root_of_type roots T ≡ first_of (is_of_type T) roots
typed_first [] T = refl
typed_first (root ∷ roots) T = ap (λ o. if T == root.type then Some root else o) (typed_first roots T)
