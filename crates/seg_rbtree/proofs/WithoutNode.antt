-- The list of nodes without one of them.
use Rattle.std.proofs.Common.{◌≡◌, ◌≢◌, ℕ, inl, inr, true, false, eqb, List, [], ◌∷◌, ◌++◌, refl, sym, ap, ◌∙◌, subst, arith}
use Rattle.std.proofs.lemmas.Bool.Decides.{nat_tests}
use Rattle.std.specs.List.{AllByRecursion}
use Rattle.seg_spec.specs.Apart.{Separate}
use Rattle.seg_rbtree.specs.Changes.{NodesApart, without_node}
use Rattle.seg_rbtree.specs.Removing.{Loses}

without_here : (node : ℕ) (xs : List ℕ) → without_node node (node ∷ xs) ≡ xs
without_here node xs = let e : eqb node node ≡ true = grind (arith, nat_tests) in rw e refl

pub without_later : (node x : ℕ) (xs : List ℕ) → node ≢ x → without_node node (x ∷ xs) ≡ x ∷ without_node node xs
without_later node x xs n = let e : eqb node x ≡ false = grind (arith, nat_tests) in rw e refl

pub front_differs : (x node : ℕ) (xs ys : List ℕ) → AllByRecursion (λ y. Separate x 16 y 16) (xs ++ node ∷ ys) → node ≢ x
front_differs x node [] ys a e = go a.0
  where
    go : Separate x 16 node 16 → ⊥
    go (inl h) = omega arith
    go (inr h) = omega arith
front_differs x node (y ∷ xs) ys a e = front_differs x node xs ys a.1 e

pub without_middle : (node : ℕ) (xs ys : List ℕ) → NodesApart (xs ++ node ∷ ys) → without_node node (xs ++ node ∷ ys) ≡ xs ++ ys
without_middle node [] ys a = without_here node ys
without_middle node (x ∷ xs) ys a = without_later node x (xs ++ node ∷ ys) (front_differs x node xs ys a.0) ∙ ap (λ zs. x ∷ zs) (without_middle node xs ys a.1)

pub without_lost : (node : ℕ) (old new : List ℕ) → NodesApart old → Loses node old new → without_node node old ≡ new
without_lost node old new a l = ap (without_node node) l.old_is ∙ without_middle node l.front l.back (subst (λ ns. NodesApart ns) l.old_is a) ∙ sym l.new_is
