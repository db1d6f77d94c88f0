-- A search from a side of a tree for the first node with a property that all later nodes have too.
use Rattle.std.proofs.Common.{◌≡◌, ℕ, ◌+◌, ◌≤◌, Bool, true, false, List, [], ◌∷◌, ◌++◌, reverse, Option, Some, None, refl, sym, ap, ◌∙◌, subst, arith}
use Rattle.std.proofs.lemmas.List.{append_assoc, reverse-append}
use Rattle.std.specs.Option.{option_or}
use Rattle.std.specs.Ordering.{is_lt}
use Rattle.std.specs.List.{AllByRecursion}
use Rattle.std.specs.declared.cmp.Ordering.{Ordering}
use Rattle.std.specs.declared.cmp.Ordering.TheVariants.{Less, Equal, Greater}
use Rattle.seg_spec.specs.Pointer.{target}
use Rattle.seg_spec.specs.Shapes.{Colour, Tree, leaf, fork, nodes_of, IsTree}
use Rattle.seg_spec.specs.Search.{rank_of, Ascend, first_where, IsUpward, IsSearchTree}
use Rattle.seg_spec.proofs.Values.PlaceFrameLaws.{each_weaker}
use Rattle.seg_rbtree.specs.declared.node.Side.{Side}
use Rattle.seg_rbtree.specs.declared.node.Side.TheVariants.{Left, Right}
use Rattle.seg_rbtree.specs.Nodes.{side_word, opposite}
use Rattle.seg_rbtree.specs.Ways.{branch}
use Rattle.seg_rbtree.specs.Sides.{nodes_from, last_where, is_beyond}
use Rattle.seg_rbtree.proofs.Depth.{tall, taller, taller_far, deep-64}
use Rattle.seg_rbtree.proofs.FirstNodeSearchLaws.{or_none, or_some, first_append, first_here, first_later, none_before, upward_left, upward_right, upward_of, reaches_up}

-- ---- lists from their end

reverse_more : (x : ℕ) (xs : List ℕ) → reverse (x ∷ xs) ≡ reverse xs ++ x ∷ []
reverse_more x xs = reverse-append (x ∷ []) xs

pub last_more : (p : ℕ → Bool) (x : ℕ) (xs : List ℕ) → last_where p (x ∷ xs) ≡ option_or (last_where p xs) (first_where p (x ∷ []))
last_more p x xs = ap (first_where p) (reverse_more x xs) ∙ first_append p (reverse xs) (x ∷ [])

each_end : (P : ℕ → Type 0) (xs : List ℕ) (x : ℕ) → AllByRecursion P xs → P x → AllByRecursion P (xs ++ x ∷ [])
each_end P [] x all one = (one, tt)
each_end P (y ∷ ys) x all one = (all.0, each_end P ys x all.1 one)

each_reversed : (P : ℕ → Type 0) (xs : List ℕ) → AllByRecursion P xs → AllByRecursion P (reverse xs)
each_reversed P [] all = tt
each_reversed P (x ∷ xs) all = subst (AllByRecursion P) (sym (reverse_more x xs)) (each_end P (reverse xs) x (each_reversed P xs all.1) all.0)

upward_end : (p : ℕ → Bool) (xs : List ℕ) (x : ℕ) → IsUpward p xs → AllByRecursion (λ y. p y ≡ true → p x ≡ true) xs → IsUpward p (xs ++ x ∷ [])
upward_end p [] x u all = (λ e. tt, tt)
upward_end p (y ∷ ys) x u all = (λ e. each_end (λ z. p z ≡ true) ys x (u.0 e) (all.0 e), upward_end p ys x u.1 all.1)

upward_reversed : (order : ℕ → ℕ → Ordering) (p : ℕ → Bool) → ((x y : ℕ) → order x y ≡ Less → p y ≡ true → p x ≡ true) → (ns : List ℕ) → Ascend order ns → IsUpward p (reverse ns)
upward_reversed order p down [] a = tt
upward_reversed order p down (x ∷ xs) a =
    let all = each_weaker (λ y. order x y ≡ Less) (λ y. p y ≡ true → p x ≡ true) (λ y l e. down x y l e) xs a.0 in
    subst (IsUpward p) (sym (reverse_more x xs)) (upward_end p (reverse xs) x (upward_reversed order p down xs a.1) (each_reversed (λ y. p y ≡ true → p x ≡ true) xs all))

-- ---- nodes beyond a key

-- a node that compares as less than another or the same is below the key if the other is
less_down : (r s : Ordering) → rank_of r ≤ rank_of s → is_lt s ≡ true → is_lt r ≡ true
less_down Less s h e = refl
less_down Equal Less h e = absurd (omega arith)
less_down Greater Less h e = absurd (omega arith)
less_down Equal Equal h e = cc
less_down Equal Greater h e = cc
less_down Greater Equal h e = cc
less_down Greater Greater h e = cc

-- from the other side, all nodes after one that is beyond the key are beyond it too
pub beyond_upward : (side : Side) (order : ℕ → ℕ → Ordering) (compare : ℕ → Ordering) → ((x y : ℕ) → order x y ≡ Less → rank_of (compare x) ≤ rank_of (compare y)) → (shape : Tree) → Ascend order (nodes_of shape)
    → IsUpward (λ x. is_beyond side (compare x)) (nodes_from (opposite side) shape)
beyond_upward Left order compare keyed shape a = upward_reversed order (λ x. is_lt (compare x)) (λ x y l e. less_down (compare x) (compare y) (keyed x y l) e) (nodes_of shape) a
beyond_upward Right order compare keyed shape a = upward_of order (λ x. is_beyond Right (compare x)) (λ x y l e. reaches_up Greater (compare x) (compare y) (keyed x y l) e) (nodes_of shape) a

-- ---- a tree from a side

pub twice_opposite : (side : Side) → opposite (opposite side) ≡ side
twice_opposite Left = refl
twice_opposite Right = refl

no_nodes : (side : Side) → nodes_from side leaf ≡ []
no_nodes Left = refl
no_nodes Right = refl

branch_nodes : (side : Side) (at : ℕ) (colour : Colour) (near far : Tree) → nodes_from side (branch side at colour near far) ≡ nodes_from side near ++ at ∷ nodes_from side far
branch_nodes Left at colour near far = refl
branch_nodes Right at colour near far =
    reverse-append (nodes_of far) (at ∷ nodes_of near) ∙ ap (λ ns. ns ++ reverse (nodes_of far)) (reverse_more at (nodes_of near)) ∙ append_assoc (reverse (nodes_of near)) (at ∷ []) (reverse (nodes_of far))

-- ---- the search

-- The subtree at `place` remains to be searched. If `found` is a node, it is the first one so far.
-- `count` nodes were read.
pub record IsSearching (bytes : List ℕ) (side : Side) (p : ℕ → Bool) (shape : Tree) (place found : Option ℕ) (count : ℕ) : Type 0 where
  pub rest : Tree
  pub hangs : IsTree bytes place rest
  pub upward : IsUpward p (nodes_from side rest)
  pub node_is : first_where p (nodes_from side shape) ≡ option_or (first_where p (nodes_from side rest)) found
  pub reach : count + tall rest ≤ tall shape

pub search_begins : (bytes : List ℕ) (side : Side) (p : ℕ → Bool) (shape : Tree) (root : ℕ) (place : Option ℕ) → place ≡ target bytes root → IsSearchTree bytes root shape → IsUpward p (nodes_from side shape)
    → IsSearching bytes side p shape place None 0
search_begins bytes side p shape root place e t u =
    record { rest = shape; hangs = subst (λ o. IsTree bytes o shape) (sym e) t.is_tree; upward = u; node_is = sym (or_none (first_where p (nodes_from side shape))); reach = omega arith }

-- one step from the root of a subtree, `at`
module _ (bytes : List ℕ) (side : Side) (p : ℕ → Bool) (shape : Tree) (at root : ℕ) (colour : Colour) (near far : Tree) (found : Option ℕ) (count : ℕ) (same : root ≡ at) (u : IsUpward p (nodes_from side (branch side root colour near far)))
    (f : first_where p (nodes_from side shape) ≡ option_or (first_where p (nodes_from side (branch side root colour near far))) found) (k : count + tall (branch side root colour near far) ≤ tall shape) where
  split : nodes_from side (branch side root colour near far) ≡ nodes_from side near ++ root ∷ nodes_from side far
  split = branch_nodes side root colour near far

  upward : IsUpward p (nodes_from side near ++ root ∷ nodes_from side far)
  upward = subst (IsUpward p) split u

  node_is : first_where p (nodes_from side shape) ≡ option_or (option_or (first_where p (nodes_from side near)) (first_where p (root ∷ nodes_from side far))) found
  node_is = f ∙ ap (λ ns. option_or (first_where p ns) found) split ∙ ap (λ o. option_or o found) (first_append p (nodes_from side near) (root ∷ nodes_from side far))

  to_near : p at ≡ true → IsTree bytes (target bytes (side_word at side)) near → IsSearching bytes side p shape (target bytes (side_word at side)) (Some at) (count + 1)
  to_near e t =
      let here : first_where p (root ∷ nodes_from side far) ≡ Some at = first_here p root (nodes_from side far) (ap p same ∙ e) ∙ ap Some same in
      record {
        rest = near;
        hangs = t;
        upward = upward_left p (nodes_from side near) (root ∷ nodes_from side far) upward;
        node_is = node_is ∙ ap (λ o. option_or (option_or (first_where p (nodes_from side near)) o) found) here ∙ or_some (first_where p (nodes_from side near)) at found;
        reach = omega (arith, k, taller side root colour near far);
      }

  to_far : p at ≡ false → IsTree bytes (target bytes (side_word at (opposite side))) far → IsSearching bytes side p shape (target bytes (side_word at (opposite side))) found (count + 1)
  to_far e t =
      let missed : p root ≡ false = ap p same ∙ e in
      let none : first_where p (nodes_from side near) ≡ None = none_before p (nodes_from side near) root (nodes_from side far) upward missed in
      let later : first_where p (root ∷ nodes_from side far) ≡ first_where p (nodes_from side far) = first_later p root (nodes_from side far) missed in
      record {
        rest = far;
        hangs = t;
        upward = (upward_right p (nodes_from side near) (root ∷ nodes_from side far) upward).1;
        node_is = node_is ∙ ap (λ o. option_or (option_or o (first_where p (root ∷ nodes_from side far))) found) none ∙ ap (λ o. option_or o found) later;
        reach = omega (arith, k, taller_far side root colour near far);
      }

near_of : (bytes : List ℕ) (side : Side) (p : ℕ → Bool) (shape rest : Tree) (at : ℕ) (found : Option ℕ) (count : ℕ) → p at ≡ true → IsTree bytes (Some at) rest → IsUpward p (nodes_from side rest)
    → first_where p (nodes_from side shape) ≡ option_or (first_where p (nodes_from side rest)) found → count + tall rest ≤ tall shape → IsSearching bytes side p shape (target bytes (side_word at side)) (Some at) (count + 1)
near_of bytes side p shape leaf at found count e t u f k = absurd t
near_of bytes Left p shape (fork l a c r) at found count e t u f k = to_near bytes Left p shape at a c l r found count t.0 u f k e t.2
near_of bytes Right p shape (fork l a c r) at found count e t u f k = to_near bytes Right p shape at a c r l found count t.0 u f k e t.3

far_of : (bytes : List ℕ) (side : Side) (p : ℕ → Bool) (shape rest : Tree) (at : ℕ) (found : Option ℕ) (count : ℕ) → p at ≡ false → IsTree bytes (Some at) rest → IsUpward p (nodes_from side rest)
    → first_where p (nodes_from side shape) ≡ option_or (first_where p (nodes_from side rest)) found → count + tall rest ≤ tall shape → IsSearching bytes side p shape (target bytes (side_word at (opposite side))) found (count + 1)
far_of bytes side p shape leaf at found count e t u f k = absurd t
far_of bytes Left p shape (fork l a c r) at found count e t u f k = to_far bytes Left p shape at a c l r found count t.0 u f k e t.3
far_of bytes Right p shape (fork l a c r) at found count e t u f k = to_far bytes Right p shape at a c r l found count t.0 u f k e t.2

-- ---- the steps of the code

module _ (bytes : List ℕ) (side : Side) (p : ℕ → Bool) (shape : Tree) (place found : Option ℕ) (count : ℕ) (s : IsSearching bytes side p shape place found count) where
  -- the node has the property: the search continues before it
  pub went_near : (at : ℕ) (next : Option ℕ) → place ≡ Some at → p at ≡ true → next ≡ target bytes (side_word at side) → IsSearching bytes side p shape next (Some at) (count + 1)
  went_near at next e t n =
      subst (λ o. IsSearching bytes side p shape o (Some at) (count + 1)) (sym n) (near_of bytes side p shape s.rest at found count t (subst (λ o. IsTree bytes o s.rest) e s.hangs) s.upward s.node_is s.reach)

  -- the node doesn't have it: the search continues after it
  pub went_far : (at : ℕ) (next : Option ℕ) → place ≡ Some at → p at ≡ false → next ≡ target bytes (side_word at (opposite side)) → IsSearching bytes side p shape next found (count + 1)
  went_far at next e t n =
      subst (λ o. IsSearching bytes side p shape o found (count + 1)) (sym n) (far_of bytes side p shape s.rest at found count t (subst (λ o. IsTree bytes o s.rest) e s.hangs) s.upward s.node_is s.reach)

  nothing_left : s.rest ≡ leaf → found ≡ first_where p (nodes_from side shape)
  nothing_left e = sym (s.node_is ∙ ap (λ t. option_or (first_where p (nodes_from side t)) found) e ∙ ap (λ ns. option_or (first_where p ns) found) (no_nodes side))

  is_leaf : (t : Tree) → IsTree bytes None t → t ≡ leaf
  is_leaf leaf h = refl
  is_leaf (fork l a c r) h = absurd h

  is_low : (t : Tree) → tall t ≤ 0 → t ≡ leaf
  is_low leaf h = refl
  is_low (fork l a c r) h = absurd (omega arith)

  -- the place is empty
  pub came_to_end : place ≡ None → found ≡ first_where p (nodes_from side shape)
  came_to_end e = nothing_left (is_leaf s.rest (subst (λ o. IsTree bytes o s.rest) e s.hangs))

  -- no path is longer
  pub went_down : (root : ℕ) → IsSearchTree bytes root shape → 64 ≤ count → found ≡ first_where p (nodes_from side shape)
  went_down root t enough = nothing_left (is_low s.rest (omega (arith, s.reach, deep-64 shape t.red_black t.few)))

-- ---- a property of every node

each_true : (ns : List ℕ) → AllByRecursion (λ _. true ≡ true) ns
each_true [] = tt
each_true (x ∷ xs) = (refl, each_true xs)

-- a property of every node is one that all later nodes have
pub always : (ns : List ℕ) → IsUpward (λ _. true) ns
always [] = tt
always (x ∷ xs) = (λ _. each_true xs, always xs)
