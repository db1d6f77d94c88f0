-- Nodes in ascending order of their numbers: the results of searches, and adding or removing a
-- node.
use Rattle.std.proofs.Common.{◌≡◌, ◌≢◌, ℕ, zero, suc, ◌+◌, ◌-◌, Bool, true, false, cond, ltb, not, ◌&&◌, ℤ, ◌<ℤ◌, List, [], ◌∷◌, ◌++◌, ◌⊎◌, inl, inr, length, map, take, drop}
use Rattle.std.proofs.Common.{Option, Some, None, MatchOption, option_map, refl, sym, ap, ◌∙◌, subst, arith, zero-add}
use Rattle.std.specs.Prelude.{int_lt, slice_get, insert, remove, position, eqb}
use Rattle.std.specs.List.{prefix_len}
use Rattle.std.specs.List.{AllByRecursion}
use Rattle.std.specs.Option.{option_or, IfSome}
use Rattle.std.specs.Ordering.{int_cmp, is_eq, is_lt, ordering_reverse, MatchOrdering}
use Rattle.std.specs.Cmp.{int_cmp_is, int_ranks, int_cmp_total}
use Rattle.std.specs.declared.cmp.Ordering.{Ordering}
use Rattle.std.specs.declared.cmp.Ordering.TheVariants.{Less, Equal, Greater}
use Rattle.std.proofs.lemmas.Bool.Decides.{nat_tests}
use Rattle.std.proofs.lemmas.List.Sums.{sum_by-cons}
use Rattle.seg_spec.specs.Value.{IsAscending, same_int}
use Rattle.seg_spec.specs.Items.{key_place, keys_below}
use Rattle.seg_spec.specs.Search.{Ascend, first_where, reaches}
use Rattle.seg_spec.proofs.Values.PlaceFrameLaws.{each_weaker}
use Rattle.seg_spec.proofs.Values.PathFrameLaws.{each_at}
use Rattle.seg_rbtree.specs.Changes.{with_node, without_node}
use Rattle.seg_rbtree.specs.Paths.{IsEqualAmong}
use Rattle.seg_rbtree.proofs.Orders.{ascend-parts}
use Rattle.seg_rbtree.specs.Sides.{last_where}
use Rattle.seg_rbtree.proofs.FirstNodeSearchLaws.{or_none}
use Rattle.seg_rbtree.proofs.SideSearchLaws.{last_more}
use Rattle.seg_map.specs.Maps.{first_of, last_of, keys_above, lower_keys}

-- ---- two numbers

less_by : (x y : Bool) → cond x Less (cond y Greater Equal) ≡ Less → x ≡ true
less_by true y e = refl
less_by false true e = cc
less_by false false e = cc

greater_by : (x y : Bool) → cond x Less (cond y Greater Equal) ≡ Greater → (x ≡ false) × (y ≡ true)
greater_by true y e = cc
greater_by false true e = (refl, refl)
greater_by false false e = cc

equal_by : (x y : Bool) → cond x Less (cond y Greater Equal) ≡ Equal → (x ≡ false) × (y ≡ false)
equal_by true y e = cc
equal_by false true e = cc
equal_by false false e = (refl, refl)

-- the result of a comparison, as tests
pub less_tests : (a b : ℤ) → int_cmp a b ≡ Less → (int_lt a b ≡ true) × (int_lt b a ≡ false)
less_tests a b e = (less_by (int_lt a b) (int_lt b a) e, (greater_by (int_lt b a) (int_lt a b) (int_cmp_total.antisymm b a ∙ ap ordering_reverse e)).0)

pub greater_tests : (a b : ℤ) → int_cmp a b ≡ Greater → (int_lt a b ≡ false) × (int_lt b a ≡ true)
greater_tests a b e = greater_by (int_lt a b) (int_lt b a) e

pub equal_tests : (a b : ℤ) → int_cmp a b ≡ Equal → (int_lt a b ≡ false) × (int_lt b a ≡ false)
equal_tests a b e = equal_by (int_lt a b) (int_lt b a) e

pub same_of_equal : (a b : ℤ) → int_cmp a b ≡ Equal → a ≡ b
same_of_equal a b e = subst (λ r. MatchOrdering r (a <ℤ b) (a ≡ b) (b <ℤ a)) e (int_ranks a b)

pub below_of_less : (a b : ℤ) → int_cmp a b ≡ Less → a <ℤ b
below_of_less a b e = subst (λ r. MatchOrdering r (a <ℤ b) (a ≡ b) (b <ℤ a)) e (int_ranks a b)

pub less_of_below : (a b : ℤ) → a <ℤ b → int_cmp a b ≡ Less
less_of_below a b h = sym (int_cmp_is a b Less h)

pub equal_self : (a : ℤ) → int_cmp a a ≡ Equal
equal_self a = sym (int_cmp_is a a Equal refl)

pub less_of_greater : (a b : ℤ) → int_cmp a b ≡ Greater → int_cmp b a ≡ Less
less_of_greater a b e = int_cmp_total.antisymm b a ∙ ap ordering_reverse e

-- ---- the last number

end_there : (x : ℤ) (xs : List ℤ) (o : Option ℤ) → option_or (slice_get (x ∷ xs) (length xs)) o ≡ slice_get (x ∷ xs) (length xs)
end_there x [] o = refl
end_there x (y ∷ ys) o = end_there y ys o

last_of_more : (x : ℤ) (xs : List ℤ) → last_of (x ∷ xs) ≡ option_or (last_of xs) (Some x)
last_of_more x [] = refl
last_of_more x (y ∷ ys) =
    let end : suc (suc (length ys)) - 1 ≡ suc (length ys) = omega arith in
    let end_of_rest : length ys ≡ suc (length ys) - 1 = omega arith in
    ap (slice_get (x ∷ y ∷ ys)) end ∙ sym (end_there y ys (Some x)) ∙ ap (λ n. option_or (slice_get (y ∷ ys) n) (Some x)) end_of_rest

-- ---- the node of a search is among the nodes

pub record HasNode (nodes : List ℕ) (node : ℕ) : Type 0 where
  pub i : ℕ
  pub node_is : slice_get nodes i ≡ Some node

pub first_there : (p : ℕ → Bool) (nodes : List ℕ) → IfSome (first_where p nodes) (HasNode nodes)
first_there p [] = tt
first_there p (x ∷ xs) = go (p x) (first_where p xs) (first_there p xs)
  where
    go : (b : Bool) (o : Option ℕ) → IfSome o (HasNode xs) → IfSome (cond b (Some x) o) (HasNode (x ∷ xs))
    go true o h = record { i = 0; node_is = refl }
    go false None h = tt
    go false (Some y) h = record { i = suc h.i; node_is = h.node_is }

pub last_there : (p : ℕ → Bool) (nodes : List ℕ) → IfSome (last_where p nodes) (HasNode nodes)
last_there p [] = tt
last_there p (x ∷ xs) = subst (λ o. IfSome o (HasNode (x ∷ xs))) (sym (last_more p x xs)) (go (p x) (last_where p xs) (last_there p xs))
  where
    go : (b : Bool) (o : Option ℕ) → IfSome o (HasNode xs) → IfSome (option_or o (cond b (Some x) None)) (HasNode (x ∷ xs))
    go b (Some y) h = record { i = suc h.i; node_is = h.node_is }
    go true None h = record { i = 0; node_is = refl }
    go false None h = tt

-- ---- nodes and their numbers

module _ (f : ℕ → ℤ) where
  abbrev pub Before : ℤ → List ℕ → Type 0
  Before k nodes = AllByRecursion (λ x. int_cmp (f x) k ≡ Less) nodes

  abbrev pub After : ℤ → List ℕ → Type 0
  After k nodes = AllByRecursion (λ x. int_cmp (f x) k ≡ Greater) nodes

  -- ---- nodes in order

  abbrev pub by : ℕ → ℕ → Ordering
  by x y = int_cmp (f x) (f y)

  ascend_more : (x y : ℕ) (ys : List ℕ) → by x y ≡ Less → AllByRecursion (λ z. by y z ≡ Less) ys → AllByRecursion (λ z. by x z ≡ Less) ys
  ascend_more x y ys e h = each_weaker _ _ (λ z l. int_cmp_total.trans (f x) (f y) (f z) e l) ys h

  pub ascend_of : (nodes : List ℕ) → IsAscending (map f nodes) → Ascend by nodes
  ascend_of [] h = tt
  ascend_of (x ∷ []) h = (tt, tt)
  ascend_of (x ∷ y ∷ ys) h =
      let rest = ascend_of (y ∷ ys) h.1 in
      let one = less_of_below (f x) (f y) h.0 in
      ((one, ascend_more x y ys one rest.0), rest)

  pub ascending_of : (nodes : List ℕ) → Ascend by nodes → IsAscending (map f nodes)
  ascending_of [] h = tt
  ascending_of (x ∷ []) h = tt
  ascending_of (x ∷ y ∷ ys) h = (below_of_less (f x) (f y) h.0.0, ascending_of (y ∷ ys) h.1)

  -- ---- the position of a number

  -- the nodes before a number, and the nodes after it
  pub record Apart (k : ℤ) (nodes : List ℕ) : Type 0 where
    pub front : List ℕ
    pub back : List ℕ
    pub nodes_are : nodes ≡ front ++ back
    pub low : Before k front
    pub high : After k back

  by_compare : (r : Ordering) → r ≢ Equal → (r ≡ Less) ⊎ (r ≡ Greater)
  by_compare Less ne = inl refl
  by_compare Equal ne = absurd (ne refl)
  by_compare Greater ne = inr refl

  above_all : (k : ℤ) (x : ℕ) (xs : List ℕ) → int_cmp (f x) k ≡ Greater → AllByRecursion (λ y. by x y ≡ Less) xs → After k xs
  above_all k x xs e h = each_weaker _ _ (λ y l. int_cmp_total.antisymm (f y) k ∙ ap ordering_reverse (int_cmp_total.trans k (f x) (f y) (less_of_greater (f x) k e) l)) xs h

  pub apart_at : (k : ℤ) (nodes : List ℕ) → Ascend by nodes → AllByRecursion (λ x. int_cmp (f x) k ≢ Equal) nodes → Apart k nodes
  apart_at k [] a h = record { front = []; back = []; nodes_are = refl; low = tt; high = tt }
  apart_at k (x ∷ xs) a h = go (by_compare (int_cmp (f x) k) h.0) (apart_at k xs a.1 h.1)
    where
      go : (int_cmp (f x) k ≡ Less) ⊎ (int_cmp (f x) k ≡ Greater) → Apart k xs → Apart k (x ∷ xs)
      go (inl e) r = record { front = x ∷ r.front; back = r.back; nodes_are = ap (λ ys. x ∷ ys) r.nodes_are; low = (e, r.low); high = r.high }
      go (inr e) r = record { front = []; back = x ∷ xs; nodes_are = refl; low = tt; high = (e, above_all k x xs e a.0) }

  -- the nodes before a number, the node with the number, and the nodes after it
  pub record Around (k : ℤ) (nodes : List ℕ) (node : ℕ) : Type 0 where
    pub front : List ℕ
    pub back : List ℕ
    pub nodes_are : nodes ≡ front ++ node ∷ back
    pub low : Before k front
    pub is : int_cmp (f node) k ≡ Equal
    pub high : After k back

  pub around_at : (k : ℤ) (nodes : List ℕ) (node : ℕ) → Ascend by nodes → IsEqualAmong (λ x. int_cmp (f x) k) nodes node → Around k nodes node
  around_at k nodes node a e =
      let p = ascend-parts by e.front node e.back (subst (Ascend by) e.nodes_are a) in
      let same = same_of_equal (f node) k e.equals in
      record {
        front = e.front;
        back = e.back;
        nodes_are = e.nodes_are;
        low = each_weaker _ _ (λ x l. ap (int_cmp (f x)) (sym same) ∙ l) e.front p.before;
        is = e.equals;
        high = each_weaker _ _ (λ x l. ap (int_cmp (f x)) (sym same) ∙ int_cmp_total.antisymm (f x) (f node) ∙ ap ordering_reverse l) e.back p.following;
      }

  -- ---- the position of a key

  differs : (k : ℤ) (x : ℕ) → int_cmp (f x) k ≢ Equal → same_int k (f x) ≡ false
  differs k x ne = go (by_compare (int_cmp (f x) k) ne)
    where
      go : (int_cmp (f x) k ≡ Less) ⊎ (int_cmp (f x) k ≡ Greater) → same_int k (f x) ≡ false
      go (inl e) = let t = less_tests (f x) k e in rw (t.0, t.1) refl
      go (inr e) = let t = greater_tests (f x) k e in rw (t.0, t.1) refl

  equals : (k : ℤ) (x : ℕ) → int_cmp (f x) k ≡ Equal → same_int k (f x) ≡ true
  equals k x e = let t = equal_tests (f x) k e in rw (t.0, t.1) refl

  test_further : (n m : ℕ) → ltb (1 + n) (suc m) ≡ ltb n m
  test_further n m = grind (arith, nat_tests)

  first_test : (m : ℕ) → ltb 0 (suc m) ≡ true
  first_test m = grind (arith, nat_tests)

  further_place : (b : Bool) (n : ℕ) → cond b (Some (1 + n)) None ≡ option_map suc (cond b (Some n) None)
  further_place true n = ap Some (omega arith)
  further_place false n = refl

  past : (p : ℤ → Bool) (x : ℤ) (xs : List ℤ) → p x ≡ false → position p (x ∷ xs) ≡ option_map suc (position p xs)
  past p x xs e = ap (λ b. cond (ltb (cond (not b) (1 + prefix_len (λ y. not (p y)) xs) 0) (suc (length xs))) (Some (cond (not b) (1 + prefix_len (λ y. not (p y)) xs) 0)) None) e
      ∙ ap (λ b. cond b (Some (1 + prefix_len (λ y. not (p y)) xs)) None) (test_further (prefix_len (λ y. not (p y)) xs) (length xs))
      ∙ further_place (ltb (prefix_len (λ y. not (p y)) xs) (length xs)) (prefix_len (λ y. not (p y)) xs)

  here : (p : ℤ → Bool) (x : ℤ) (xs : List ℤ) → p x ≡ true → position p (x ∷ xs) ≡ Some 0
  here p x xs e = ap (λ b. cond (ltb (cond (not b) (1 + prefix_len (λ y. not (p y)) xs) 0) (suc (length xs))) (Some (cond (not b) (1 + prefix_len (λ y. not (p y)) xs) 0)) None) e
      ∙ ap (λ b. cond b (Some 0) None) (first_test (length xs))

  pub no_place : (k : ℤ) (nodes : List ℕ) → AllByRecursion (λ x. int_cmp (f x) k ≢ Equal) nodes → key_place (map f nodes) k ≡ None
  no_place k [] h = refl
  no_place k (x ∷ xs) h = past (same_int k) (f x) (map f xs) (differs k x h.0) ∙ ap (option_map suc) (no_place k xs h.1)

  pub place_after : (k : ℤ) (front : List ℕ) (node : ℕ) (back : List ℕ) → Before k front → int_cmp (f node) k ≡ Equal → key_place (map f (front ++ node ∷ back)) k ≡ Some (length front)
  place_after k [] node back h e = here (same_int k) (f node) (map f back) (equals k node e)
  place_after k (x ∷ front) node back h e = past (same_int k) (f x) (map f (front ++ node ∷ back)) (differs k x (λ same. let both : Less ≡ Equal = sym h.0 ∙ same in cc)) ∙ ap (option_map suc) (place_after k front node back h.1 e)

  -- ---- the results of searches

  found_test : (k : ℤ) (x : ℕ) → is_eq (int_cmp (f x) k) ≡ same_int k (f x)
  found_test k x = go (int_lt (f x) k) (int_lt k (f x))
    where
      go : (a b : Bool) → is_eq (cond a Less (cond b Greater Equal)) ≡ not b && not a
      go true true = refl
      go true false = refl
      go false true = refl
      go false false = refl

  -- a node and its number have the same index in their lists
  pub record AtPlace (k : ℤ) (nodes : List ℕ) (node : ℕ) : Type 0 where
    pub i : ℕ
    pub place_is : key_place (map f nodes) k ≡ Some i
    pub node_is : slice_get nodes i ≡ Some node

  at_further : (k : ℤ) (x : ℕ) (xs : List ℕ) (node : ℕ) → same_int k (f x) ≡ false → AtPlace k xs node → AtPlace k (x ∷ xs) node
  at_further k x xs node e a = record { i = suc a.i; place_is = past (same_int k) (f x) (map f xs) e ∙ ap (option_map suc) a.place_is; node_is = a.node_is }

  -- a node of the list has the index of its number, since the numbers ascend
  pub own_place : (nodes : List ℕ) → Ascend by nodes → (i : ℕ) (node : ℕ) → slice_get nodes i ≡ Some node → AtPlace (f node) nodes node
  own_place [] a i node e = cc
  own_place (x ∷ xs) a zero node e =
      let same : x ≡ node = cc in
      subst (λ y. AtPlace (f y) (x ∷ xs) y) same (record { i = 0; place_is = here (same_int (f x)) (f x) (map f xs) (equals (f x) x (equal_self (f x))); node_is = refl })
  own_place (x ∷ xs) a (suc i) node e =
      let less : by x node ≡ Less = each_at (λ z. by x z ≡ Less) xs i node a.0 e in
      at_further (f node) x xs node (differs (f node) x (λ same. let both : Less ≡ Equal = sym less ∙ same in cc)) (own_place xs a.1 i node e)

  pub found : (k : ℤ) (nodes : List ℕ) → MatchOption (first_where (λ x. is_eq (int_cmp (f x) k)) nodes) (key_place (map f nodes) k ≡ None) (AtPlace k nodes)
  found k [] = refl
  found k (x ∷ xs) = go (is_eq (int_cmp (f x) k)) refl (first_where (λ y. is_eq (int_cmp (f y) k)) xs) (found k xs)
    where
      go : (b : Bool) → is_eq (int_cmp (f x) k) ≡ b → (o : Option ℕ) → MatchOption o (key_place (map f xs) k ≡ None) (AtPlace k xs)
          → MatchOption (cond b (Some x) o) (key_place (map f (x ∷ xs)) k ≡ None) (AtPlace k (x ∷ xs))
      go true e o h = record { i = 0; place_is = here (same_int k) (f x) (map f xs) (sym (found_test k x) ∙ e); node_is = refl }
      go false e None h = past (same_int k) (f x) (map f xs) (sym (found_test k x) ∙ e) ∙ ap (option_map suc) h
      go false e (Some y) h = at_further k x xs y (sym (found_test k x) ∙ e) h

  pub first_found : (nodes : List ℕ) → option_map f (first_where (λ x. true) nodes) ≡ first_of (map f nodes)
  first_found [] = refl
  first_found (x ∷ xs) = refl

  above_test : (k : ℤ) (x : ℕ) → reaches Greater (int_cmp (f x) k) ≡ int_lt k (f x)
  above_test k x = go (int_cmp (f x) k) refl
    where
      go : (r : Ordering) → int_cmp (f x) k ≡ r → reaches Greater r ≡ int_lt k (f x)
      go Less e = sym (less_tests (f x) k e).1
      go Equal e = sym (equal_tests (f x) k e).1
      go Greater e = sym (greater_tests (f x) k e).1

  pub next_found : (k : ℤ) (nodes : List ℕ) → option_map f (first_where (λ x. reaches Greater (int_cmp (f x) k)) nodes) ≡ first_of (keys_above (map f nodes) k)
  next_found k [] = refl
  next_found k (x ∷ xs) = go (reaches Greater (int_cmp (f x) k)) refl (next_found k xs)
    where
      go : (b : Bool) → reaches Greater (int_cmp (f x) k) ≡ b → option_map f (first_where (λ y. reaches Greater (int_cmp (f y) k)) xs) ≡ first_of (keys_above (map f xs) k)
          → option_map f (cond b (Some x) (first_where (λ y. reaches Greater (int_cmp (f y) k)) xs)) ≡ first_of (cond (int_lt k (f x)) (f x ∷ keys_above (map f xs) k) (keys_above (map f xs) k))
      go true e h = ap (λ b. first_of (cond b (f x ∷ keys_above (map f xs) k) (keys_above (map f xs) k))) (sym e ∙ above_test k x)
      go false e h = h ∙ ap (λ b. first_of (cond b (f x ∷ keys_above (map f xs) k) (keys_above (map f xs) k))) (sym e ∙ above_test k x)

  mapped_or : (o : Option ℕ) (x : ℕ) → option_map f (option_or o (Some x)) ≡ option_or (option_map f o) (Some (f x))
  mapped_or None x = refl
  mapped_or (Some y) x = refl

  pub last_found : (nodes : List ℕ) → option_map f (last_where (λ x. true) nodes) ≡ last_of (map f nodes)
  last_found [] = refl
  last_found (x ∷ xs) =
      ap (option_map f) (last_more (λ y. true) x xs) ∙ mapped_or (last_where (λ y. true) xs) x ∙ ap (λ o. option_or o (Some (f x))) (last_found xs) ∙ sym (last_of_more (f x) (map f xs))

  below_test : (k : ℤ) (x : ℕ) → is_lt (int_cmp (f x) k) ≡ int_lt (f x) k
  below_test k x = go (int_cmp (f x) k) refl
    where
      go : (r : Ordering) → int_cmp (f x) k ≡ r → is_lt r ≡ int_lt (f x) k
      go Less e = sym (less_tests (f x) k e).0
      go Equal e = sym (equal_tests (f x) k e).0
      go Greater e = sym (greater_tests (f x) k e).0

  pub previous_found : (k : ℤ) (nodes : List ℕ) → option_map f (last_where (λ x. is_lt (int_cmp (f x) k)) nodes) ≡ last_of (lower_keys (map f nodes) k)
  previous_found k [] = refl
  previous_found k (x ∷ xs) = ap (option_map f) (last_more (λ y. is_lt (int_cmp (f y) k)) x xs) ∙ go (is_lt (int_cmp (f x) k)) refl (last_where (λ y. is_lt (int_cmp (f y) k)) xs) (previous_found k xs)
    where
      go : (b : Bool) → is_lt (int_cmp (f x) k) ≡ b → (o : Option ℕ) → option_map f o ≡ last_of (lower_keys (map f xs) k)
          → option_map f (option_or o (cond b (Some x) None)) ≡ last_of (cond (int_lt (f x) k) (f x ∷ lower_keys (map f xs) k) (lower_keys (map f xs) k))
      go true e o h = mapped_or o x ∙ ap (λ r. option_or r (Some (f x))) h ∙ sym (last_of_more (f x) (lower_keys (map f xs) k))
          ∙ ap (λ b. last_of (cond b (f x ∷ lower_keys (map f xs) k) (lower_keys (map f xs) k))) (sym e ∙ below_test k x)
      go false e o h = ap (option_map f) (or_none o) ∙ h ∙ ap (λ b. last_of (cond b (f x ∷ lower_keys (map f xs) k) (lower_keys (map f xs) k))) (sym e ∙ below_test k x)

  -- ---- a node is added or removed

  -- the number of smaller numbers, if the list has one number more
  below_one : (k : ℤ) (x : ℤ) (xs : List ℤ) → keys_below (x ∷ xs) k ≡ cond (int_lt x k) 1 0 + keys_below xs k
  below_one k x xs = sum_by-cons (λ y. cond (int_lt y k) 1 0) x xs

  below_front : (k : ℤ) (front back : List ℕ) → Before k front → AllByRecursion (λ x. int_lt (f x) k ≡ false) back → keys_below (map f (front ++ back)) k ≡ length front
  below_front k [] [] h b = refl
  below_front k [] (x ∷ xs) h b = below_one k (f x) (map f xs) ∙ ap (λ t. cond t 1 0 + keys_below (map f xs) k) b.0 ∙ zero-add (keys_below (map f xs) k) ∙ below_front k [] xs tt b.1
  below_front k (x ∷ front) back h b =
      let rest = below_front k front back h.1 b in
      below_one k (f x) (map f (front ++ back)) ∙ ap (λ t. cond t 1 0 + keys_below (map f (front ++ back)) k) (less_tests (f x) k h.0).0 ∙ ap (λ n. 1 + n) rest ∙ one_more (length front)
    where
      one_more : (n : ℕ) → 1 + n ≡ suc n
      one_more n = omega arith

  taken : (front back : List ℤ) → take (length front) (front ++ back) ≡ front
  taken [] back = refl
  taken (x ∷ xs) back = ap (λ ys. x ∷ ys) (taken xs back)

  dropped : (front back : List ℤ) → drop (length front) (front ++ back) ≡ back
  dropped [] back = refl
  dropped (x ∷ xs) back = dropped xs back

  map_parts : (xs ys : List ℕ) → map f (xs ++ ys) ≡ map f xs ++ map f ys
  map_parts [] ys = refl
  map_parts (x ∷ xs) ys = ap (λ zs. f x ∷ zs) (map_parts xs ys)

  map_long : (xs : List ℕ) → length (map f xs) ≡ length xs
  map_long [] = refl
  map_long (x ∷ xs) = ap suc (map_long xs)

  after_tests : (k : ℤ) (back : List ℕ) → After k back → AllByRecursion (λ x. int_lt (f x) k ≡ false) back
  after_tests k back h = each_weaker _ _ (λ x e. (greater_tests (f x) k e).0) back h

  inserted_at : (xs front back : List ℤ) (k : ℤ) (n : ℕ) → xs ≡ front ++ back → n ≡ length front → insert xs n k ≡ front ++ k ∷ back
  inserted_at xs front back k n e m = ap (λ ys. insert ys n k) e ∙ ap (λ i. insert (front ++ back) i k) m ∙ ap (λ ys. ys ++ k ∷ drop (length front) (front ++ back)) (taken front back) ∙ ap (λ ys. front ++ k ∷ ys) (dropped front back)

  -- the numbers of the nodes after a node was added
  pub more_keys : (k : ℤ) (node : ℕ) (front back : List ℕ) → f node ≡ k → Before k front → After k back
      → insert (map f (front ++ back)) (keys_below (map f (front ++ back)) k) k ≡ map f (front ++ node ∷ back)
  more_keys k node front back e low high =
      inserted_at (map f (front ++ back)) (map f front) (map f back) k (keys_below (map f (front ++ back)) k) (map_parts front back) (below_front k front back low (after_tests k back high) ∙ sym (map_long front))
      ∙ ap (λ n. map f front ++ n ∷ map f back) (sym e) ∙ sym (map_parts front (node ∷ back))

  pub place_of_more : (k : ℤ) (front back : List ℕ) → Before k front → After k back → keys_below (map f (front ++ back)) k ≡ length front
  place_of_more k front back low high = below_front k front back low (after_tests k back high)

  -- a node is inserted before the nodes after it
  comes_here : (node : ℕ) (back : List ℕ) → After (f node) back → with_node by node back ≡ node ∷ back
  comes_here node [] h = refl
  comes_here node (x ∷ xs) h = let e : is_lt (int_cmp (f node) (f x)) ≡ true = ap is_lt (less_of_greater (f x) (f node) h.0) in rw e refl

  pub comes_between : (node : ℕ) (front back : List ℕ) → Before (f node) front → After (f node) back → with_node by node (front ++ back) ≡ front ++ node ∷ back
  comes_between node [] back low high = comes_here node back high
  comes_between node (x ∷ front) back low high =
      let rest = comes_between node front back low.1 high in
      let e : is_lt (int_cmp (f node) (f x)) ≡ false = ap is_lt (int_cmp_total.antisymm (f node) (f x) ∙ ap ordering_reverse low.0) in
      rw e (ap (λ ys. x ∷ ys) rest)

  ascend_before : (node : ℕ) (front back : List ℕ) → Ascend by (front ++ back) → Before (f node) front → After (f node) back → Ascend by (front ++ node ∷ back)
  ascend_before node [] back a low high = (each_weaker _ _ (λ x e. less_of_greater (f x) (f node) e) back high, a)
  ascend_before node (x ∷ front) back a low high =
      (each_joined_with x node front back low.0 a.0, ascend_before node front back a.1 low.1 high)
    where
      each_joined_with : (x node : ℕ) (front back : List ℕ) → by x node ≡ Less → AllByRecursion (λ y. by x y ≡ Less) (front ++ back) → AllByRecursion (λ y. by x y ≡ Less) (front ++ node ∷ back)
      each_joined_with x node [] back e h = (e, h)
      each_joined_with x node (y ∷ front) back e h = (h.0, each_joined_with x node front back e h.1)

  -- the numbers still ascend after a node was added
  pub ascends_with : (node : ℕ) (front back : List ℕ) → Ascend by (front ++ back) → Before (f node) front → After (f node) back → IsAscending (map f (front ++ node ∷ back))
  ascends_with node front back a low high = ascending_of (front ++ node ∷ back) (ascend_before node front back a low high)

  ascend_less : (node : ℕ) (front back : List ℕ) → Ascend by (front ++ node ∷ back) → Ascend by (front ++ back)
  ascend_less node [] back a = a.1
  ascend_less node (x ∷ front) back a = (each_less x node front back a.0, ascend_less node front back a.1)
    where
      each_less : (x node : ℕ) (front back : List ℕ) → AllByRecursion (λ y. by x y ≡ Less) (front ++ node ∷ back) → AllByRecursion (λ y. by x y ≡ Less) (front ++ back)
      each_less x node [] back h = h.1
      each_less x node (y ∷ front) back h = (h.0, each_less x node front back h.1)

  pub ascends_without : (node : ℕ) (front back : List ℕ) → Ascend by (front ++ node ∷ back) → IsAscending (map f (front ++ back))
  ascends_without node front back a = ascending_of (front ++ back) (ascend_less node front back a)

  removed_at : (xs front back : List ℤ) (k : ℤ) (n : ℕ) → xs ≡ front ++ k ∷ back → n ≡ length front → remove xs n ≡ front ++ back
  removed_at xs front back k n e m = ap (λ ys. remove ys n) e ∙ ap (λ i. remove (front ++ k ∷ back) i) m ∙ ap (λ ys. ys ++ drop (suc (length front)) (front ++ k ∷ back)) (taken front (k ∷ back)) ∙ ap (λ ys. front ++ ys)
      (past_one front back)
    where
      past_one : (front back : List ℤ) → drop (suc (length front)) (front ++ k ∷ back) ≡ back
      past_one [] back = refl
      past_one (x ∷ xs) back = past_one xs back

  -- the numbers of the nodes after a node was removed
  pub fewer_keys : (node : ℕ) (front back : List ℕ) → remove (map f (front ++ node ∷ back)) (length front) ≡ map f (front ++ back)
  fewer_keys node front back = removed_at (map f (front ++ node ∷ back)) (map f front) (map f back) (f node) (length front) (map_parts front (node ∷ back)) (sym (map_long front)) ∙ sym (map_parts front back)

  differ_before : (k : ℤ) (node : ℕ) (front : List ℕ) → int_cmp (f node) k ≡ Equal → Before k front → AllByRecursion (λ x. node ≢ x) front
  differ_before k node front e h = each_weaker _ _ (λ x l same. let both : Less ≡ Equal = sym l ∙ ap (λ y. int_cmp (f y) k) (sym same) ∙ e in absurd (cc)) front h

  goes_from : (node : ℕ) (front back : List ℕ) → AllByRecursion (λ x. node ≢ x) front → without_node node (front ++ node ∷ back) ≡ front ++ back
  goes_from node [] back h = let same : eqb node node ≡ true = grind (arith, nat_tests) in rw same refl
  goes_from node (x ∷ front) back h =
      let ne = h.0 in
      let other : eqb node x ≡ false = grind (arith, nat_tests) in
      let rest = goes_from node front back h.1 in
      rw other (ap (λ ys. x ∷ ys) rest)

  pub goes_between : (k : ℤ) (node : ℕ) (front back : List ℕ) → int_cmp (f node) k ≡ Equal → Before k front → without_node node (front ++ node ∷ back) ≡ front ++ back
  goes_between k node front back e h = goes_from node front back (differ_before k node front e h)

  -- ---- the index of a node in other lists

  -- in a list in order, a number and its node have the same index
  pub place_of : (k : ℤ) (nodes : List ℕ) (x j : ℕ) → Ascend by nodes → slice_get nodes j ≡ Some x → int_cmp (f x) k ≡ Equal → key_place (map f nodes) k ≡ Some j
  place_of k [] x j a at e = cc
  place_of k (y ∷ ys) x zero a at e = let same : y ≡ x = cc in here (same_int k) (f y) (map f ys) (equals k y (ap (λ z. int_cmp (f z) k) same ∙ e))
  place_of k (y ∷ ys) x (suc j) a at e =
      let below : int_cmp (f y) k ≡ Less = ap (int_cmp (f y)) (sym (same_of_equal (f x) k e)) ∙ each_at (λ z. by y z ≡ Less) ys j x a.0 at in
      past (same_int k) (f y) (map f ys) (differs k y (λ same. let both : Less ≡ Equal = sym below ∙ same in cc)) ∙ ap (option_map suc) (place_of k ys x j a.1 at e)

  some_same : (i j : ℕ) → Some i ≡ Some j → i ≡ j
  some_same i j e = cc

  pub key_of_place : (k : ℤ) (nodes : List ℕ) (i x : ℕ) → key_place (map f nodes) k ≡ Some i → slice_get nodes i ≡ Some x → int_cmp (f x) k ≡ Equal
  key_of_place k [] i x e at = cc
  key_of_place k (y ∷ ys) i x e at = go (int_cmp (f y) k) refl (λ j. key_of_place k ys j x)
    where
      later : (o : Option ℕ) → option_map suc o ≡ Some i → ((j : ℕ) → o ≡ Some j → slice_get ys j ≡ Some x → int_cmp (f x) k ≡ Equal) → int_cmp (f x) k ≡ Equal
      later None d h = cc
      later (Some j) d h = h j refl (subst (λ n. slice_get (y ∷ ys) n ≡ Some x) (sym (some_same (suc j) i d)) at)

      go : (r : Ordering) → int_cmp (f y) k ≡ r → ((j : ℕ) → key_place (map f ys) k ≡ Some j → slice_get ys j ≡ Some x → int_cmp (f x) k ≡ Equal) → int_cmp (f x) k ≡ Equal
      go Equal d h =
          let first : zero ≡ i = some_same zero i (sym (here (same_int k) (f y) (map f ys) (equals k y d)) ∙ e) in
          let it : Some y ≡ Some x = subst (λ n. slice_get (y ∷ ys) n ≡ Some x) (sym first) at in
          ap (λ z. int_cmp (f z) k) (some_same x y (sym it)) ∙ d
      go Less d h = later (key_place (map f ys) k) (sym (past (same_int k) (f y) (map f ys) (differs k y (λ same. let both : Less ≡ Equal = sym d ∙ same in cc))) ∙ e) h
      go Greater d h = later (key_place (map f ys) k) (sym (past (same_int k) (f y) (map f ys) (differs k y (λ same. let both : Greater ≡ Equal = sym d ∙ same in cc))) ∙ e) h

-- an item is still in the list after one was added
pub still_among : (front : List ℕ) (node : ℕ) (back : List ℕ) (i x : ℕ) → slice_get (front ++ back) i ≡ Some x → (j : ℕ) × (slice_get (front ++ node ∷ back) j ≡ Some x)
still_among [] node back i x e = (suc i, e)
still_among (y ∷ front) node back zero x e = (zero, e)
still_among (y ∷ front) node back (suc i) x e = let r = still_among front node back i x e in (suc r.0, r.1)

-- an item is still in the list after another one was removed
pub left_among : (front : List ℕ) (node : ℕ) (back : List ℕ) (i x : ℕ) → slice_get (front ++ node ∷ back) i ≡ Some x → x ≢ node → (j : ℕ) × (slice_get (front ++ back) j ≡ Some x)
left_among [] node back zero x e ne = absurd (ne (let same : node ≡ x = cc in sym same))
left_among [] node back (suc i) x e ne = (i, e)
left_among (y ∷ front) node back zero x e ne = (zero, e)
left_among (y ∷ front) node back (suc i) x e ne = let r = left_among front node back i x e ne in (suc r.0, r.1)
