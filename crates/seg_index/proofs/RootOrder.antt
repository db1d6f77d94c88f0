-- Roots in ascending order of their names, and the position of a name among them.
use Rattle.std.proofs.Common.{◌≡◌, ℕ, zero, suc, ◌+◌, ◌-◌, ◌<◌, ◌≤◌, ◌⊎◌, inl, inr, Bool, true, false, List, [], ◌∷◌, ◌++◌, length, map, Option, Some, None, Result, Ok, Err}
use Rattle.std.proofs.Common.{MatchResult, MatchOption, IfOk, IfErr, option_map, refl, sym, ap, ◌∙◌, subst, arith, zero-add, length-append, lt-ltb, le-ltb, ltb-true}
use Rattle.std.specs.Prelude.{◌==◌, ◌&&◌, ◌||◌, nat_lt, slice_get}
use Rattle.std.specs.List.{AllByRecursion}
use Rattle.std.specs.Result.{result_ok}
use Rattle.std.specs.Ordering.{nat_cmp}
use Rattle.std.specs.Cmp.Lexicographic.{slice_cmp}
use Rattle.std.specs.declared.cmp.Ordering.{Ordering}
use Rattle.std.specs.declared.cmp.Ordering.TheVariants.{Less, Equal, Greater}
use Rattle.std.proofs.lemmas.Bool.Decides.{nat_tests}
use Rattle.std.proofs.lemmas.Option.{slice_get_past}
use Rattle.seg_spec.specs.Index.{Root, Precedes, AreAscending, same_name, root_named}
use Rattle.seg_cells.specs.Search.{IsBetween}
use Rattle.seg_index.specs.Lists.{entry_of, comes_before, root_after, PartedNames, LooksUp}
use Rattle.seg_cells.specs.declared.name_entry.NameEntry.{NameEntry}
use Rattle.seg_cells.proofs.Precedes.{precedes_of_less, precedes_of_greater, same_of_equal, precedes_trans, precedes_differs, same_name_self, precedes_test, precedes_test_back}

-- ---- names before a name, and names after it

abbrev pub AllBefore : List ℕ → List Root → Type 0
AllBefore name roots = AllByRecursion (λ r. Precedes r.name name) roots

abbrev pub AllAfter : List ℕ → List Root → Type 0
AllAfter name roots = AllByRecursion (λ r. Precedes name r.name) roots

-- the names of the roots are in order
abbrev pub InOrder : List Root → Type 0
InOrder roots = AreAscending (map (λ r. r.name) roots)

after_more : (a b : List ℕ) (roots : List Root) → Precedes a b → AllAfter b roots → AllAfter a roots
after_more a b [] h all = tt
after_more a b (r ∷ roots) h all = (precedes_trans a b r.name h all.0, after_more a b roots h all.1)

pub order_tail : (r : Root) (roots : List Root) → InOrder (r ∷ roots) → InOrder roots
order_tail r [] a = tt
order_tail r (s ∷ roots) a = a.1

pub order_head : (r : Root) (roots : List Root) → InOrder (r ∷ roots) → AllAfter r.name roots
order_head r [] a = tt
order_head r (s ∷ roots) a = (a.0, after_more r.name s.name roots a.0 (order_head s roots a.1))

order_cons : (r : Root) (roots : List Root) → AllAfter r.name roots → InOrder roots → InOrder (r ∷ roots)
order_cons r [] all a = tt
order_cons r (s ∷ roots) all a = (all.0, a)

after_append : (name : List ℕ) (xs ys : List Root) → AllAfter name xs → AllAfter name ys → AllAfter name (xs ++ ys)
after_append name [] ys a b = b
after_append name (x ∷ xs) ys a b = (a.0, after_append name xs ys a.1 b)

after_left : (name : List ℕ) (xs ys : List Root) → AllAfter name (xs ++ ys) → AllAfter name xs
after_left name [] ys a = tt
after_left name (x ∷ xs) ys a = (a.0, after_left name xs ys a.1)

after_right : (name : List ℕ) (xs ys : List Root) → AllAfter name (xs ++ ys) → AllAfter name ys
after_right name [] ys a = a
after_right name (x ∷ xs) ys a = after_right name xs ys a.1

-- a root is inserted between the roots before it and those after it
pub order_with : (xs : List Root) (r : Root) (ys : List Root) → InOrder (xs ++ ys) → AllBefore r.name xs → AllAfter r.name ys → InOrder (xs ++ r ∷ ys)
order_with [] r ys a b c = order_cons r ys c a
order_with (x ∷ xs) r ys a b c =
    let h = order_head x (xs ++ ys) a in
    order_cons x (xs ++ r ∷ ys) (after_append x.name xs (r ∷ ys) (after_left x.name xs ys h) (b.0, after_right x.name xs ys h)) (order_with xs r ys (order_tail x (xs ++ ys) a) b.1 c)

pub order_without : (xs : List Root) (r : Root) (ys : List Root) → InOrder (xs ++ r ∷ ys) → InOrder (xs ++ ys)
order_without [] r ys a = order_tail r ys a
order_without (x ∷ xs) r ys a =
    let h = order_head x (xs ++ r ∷ ys) a in
    order_cons x (xs ++ ys) (after_append x.name xs ys (after_left x.name xs (r ∷ ys) h) (after_right x.name xs (r ∷ ys) h).1) (order_without xs r ys (order_tail x (xs ++ r ∷ ys) a))

-- ---- the position of a name

one_more : (x : Root) (names : List Root) (name : List ℕ) (i : ℕ) (these : List Root) → Precedes x.name name → PartedNames names name i these → PartedNames (x ∷ names) name (suc i) these
one_more x names name i these h p = record { before = x ∷ p.before; after = p.after; names_are = ap (λ rs. x ∷ rs) p.names_are; index_is = ap suc p.index_is; low = (h, p.low); its = p.its; high = p.high }

-- each root after a name has a name after it
front_before : (name : List ℕ) (roots : List Root) (i : ℕ) (r : Root) → AllAfter name roots → slice_get roots i ≡ Some r → Precedes name r.name
front_before name [] i r all e = cc
front_before name (s ∷ roots) zero r all e = let same : s ≡ r = cc in subst (λ (t : Root). Precedes name t.name) same all.0
front_before name (s ∷ roots) (suc i) r all e = front_before name roots i r all.1 e

-- the position of a listed name
pub stands_there : (names : List Root) (name : List ℕ) (i : ℕ) (r : Root) → InOrder names → slice_get names i ≡ Some r → r.name ≡ name → PartedNames names name i (r ∷ [])
stands_there [] name i r a e same = cc
stands_there (x ∷ names) name zero r a e same =
    let is : x ≡ r = cc in
    record { before = []; after = names; names_are = ap (λ y. y ∷ names) is; index_is = refl; low = tt; its = (same, tt); high = subst (λ n. AllAfter n names) (ap (λ (y : Root). y.name) is ∙ same) (order_head x names a) }
stands_there (x ∷ names) name (suc i) r a e same =
    one_more x names name i (r ∷ []) (subst (λ n. Precedes x.name n) same (front_before x.name names i r (order_head x names a) e)) (stands_there names name i r (order_tail x names a) e same)

-- the position of a new name: before the next name, and after the previous one
pub stands_front : (names : List Root) (name : List ℕ) → InOrder names → ((r : Root) → slice_get names 0 ≡ Some r → Precedes name r.name) → PartedNames names name 0 []
stands_front [] name a f = record { before = []; after = []; names_are = refl; index_is = refl; low = tt; its = tt; high = tt }
stands_front (x ∷ names) name a f =
    record { before = []; after = x ∷ names; names_are = refl; index_is = refl; low = tt; its = tt; high = (f x refl, after_more name x.name names (f x refl) (order_head x names a)) }

pub stands_after : (names : List Root) (name : List ℕ) (i : ℕ) (x : Root) → InOrder names → slice_get names i ≡ Some x → Precedes x.name name
    → ((r : Root) → slice_get names (suc i) ≡ Some r → Precedes name r.name) → PartedNames names name (suc i) []
stands_after [] name i x a e h f = cc
stands_after (z ∷ names) name zero x a e h f =
    let same : z ≡ x = cc in
    one_more z names name 0 [] (subst (λ (w : Root). Precedes w.name name) (sym same) h) (stands_front names name (order_tail z names a) f)
stands_after (z ∷ names) name (suc i) x a e h f =
    one_more z names name (suc i) [] (precedes_trans z.name x.name name (front_before z.name names i x (order_head z names a) e) h) (stands_after names name i x (order_tail z names a) e h f)

-- ---- positions in lists of roots

pub get_append : (xs ys : List Root) (i : ℕ) → slice_get (xs ++ ys) (length xs + i) ≡ slice_get ys i
get_append [] ys i = rw (zero-add i) refl
get_append (x ∷ xs) ys i = let e : suc (length xs) + i ≡ suc (length xs + i) = omega arith in rw e (get_append xs ys i)

pub get_front : (xs ys zs : List Root) (i : ℕ) → i < length xs → slice_get (xs ++ ys) i ≡ slice_get (xs ++ zs) i
get_front [] ys zs i h = absurd (omega arith)
get_front (x ∷ xs) ys zs zero h = refl
get_front (x ∷ xs) ys zs (suc i) h = get_front xs ys zs i (omega arith)

pub get_there : (xs : List Root) (i : ℕ) → i < length xs → (r : Root) × (slice_get xs i ≡ Some r)
get_there [] i h = absurd (omega arith)
get_there (x ∷ xs) zero h = (x, refl)
get_there (x ∷ xs) (suc i) h = get_there xs i (omega arith)

pub get_below : (xs : List Root) (i : ℕ) (r : Root) → slice_get xs i ≡ Some r → i < length xs
get_below [] i r e = cc
get_below (x ∷ xs) zero r e = omega arith
get_below (x ∷ xs) (suc i) r e = let h = get_below xs i r e in omega arith

-- ---- the test whether a name comes before another

pub comes_true : (xs ys : List ℕ) → Precedes xs ys → comes_before xs ys ≡ true
comes_true [] [] h = absurd h
comes_true [] (y ∷ ys) h = refl
comes_true (x ∷ xs) [] h = absurd h
comes_true (x ∷ xs) (y ∷ ys) (inl l) = let e : nat_lt x y ≡ true = lt-ltb x y l in rw e refl
comes_true (x ∷ xs) (y ∷ ys) (inr e) =
    let not_less : nat_lt x y ≡ false = le-ltb x y (omega (arith, e.0)) in
    let same : (x == y) ≡ true = (let is = e.0 in grind (arith, nat_tests)) in
    rw (not_less, same) (comes_true xs ys e.1)

comes_so : (xs ys : List ℕ) → comes_before xs ys ≡ true → Precedes xs ys
comes_so [] [] e = cc
comes_so [] (y ∷ ys) e = tt
comes_so (x ∷ xs) [] e = cc
comes_so (x ∷ xs) (y ∷ ys) e = go (nat_lt x y) (x == y) refl refl (comes_so xs ys)
  where
    go : (a b : Bool) → nat_lt x y ≡ a → (x == y) ≡ b → (comes_before xs ys ≡ true → Precedes xs ys) → (x < y) ⊎ ((x ≡ y) × Precedes xs ys)
    go true b less same more = inl (ltb-true x y less)
    go false true less same more = let is : x ≡ y = grind (arith, nat_tests) in inr (is, more (ap (λ t. t && comes_before xs ys) (sym same) ∙ ap (λ t. t || ((x == y) && comes_before xs ys)) (sym less) ∙ e))
    go false false less same more = let both : false ≡ true = ap (λ t. t && comes_before xs ys) (sym same) ∙ ap (λ t. t || ((x == y) && comes_before xs ys)) (sym less) ∙ e in cc

pub comes_false : (xs ys : List ℕ) → (Precedes xs ys → ⊥) → comes_before xs ys ≡ false
comes_false xs ys n = go (comes_before xs ys) refl
  where
    go : (b : Bool) → comes_before xs ys ≡ b → comes_before xs ys ≡ false
    go true e = absurd (n (comes_so xs ys e))
    go false e = e

not_past : (name other : List ℕ) → Precedes other name → comes_before name other ≡ false
not_past name other h = comes_false name other (λ k. precedes_differs name name (precedes_trans name other name k h) refl)

not_past_same : (name other : List ℕ) → other ≡ name → comes_before name other ≡ false
not_past_same name other e = comes_false name other (λ k. precedes_differs name other k (sym e))

-- ---- definitions about names in order

pub named_past : (xs ys : List Root) (name : List ℕ) → AllBefore name xs → root_named (xs ++ ys) name ≡ root_named ys name
named_past [] ys name all = refl
named_past (x ∷ xs) ys name all = rw (precedes_test_back x.name name all.0) (named_past xs ys name all.1)

named_none : (xs : List Root) (name : List ℕ) → AllAfter name xs → root_named xs name ≡ None
named_none [] name all = refl
named_none (x ∷ xs) name all = rw (precedes_test name x.name all.0) (named_none xs name all.1)

next_past : (xs ys : List Root) (name : List ℕ) → AllBefore name xs → root_after (xs ++ ys) name ≡ root_after ys name
next_past [] ys name all = refl
next_past (x ∷ xs) ys name all = rw (not_past name x.name all.0) (next_past xs ys name all.1)

next_first : (xs : List Root) (name : List ℕ) → AllAfter name xs → root_after xs name ≡ slice_get xs 0
next_first [] name all = refl
next_first (x ∷ xs) name all = rw (comes_true name x.name all.0) refl

module _ (names : List Root) (name : List ℕ) (i : ℕ) where
  module _ (r : Root) (s : PartedNames names name i (r ∷ [])) where
    pub found_named : root_named names name ≡ Some r
    found_named =
        let test : same_name name r.name ≡ true = ap (same_name name) s.its.0 ∙ same_name_self name in
        ap (λ rs. root_named rs name) s.names_are ∙ named_past s.before (r ∷ s.after) name s.low ∙ rw test refl

    pub found_get : slice_get names i ≡ Some r
    found_get =
        let none : length s.before + 0 ≡ i = omega (arith, s.index_is) in
        ap (slice_get names) (sym none) ∙ ap (λ rs. slice_get rs (length s.before + 0)) s.names_are ∙ get_append s.before (r ∷ s.after) 0

    pub found_next : root_after names name ≡ slice_get names (suc i)
    found_next =
        let one : length s.before + 1 ≡ suc i = omega (arith, s.index_is) in
        ap (λ rs. root_after rs name) s.names_are ∙ next_past s.before (r ∷ s.after) name s.low ∙ rw (not_past_same name r.name s.its.0) (next_first s.after name s.high)
        ∙ sym (ap (slice_get names) (sym one) ∙ ap (λ rs. slice_get rs (length s.before + 1)) s.names_are ∙ get_append s.before (r ∷ s.after) 1)

    pub found_below : i < length names
    found_below = get_below names i r found_get

  module _ (s : PartedNames names name i []) where
    pub missing_named : root_named names name ≡ None
    missing_named = ap (λ rs. root_named rs name) s.names_are ∙ named_past s.before s.after name s.low ∙ named_none s.after name s.high

    pub missing_next : root_after names name ≡ slice_get names i
    missing_next =
        let none : length s.before + 0 ≡ i = omega (arith, s.index_is) in
        ap (λ rs. root_after rs name) s.names_are ∙ next_past s.before s.after name s.low ∙ next_first s.after name s.high
        ∙ sym (ap (slice_get names) (sym none) ∙ ap (λ rs. slice_get rs (length s.before + 0)) s.names_are ∙ get_append s.before s.after 0)

    pub missing_within : i ≤ length names
    missing_within = let long = length-append s.before s.after in let e = ap length s.names_are in omega (arith, s.index_is)

-- ---- the binary search

module _ (names : List Root) (in_order : InOrder names) (name : List ℕ) (n : ℕ) (n_is : n ≡ length names) (P : ℕ → Ordering → Type 0)
    (tells : (i : ℕ) (r : Root) (o : Ordering) → slice_get names i ≡ Some r → P i o → o ≡ slice_cmp nat_cmp r.name name) where
  halves_found : (i : ℕ) → i < n → P i Equal → (r : Root) × PartedNames names name i (r ∷ [])
  halves_found i h p =
      let it = get_there names i (omega arith) in
      let same : it.0.name ≡ name = same_of_equal it.0.name name (sym (tells i it.0 Equal it.1 p)) in
      (it.0, stands_there names name i it.0 in_order it.1 same)

  above : (i : ℕ) → (i ≡ n) ⊎ P i Greater → (r : Root) → slice_get names i ≡ Some r → Precedes name r.name
  above i (inl e) r at = let none = slice_get_past names i (omega arith) in cc
  above i (inr p) r at = precedes_of_greater r.name name (sym (tells i r Greater at p))

  halves_missing : (i : ℕ) → i ≤ n → (i ≡ 0) ⊎ P (i - 1) Less → ((r : Root) → slice_get names i ≡ Some r → Precedes name r.name) → PartedNames names name i []
  halves_missing zero h low high = stands_front names name in_order high
  halves_missing (suc i) h (inl e) high = absurd (omega arith)
  halves_missing (suc i) h (inr p) high =
      let it = get_there names i (omega arith) in
      let back : suc i - 1 ≡ i = omega arith in
      stands_after names name i it.0 in_order it.1 (precedes_of_less it.0.name name (sym (tells i it.0 Less it.1 (subst (λ j. P j Less) back p)))) high

  pub halves_end : (result : Result ℕ ℕ) → IfOk result (λ i. (i < n) × P i Equal) → IfErr result (λ i. (i ≤ n) × IsBetween P n i)
      → MatchResult result (λ i. (r : Root) × PartedNames names name i (r ∷ [])) (λ i. PartedNames names name i [])
  halves_end (Ok i) there between = halves_found i there.0 there.1
  halves_end (Err i) there between = halves_missing i between.0 between.1.0 (above i between.1.1)

-- ---- the results of calls, by the result of a search

-- the index of the name's root, or the index to insert it at
abbrev pub Searched : List Root → List ℕ → Result ℕ ℕ → Type 0
Searched names name r = MatchResult r (λ i. (root : Root) × PartedNames names name i (root ∷ [])) (λ i. PartedNames names name i [])

-- what a lookup returns, by the root of the name
abbrev Found : List Root → List ℕ → Option NameEntry → ℕ → Option Root → Type 0
Found names name found i o = MatchOption o ((found ≡ None) × PartedNames names name i []) (λ root. (found ≡ Some (entry_of root)) × PartedNames names name i (root ∷ []))

module _ (names : List Root) (name : List ℕ) where
  pub searched_ok : (r : Result ℕ ℕ) (i : ℕ) → Searched names name r → result_ok r ≡ Some i → (root : Root) × PartedNames names name i (root ∷ [])
  searched_ok (Ok j) i h e = let same : j ≡ i = cc in subst (λ k. (root : Root) × PartedNames names name k (root ∷ [])) same h
  searched_ok (Err j) i h e = cc

  pub searched_none : (r : Result ℕ ℕ) → Searched names name r → result_ok r ≡ None → root_named names name ≡ None
  searched_none (Ok j) h e = cc
  searched_none (Err j) h e = missing_named names name j h

  pub entry_found : (r : Result ℕ ℕ) (i : ℕ) (entry : NameEntry) → Searched names name r → result_ok r ≡ Some i → ((root : Root) → slice_get names i ≡ Some root → entry ≡ entry_of root)
      → Some entry ≡ option_map entry_of (root_named names name)
  entry_found r i entry h e is =
      let it = searched_ok r i h e in
      ap Some (is it.0 (found_get names name i it.0 it.1)) ∙ sym (ap (option_map entry_of) (found_named names name i it.0 it.1))

  pub entry_absent : (r : Result ℕ ℕ) → Searched names name r → result_ok r ≡ None → None ≡ option_map entry_of (root_named names name)
  entry_absent r h e = sym (ap (option_map entry_of) (searched_none r h e))

  pub looked_up : (r : Result ℕ ℕ) (i : ℕ) (entry : NameEntry) → Searched names name r → r ≡ Ok i → ((root : Root) → slice_get names i ≡ Some root → entry ≡ entry_of root)
      → LooksUp names name (Some entry) (PartedNames names name i)
  looked_up r i entry h e is =
      let it = searched_ok r i h (ap result_ok e) in
      subst (Found names name (Some entry) i) (sym (found_named names name i it.0 it.1))
      (ap Some (is it.0 (found_get names name i it.0 it.1)), it.1)

  pub looked_up_none : (r : Result ℕ ℕ) (i : ℕ) → Searched names name r → r ≡ Err i → LooksUp names name None (PartedNames names name i)
  looked_up_none r i h e =
      let s : PartedNames names name i [] = subst (Searched names name) e h in
      subst (Found names name None i) (sym (missing_named names name i s)) (refl, s)

  -- the first root after a name, by the result of a search
  pub next_missing : (r : Result ℕ ℕ) (i : ℕ) → Searched names name r → r ≡ Err i → slice_get names i ≡ root_after names name
  next_missing r i h e = sym (missing_next names name i (subst (Searched names name) e h))

  pub next_found : (r : Result ℕ ℕ) (i : ℕ) → Searched names name r → r ≡ Ok i → (i < length names) × (slice_get names (suc i) ≡ root_after names name)
  next_found r i h e = let it = searched_ok r i h (ap result_ok e) in (found_below names name i it.0 it.1, sym (found_next names name i it.0 it.1))
