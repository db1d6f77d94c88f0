-- The named objects of a picture are in order of their names, and the unique objects in order of their
-- types. So two lists in which each search has the same result are the same.
use Rattle.std.proofs.Common.{◌≡◌, ◌≢◌, ℕ, suc, ◌≤◌, ◌⊎◌, inl, inr, Bool, true, false, List, [], ◌∷◌, map, Option, Some, None, option_map, length, refl, sym, ap, ◌∙◌, subst, arith}
use Rattle.std.specs.Prelude.{◌==◌, if◌then◌else◌, is_some}
use Rattle.std.proofs.lemmas.List.{length-map}
use Rattle.seg_spec.specs.Value.{nil}
use Rattle.std.specs.List.{AllByRecursion}
use Rattle.std.proofs.lemmas.Bool.Decides.{nat_tests}
use Rattle.seg_spec.specs.Index.{Root, Precedes, AreAscending, AreRising, same_name, root_named, root_of_type}
use Rattle.seg_spec.proofs.Values.PlaceFrameLaws.{each_weaker}
use Rattle.client_spec.proofs.TypedStates.StateLaws.{same_name_is, same_name_refl}
use Rattle.test_definitions.proofs.Alike.RootMemberLaws.{IsAmong, each_among, looked_up}
use Rattle.test_definitions.proofs.Alike.AlikeRootLaws.{of_type}

-- ---- names

pub not_before_itself : (a : List ℕ) → Precedes a a → ⊥
not_before_itself [] p = p
not_before_itself (x ∷ xs) (inl l) = absurd (omega (arith, l))
not_before_itself (x ∷ xs) (inr p) = not_before_itself xs p.1

pub before_then : (a b c : List ℕ) → Precedes a b → Precedes b c → Precedes a c
before_then [] [] c p q = absurd p
before_then [] (y ∷ ys) [] p q = absurd q
before_then [] (y ∷ ys) (z ∷ zs) p q = tt
before_then (x ∷ xs) [] c p q = absurd p
before_then (x ∷ xs) (y ∷ ys) [] p q = absurd q
before_then (x ∷ xs) (y ∷ ys) (z ∷ zs) (inl l) (inl m) = inl (omega (arith, l, m))
before_then (x ∷ xs) (y ∷ ys) (z ∷ zs) (inl l) (inr q) = inl (omega (arith, l, q.0))
before_then (x ∷ xs) (y ∷ ys) (z ∷ zs) (inr p) (inl m) = inl (omega (arith, m, p.0))
before_then (x ∷ xs) (y ∷ ys) (z ∷ zs) (inr p) (inr q) = inr (p.0 ∙ q.0, before_then xs ys zs p.1 q.1)

abbrev Names : List Root → List (List ℕ)
Names rs = map (λ (r : Root). r.name) rs

pub after_first : (m : Root) (ms : List Root) → AreAscending (Names (m ∷ ms)) → AllByRecursion (λ (r : Root). Precedes m.name r.name) ms × AreAscending (Names ms)
after_first m [] a = (tt, tt)
after_first m (n ∷ ms) a =
    let rest = after_first n ms a.1 in
    ((a.0, each_weaker (λ (r : Root). Precedes n.name r.name) (λ (r : Root). Precedes m.name r.name) (λ r p. before_then m.name n.name r.name a.0 p) ms rest.0), a.1)

found_first : (m : Root) (ms : List Root) → root_named (m ∷ ms) m.name ≡ Some m
found_first m ms = go (same_name m.name m.name) (same_name_refl m.name)
  where
    go : (b : Bool) → b ≡ true → (if b then Some m else root_named ms m.name) ≡ Some m
    go true e = refl
    go false e = cc

-- the first of the names isn't among the later ones
pub not_later : (m : Root) (ms : List Root) (name : List ℕ) → same_name name m.name ≡ true → AllByRecursion (λ (r : Root). Precedes m.name r.name) ms → root_named ms name ≡ None
not_later m ms name e a = go (root_named ms name) refl
  where
    go : (o : Option Root) → root_named ms name ≡ o → o ≡ None
    go None f = refl
    go (Some r) f =
        let l = looked_up name r ms f in
        let before = each_among (λ (r : Root). Precedes m.name r.name) r ms l.0 a in
        absurd (not_before_itself m.name (subst (λ n. Precedes m.name n) (same_name_is name r.name l.1 ∙ sym (same_name_is name m.name e)) before))

pub names_listed : (ms ns : List Root) → AreAscending (Names ms) → AreAscending (Names ns) → ((name : List ℕ) → root_named ms name ≡ root_named ns name) → ms ≡ ns
names_listed [] [] a b same = refl
names_listed [] (n ∷ ns) a b same = absurd (let f : None ≡ Some n = same n.name ∙ found_first n ns in cc)
names_listed (m ∷ ms) [] a b same = absurd (let f : None ≡ Some m = sym (same m.name) ∙ found_first m ms in cc)
names_listed (m ∷ ms) (n ∷ ns) a b same =
    let x = after_first m ms a in
    let y = after_first n ns b in
    let m_there = (looked_up m.name m (n ∷ ns) (sym (same m.name) ∙ found_first m ms)).0 in
    let n_there = (looked_up n.name n (m ∷ ms) (same n.name ∙ found_first n ns)).0 in
    let first = one m_there n_there x.0 y.0 in
    let rest = names_listed ms ns x.1 y.1 (λ name. later first x.0 y.0 name (same name)) in
    λ i. first i ∷ rest i
  where
    one : (m ≡ n) ⊎ IsAmong m ns → (n ≡ m) ⊎ IsAmong n ms → AllByRecursion (λ (r : Root). Precedes m.name r.name) ms → AllByRecursion (λ (r : Root). Precedes n.name r.name) ns → m ≡ n
    one (inl e) j p q = e
    one (inr i) (inl e) p q = sym e
    one (inr i) (inr j) p q = absurd (not_before_itself m.name (before_then m.name n.name m.name (each_among (λ (r : Root). Precedes m.name r.name) n ms j p) (each_among (λ (r : Root). Precedes n.name r.name) m ns i q)))

    later : m ≡ n → AllByRecursion (λ (r : Root). Precedes m.name r.name) ms → AllByRecursion (λ (r : Root). Precedes n.name r.name) ns → (name : List ℕ) → root_named (m ∷ ms) name ≡ root_named (n ∷ ns) name
        → root_named ms name ≡ root_named ns name
    later first p q name e = go (same_name name m.name) refl (same_name name n.name) refl e
      where
        go : (b : Bool) → same_name name m.name ≡ b → (c : Bool) → same_name name n.name ≡ c → (if b then Some m else root_named ms name) ≡ (if c then Some n else root_named ns name) → root_named ms name ≡ root_named ns name
        go true f true g e = not_later m ms name f p ∙ sym (not_later n ns name g q)
        go false f false g e = e
        go true f false g e = absurd (let h : true ≡ false = sym f ∙ ap (λ (r : Root). same_name name r.name) first ∙ g in cc)
        go false f true g e = absurd (let h : true ≡ false = sym g ∙ ap (λ (r : Root). same_name name r.name) (sym first) ∙ f in cc)

-- a named object is found by its name
pub found_named : (rs : List Root) (r : Root) → AreAscending (Names rs) → IsAmong r rs → root_named rs r.name ≡ Some r
found_named [] r a i = absurd i
found_named (m ∷ ms) r a (inl e) = subst (λ (x : Root). root_named (m ∷ ms) x.name ≡ Some x) (sym e) (found_first m ms)
found_named (m ∷ ms) r a (inr i) = go (found_named ms r (after_first m ms a).1 i) (same_name r.name m.name) refl
  where
    go : root_named ms r.name ≡ Some r → (b : Bool) → same_name r.name m.name ≡ b → (if b then Some m else root_named ms r.name) ≡ Some r
    go later false e = later
    go later true e = absurd (let f : None ≡ Some r = sym (not_later m ms r.name e (after_first m ms a).0) ∙ later in cc)

-- the names alone
named_only : Root → Root
named_only r = record { name = r.name; words = []; at = 0; type = 0; values = nil }

only_found : (rs : List Root) (name : List ℕ) → root_named (map named_only rs) name ≡ option_map named_only (root_named rs name)
unfolding named_only
only_found [] name = refl
only_found (r ∷ rs) name = go (same_name name r.name) (only_found rs name)
  where
    go : (b : Bool) → root_named (map named_only rs) name ≡ option_map named_only (root_named rs name)
        → (if b then Some (named_only r) else root_named (map named_only rs) name) ≡ option_map named_only (if b then Some r else root_named rs name)
    go true more = refl
    go false more = more

only_names : (rs : List Root) → Names (map named_only rs) ≡ Names rs
unfolding named_only
only_names [] = refl
only_names (r ∷ rs) = ap (λ ns. r.name ∷ ns) (only_names rs)

-- two lists with the same names have the same length
pub named_as_many : (ms ns : List Root) → AreAscending (Names ms) → AreAscending (Names ns) → ((name : List ℕ) → is_some (root_named ms name) ≡ is_some (root_named ns name)) → length ms ≡ length ns
unfolding named_only
named_as_many ms ns a b same =
    let one = names_listed (map named_only ms) (map named_only ns) (subst AreAscending (sym (only_names ms)) a) (subst AreAscending (sym (only_names ns)) b)
    (λ name. only_found ms name ∙ both name (root_named ms name) (root_named ns name) refl refl (same name) ∙ sym (only_found ns name)) in
    sym (length-map ms named_only) ∙ ap length one ∙ length-map ns named_only
  where
    only_is : (x y : Root) → x.name ≡ y.name → named_only x ≡ named_only y
    only_is x y e = λ i. record { name = e i; words = []; at = 0; type = 0; values = nil }

    both : (name : List ℕ) (o p : Option Root) → root_named ms name ≡ o → root_named ns name ≡ p → is_some o ≡ is_some p → option_map named_only o ≡ option_map named_only p
    both name None None e f g = refl
    both name None (Some y) e f g = cc
    both name (Some x) None e f g = cc
    both name (Some x) (Some y) e f g = ap Some (only_is x y (same_name_is name x.name (looked_up name x ms e).1 ∙ sym (same_name_is name y.name (looked_up name y ns f).1)))

-- ---- one more name

-- the roots without the one of this name
abbrev without_name : List ℕ → List Root → List Root
without_name name [] = []
without_name name (r ∷ rs) = if same_name name r.name then rs else r ∷ without_name name rs

each_without : (P : Root → Type 0) (name : List ℕ) (rs : List Root) → AllByRecursion P rs → AllByRecursion P (without_name name rs)
each_without P name [] a = tt
each_without P name (r ∷ rs) a = go (same_name name r.name) (each_without P name rs a.1)
  where
    go : (b : Bool) → AllByRecursion P (without_name name rs) → AllByRecursion P (if b then rs else r ∷ without_name name rs)
    go true rest = a.1
    go false rest = (a.0, rest)

put_first : (m : Root) (ms : List Root) → AllByRecursion (λ (r : Root). Precedes m.name r.name) ms → AreAscending (Names ms) → AreAscending (Names (m ∷ ms))
put_first m [] a asc = tt
put_first m (n ∷ ms) a asc = (a.0, asc)

ascending_without : (name : List ℕ) (rs : List Root) → AreAscending (Names rs) → AreAscending (Names (without_name name rs))
ascending_without name [] a = tt
ascending_without name (r ∷ rs) a =
    let f = after_first r rs a in
    go (same_name name r.name) f.1 (put_first r (without_name name rs) (each_without (λ (x : Root). Precedes r.name x.name) name rs f.0) (ascending_without name rs f.1))
  where
    go : (b : Bool) → AreAscending (Names rs) → AreAscending (Names (r ∷ without_name name rs)) → AreAscending (Names (if b then rs else r ∷ without_name name rs))
    go true rest more = rest
    go false rest more = more

fewer_without : (name : List ℕ) (rs : List Root) (a : Root) → root_named rs name ≡ Some a → length rs ≡ suc (length (without_name name rs))
fewer_without name [] a e = cc
fewer_without name (r ∷ rs) a e = go (same_name name r.name) (fewer_without name rs a) e
  where
    go : (b : Bool) → (root_named rs name ≡ Some a → length rs ≡ suc (length (without_name name rs))) → (if b then Some r else root_named rs name) ≡ Some a → suc (length rs) ≡ suc (length (if b then rs else r ∷ without_name name rs))
    go true later e = refl
    go false later e = ap suc (later e)

none_without : (name : List ℕ) (rs : List Root) → AreAscending (Names rs) → root_named (without_name name rs) name ≡ None
none_without name [] a = refl
none_without name (r ∷ rs) a = go (same_name name r.name) refl (none_without name rs (after_first r rs a).1)
  where
    go : (b : Bool) → same_name name r.name ≡ b → root_named (without_name name rs) name ≡ None → root_named (if b then rs else r ∷ without_name name rs) name ≡ None
    go true e later = not_later r rs name e (after_first r rs a).0
    go false e later = ap (λ c. if c then Some r else root_named (without_name name rs) name) e ∙ later

others_without : (name other : List ℕ) (rs : List Root) → same_name other name ≡ false → root_named (without_name name rs) other ≡ root_named rs other
others_without name other [] apart = refl
others_without name other (r ∷ rs) apart = go (same_name name r.name) refl (others_without name other rs apart)
  where
    go : (b : Bool) → same_name name r.name ≡ b → root_named (without_name name rs) other ≡ root_named rs other → root_named (if b then rs else r ∷ without_name name rs) other ≡ root_named (r ∷ rs) other
    go true e later = sym (ap (λ c. if c then Some r else root_named rs other) (ap (same_name other) (same_name_is name r.name e) ∙ apart))
    go false e later = ap (λ o. if same_name other r.name then Some r else o) later

-- If one name was added, and the search for each other name has the same result, there is one more root.
pub one_more_name : (ms ns : List Root) (name : List ℕ) (a : Root) → AreAscending (Names ms) → AreAscending (Names ns) → root_named ns name ≡ Some a → root_named ms name ≡ None
    → ((other : List ℕ) → same_name other name ≡ false → root_named ns other ≡ root_named ms other) → length ns ≡ suc (length ms)
one_more_name ms ns name a asc asc_too some none beside =
    fewer_without name ns a some ∙ ap (λ rs. suc (length rs)) (names_listed (without_name name ns) ms (ascending_without name ns asc_too) asc (λ other. each other (same_name other name) refl))
  where
    each : (other : List ℕ) (b : Bool) → same_name other name ≡ b → root_named (without_name name ns) other ≡ root_named ms other
    each other true e =
        let same : name ≡ other = same_name_is other name e in
        subst (λ n. root_named (without_name name ns) n ≡ root_named ms n) same (none_without name ns asc_too ∙ sym none)
    each other false e = others_without name other ns e ∙ beside other e

-- ---- types

pub rising_below : (U : ℕ) (ms : List Root) → AreRising U ms → AllByRecursion (λ (r : Root). U ≤ r.type) ms
rising_below U [] a = tt
rising_below U (m ∷ ms) a = (a.0, each_weaker (λ (r : Root). suc m.type ≤ r.type) (λ (r : Root). U ≤ r.type) (λ r l. omega (arith, l, a.0)) ms (rising_below (suc m.type) ms a.2))

type_first : (m : Root) (ms : List Root) → root_of_type (m ∷ ms) m.type ≡ Some m
type_first m ms = go (m.type == m.type) refl
  where
    go : (b : Bool) → (m.type == m.type) ≡ b → (if b then Some m else root_of_type ms m.type) ≡ Some m
    go true e = refl
    go false e = (let other : m.type ≢ m.type = grind (arith, nat_tests) in absurd (other refl))

pub type_is : (T : ℕ) (r : Root) (rs : List Root) → root_of_type rs T ≡ Some r → r.type ≡ T
type_is T r [] e = cc
type_is T r (x ∷ rs) e = go (type_is T r rs) (T == x.type) refl e
  where
    go : (root_of_type rs T ≡ Some r → r.type ≡ T) → (b : Bool) → (T == x.type) ≡ b → (if b then Some x else root_of_type rs T) ≡ Some r → r.type ≡ T
    go more true f e = (let same : T ≡ x.type = grind (arith, nat_tests) in let one : x ≡ r = cc in sym (same ∙ ap (λ (q : Root). q.type) one))
    go more false f e = more e

pub no_later_type : (m : Root) (ms : List Root) (T : ℕ) → T ≡ m.type → AreRising (suc m.type) ms → root_of_type ms T ≡ None
no_later_type m ms T e a = go (root_of_type ms T) refl
  where
    go : (o : Option Root) → root_of_type ms T ≡ o → o ≡ None
    go None f = refl
    go (Some r) f =
        let above = each_among (λ (r : Root). suc m.type ≤ r.type) r ms (of_type ms T r f) (rising_below (suc m.type) ms a) in
        absurd (omega (arith, above, type_is T r ms f, e))

pub types_listed : (U V : ℕ) (ms ns : List Root) → AreRising U ms → AreRising V ns → ((T : ℕ) → root_of_type ms T ≡ root_of_type ns T) → ms ≡ ns
types_listed U V [] [] a b same = refl
types_listed U V [] (n ∷ ns) a b same = absurd (let f : None ≡ Some n = same n.type ∙ type_first n ns in cc)
types_listed U V (m ∷ ms) [] a b same = absurd (let f : None ≡ Some m = sym (same m.type) ∙ type_first m ms in cc)
types_listed U V (m ∷ ms) (n ∷ ns) a b same =
    let m_there = of_type (n ∷ ns) m.type m (sym (same m.type) ∙ type_first m ms) in
    let n_there = of_type (m ∷ ms) n.type n (same n.type ∙ type_first n ns) in
    let first = one m_there n_there (rising_below (suc m.type) ms a.2) (rising_below (suc n.type) ns b.2) in
    let rest = types_listed (suc m.type) (suc n.type) ms ns a.2 b.2 (λ T. later first T (same T)) in
    λ i. first i ∷ rest i
  where
    one : (m ≡ n) ⊎ IsAmong m ns → (n ≡ m) ⊎ IsAmong n ms → AllByRecursion (λ (r : Root). suc m.type ≤ r.type) ms → AllByRecursion (λ (r : Root). suc n.type ≤ r.type) ns → m ≡ n
    one (inl e) j p q = e
    one (inr i) (inl e) p q = sym e
    one (inr i) (inr j) p q = absurd (omega (arith, each_among (λ (r : Root). suc m.type ≤ r.type) n ms j p, each_among (λ (r : Root). suc n.type ≤ r.type) m ns i q))

    later : m ≡ n → (T : ℕ) → root_of_type (m ∷ ms) T ≡ root_of_type (n ∷ ns) T → root_of_type ms T ≡ root_of_type ns T
    later first T e = go (T == m.type) refl (T == n.type) refl e
      where
        go : (b : Bool) → (T == m.type) ≡ b → (c : Bool) → (T == n.type) ≡ c → (if b then Some m else root_of_type ms T) ≡ (if c then Some n else root_of_type ns T) → root_of_type ms T ≡ root_of_type ns T
        go true f true g e = (let x : T ≡ m.type = grind (arith, nat_tests) in let y : T ≡ n.type = grind (arith, nat_tests) in no_later_type m ms T x a.2 ∙ sym (no_later_type n ns T y b.2))
        go false f false g e = e
        go true f false g e = absurd (let h : true ≡ false = sym f ∙ ap (λ (r : Root). T == r.type) first ∙ g in cc)
        go false f true g e = absurd (let h : true ≡ false = sym g ∙ ap (λ (r : Root). T == r.type) (sym first) ∙ f in cc)

-- a unique object is found by its type
pub found_of_type : (U : ℕ) (rs : List Root) (r : Root) → AreRising U rs → IsAmong r rs → root_of_type rs r.type ≡ Some r
found_of_type U [] r a i = absurd i
found_of_type U (m ∷ ms) r a (inl e) = subst (λ (x : Root). root_of_type (m ∷ ms) x.type ≡ Some x) (sym e) (type_first m ms)
found_of_type U (m ∷ ms) r a (inr i) = go (found_of_type (suc m.type) ms r a.2 i) (r.type == m.type) refl
  where
    go : root_of_type ms r.type ≡ Some r → (b : Bool) → (r.type == m.type) ≡ b → (if b then Some m else root_of_type ms r.type) ≡ Some r
    go later false e = later
    go later true e = (let same : r.type ≡ m.type = grind (arith, nat_tests) in absurd (let f : None ≡ Some r = sym (no_later_type m ms r.type same a.2) ∙ later in cc))
