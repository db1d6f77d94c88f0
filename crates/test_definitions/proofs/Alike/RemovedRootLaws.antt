-- Named or unique objects without one of them: searches find the others, and the order stays.
use Rattle.std.proofs.Common.{◌≡◌, ℕ, suc, ◌≤◌, inl, inr, Bool, true, false, List, [], ◌∷◌, ◌++◌, map, Some, None, refl, sym, ap, ◌∙◌, subst, arith}
use Rattle.std.specs.Prelude.{◌==◌, if◌then◌else◌}
use Rattle.std.proofs.lemmas.Bool.Decides.{nat_tests}
use Rattle.seg_spec.specs.Index.{Root, Precedes, AreAscending, AreRising, same_name, root_named, root_of_type}
use Rattle.client_spec.proofs.TypedStates.StateLaws.{same_name_is}
use Rattle.test_definitions.proofs.Alike.ListedRootLaws.{not_before_itself, before_then, after_first, not_later, rising_below, no_later_type}
use Rattle.test_definitions.proofs.Alike.RootMemberLaws.{IsAmong, each_among, among_right}

-- the objects before and after one of them
pub record Divided (d : Root) (rs : List Root) : Type 0 where
  pub before : List Root
  pub after : List Root
  pub are : rs ≡ before ++ d ∷ after

pub divided : (d : Root) (rs : List Root) → IsAmong d rs → Divided d rs
divided d [] i = absurd i
divided d (r ∷ rs) (inl e) = record { before = []; after = rs; are = ap (λ (x : Root). x ∷ rs) (sym e) }
divided d (r ∷ rs) (inr i) = (let s = divided d rs i in record { before = r ∷ s.before; after = s.after; are = ap (λ xs. r ∷ xs) s.are })

pub among_rest : (c d : Root) (front back : List Root) → IsAmong c (front ++ back) → IsAmong c (front ++ d ∷ back)
among_rest c d [] back i = inr i
among_rest c d (f ∷ front) back (inl e) = inl e
among_rest c d (f ∷ front) back (inr i) = inr (among_rest c d front back i)

abbrev Names : List Root → List (List ℕ)
Names rs = map (λ (r : Root). r.name) rs

pub names_ascend : (front : List Root) (d : Root) (back : List Root) → AreAscending (map (λ (r : Root). r.name) (front ++ d ∷ back)) → AreAscending (map (λ (r : Root). r.name) (front ++ back))
names_ascend [] d back a = (after_first d back a).1
names_ascend (f ∷ []) d [] a = tt
names_ascend (f ∷ []) d (b ∷ back) a = (before_then f.name d.name b.name a.0 a.1.0, a.1.1)
names_ascend (f ∷ g ∷ front) d back a = (a.0, names_ascend (g ∷ front) d back a.1)

pub named_without : (front : List Root) (d : Root) (back : List Root) → AreAscending (map (λ (r : Root). r.name) (front ++ d ∷ back)) → (name : List ℕ)
    → root_named (front ++ back) name ≡ (if same_name name d.name then None else root_named (front ++ d ∷ back) name)
named_without [] d back a name = go (same_name name d.name) refl
  where
    go : (b : Bool) → same_name name d.name ≡ b → root_named back name ≡ (if b then None else (if b then Some d else root_named back name))
    go true e = not_later d back name e (after_first d back a).0
    go false e = refl
named_without (f ∷ front) d back a name = go (same_name name f.name) refl (same_name name d.name) refl (named_without front d back (after_first f (front ++ d ∷ back) a).1 name)
  where
    later : same_name name f.name ≡ true → same_name name d.name ≡ true → ⊥
    later e g =
        let precedes = each_among _ d (front ++ d ∷ back) (among_right d front (d ∷ back) (inl refl)) (after_first f (front ++ d ∷ back) a).0 in
        let same : d.name ≡ f.name = same_name_is name d.name g ∙ sym (same_name_is name f.name e) in
        not_before_itself f.name (subst (λ n. Precedes f.name n) same precedes)

    go : (b : Bool) → same_name name f.name ≡ b → (c : Bool) → same_name name d.name ≡ c → root_named (front ++ back) name ≡ (if c then None else root_named (front ++ d ∷ back) name)
        → (if b then Some f else root_named (front ++ back) name) ≡ (if c then None else (if b then Some f else root_named (front ++ d ∷ back) name))
    go true e true g rest = absurd (later e g)
    go true e false g rest = refl
    go false e true g rest = rest
    go false e false g rest = rest

rises_from : (U V : ℕ) (rs : List Root) → V ≤ U → AreRising U rs → AreRising V rs
rises_from U V [] l a = tt
rises_from U V (r ∷ rs) l a = (omega (arith, l, a.0), a.1, a.2)

pub types_rise : (U : ℕ) (front : List Root) (d : Root) (back : List Root) → AreRising U (front ++ d ∷ back) → AreRising U (front ++ back)
types_rise U [] d back a = rises_from (suc d.type) U back (omega (arith, a.0)) a.2
types_rise U (f ∷ front) d back a = (a.0, a.1, types_rise (suc f.type) front d back a.2)

pub typed_without : (U : ℕ) (front : List Root) (d : Root) (back : List Root) → AreRising U (front ++ d ∷ back) → (T : ℕ)
    → root_of_type (front ++ back) T ≡ (if T == d.type then None else root_of_type (front ++ d ∷ back) T)
typed_without U [] d back a T = go (T == d.type) refl
  where
    go : (b : Bool) → (T == d.type) ≡ b → root_of_type back T ≡ (if b then None else (if b then Some d else root_of_type back T))
    go true e = (let same : T ≡ d.type = grind (arith, nat_tests) in no_later_type d back T same a.2)
    go false e = refl
typed_without U (f ∷ front) d back a T = go (T == f.type) refl (T == d.type) refl (typed_without (suc f.type) front d back a.2 T)
  where
    later : T ≡ f.type → T ≡ d.type → ⊥
    later e g = absurd (
        let above = each_among (λ (r : Root). suc f.type ≤ r.type) d (front ++ d ∷ back) (among_right d front (d ∷ back) (inl refl)) (rising_below (suc f.type) (front ++ d ∷ back) a.2) in
        omega (arith, above, e, g))

    go : (b : Bool) → (T == f.type) ≡ b → (c : Bool) → (T == d.type) ≡ c → root_of_type (front ++ back) T ≡ (if c then None else root_of_type (front ++ d ∷ back) T)
        → (if b then Some f else root_of_type (front ++ back) T) ≡ (if c then None else (if b then Some f else root_of_type (front ++ d ∷ back) T))
    go true e true g rest = absurd (let x : T ≡ f.type = grind (arith, nat_tests) in let y : T ≡ d.type = grind (arith, nat_tests) in later x y)
    go true e false g rest = refl
    go false e true g rest = rest
    go false e false g rest = rest
