-- At most one constant of a valid client spells a name.
use Rattle.std.proofs.Common.{◌≡◌, ◌≢◌, ℕ, zero, suc, ◌<◌, List, [], ◌∷◌, ◌++◌, length, Option, Some, None, refl, sym, ◌∙◌, ap, subst, arith, inl, inr}
use Rattle.std.specs.Prelude.{◌⊎◌, ⊤, slice_get, slice_index_or, All, AllPairs}
use Rattle.std.specs.Fmt.{signed_decimal}
use Rattle.client_spec.specs.Syntax.{Constant}
use Rattle.client_spec.specs.Meaning.{SpellsName, IsNamedBy}
use Rattle.client_spec.specs.Grammar.{IsConstant, IsNameByte, Differ}
use Rattle.client_spec.proofs.TypedStates.ValueLaws.{Some_inj}
use Rattle.client_spec.proofs.TypedStates.ClassLaws.{OneEach}

-- no byte is #
abbrev NoHash : List ℕ → Type 0
NoHash [] = ⊤
NoHash (x ∷ xs) = (x ≢ 35) × NoHash xs

no_hash : (xs : List ℕ) → All IsNameByte xs → NoHash xs
no_hash [] h = tt
no_hash (x ∷ xs) h = ((h 0 0 (omega arith)).2, no_hash xs (λ k d lt. h (suc k) d (omega arith)))

-- bytes with a # aren't bytes without one
has_hash : (xs ys : List ℕ) → NoHash (xs ++ 35 ∷ ys) → ⊥
has_hash [] ys h = h.0 refl
has_hash (x ∷ xs) ys h = has_hash xs ys h.1

-- the bytes before the first # are determined
before_hash : (xs ys us vs : List ℕ) → NoHash xs → NoHash ys → xs ++ 35 ∷ us ≡ ys ++ 35 ∷ vs → xs ≡ ys
before_hash [] [] us vs h g e = refl
before_hash [] (y ∷ ys) us vs h g e = absurd (g.0 (let f : 35 ∷ us ≡ y ∷ (ys ++ 35 ∷ vs) = e in cc))
before_hash (x ∷ xs) [] us vs h g e = absurd (h.0 (let f : x ∷ (xs ++ 35 ∷ us) ≡ 35 ∷ vs = e in cc))
before_hash (x ∷ xs) (y ∷ ys) us vs h g e =
    let f : x ∷ (xs ++ 35 ∷ us) ≡ y ∷ (ys ++ 35 ∷ vs) = e in
    let head : x ≡ y = cc in
    let tail : xs ++ 35 ∷ us ≡ ys ++ 35 ∷ vs = cc in
    let rest : xs ≡ ys = before_hash xs ys us vs h.1 g.1 tail in
    cc

apart : (c d : Constant) (name : List ℕ) → IsConstant c → IsConstant d → Differ c d → SpellsName c name → SpellsName d name → ⊥
apart (Constant.Name x) (Constant.Name y) name i j f h g = f (sym h ∙ g)
apart (Constant.Name x) (Constant.Family p) name i j f h g = has_hash p (signed_decimal g.0) (subst NoHash (sym h ∙ g.1) (no_hash x i.2))
apart (Constant.Family p) (Constant.Name y) name i j f h g = has_hash p (signed_decimal h.0) (subst NoHash (sym g ∙ h.1) (no_hash y j.2))
apart (Constant.Family p) (Constant.Family q) name i j f h g = f (before_hash p q (signed_decimal h.0) (signed_decimal g.0) (no_hash p i.2) (no_hash q j.2) (sym h.1 ∙ g.1))
apart (Constant.Text x) d name i j f h g = h
apart (Constant.Name x) (Constant.Text y) name i j f h g = g
apart (Constant.Family p) (Constant.Text y) name i j f h g = g

-- an entry that is found has its index below the length
place_of : {A : Type 0} (xs : List A) (k : ℕ) (c d : A) → slice_get xs k ≡ Some c → (k < length xs) × (slice_index_or xs k d ≡ c)
place_of [] k c d e = cc
place_of (x ∷ xs) zero c d e = (omega arith, Some_inj e)
place_of (x ∷ xs) (suc k) c d e = let p = place_of xs k c d e in (omega (arith, p.0), p.1)

named_by : (o : Option Constant) (name : List ℕ) → IsNamedBy o name → (c : Constant) × (o ≡ Some c) × SpellsName c name
named_by None name h = absurd h
named_by (Some c) name h = (c, refl, h)

compare : (k l : ℕ) → (k ≡ l) ⊎ ((k < l) ⊎ (l < k))
compare zero zero = inl refl
compare zero (suc l) = inr (inl (omega arith))
compare (suc k) zero = inr (inr (omega arith))
compare (suc k) (suc l) = elim (compare k l) [ inl e ↦ inl (ap suc e) | inr (inl h) ↦ inr (inl (omega arith)) | inr (inr h) ↦ inr (inr (omega arith)) ]

pub one_each : (constants : List Constant) → All IsConstant constants → AllPairs Differ constants → OneEach constants
one_each constants all differ = record {
  one = λ k l name h g.
      let c = named_by (slice_get constants k) name h in
      let d = named_by (slice_get constants l) name g in
      elim (compare k l) [
        | inl e ↦ e
        | inr (inl lt) ↦ absurd (clash k l name c.0 d.0 lt c.1 d.1 c.2 d.2)
        | inr (inr lt) ↦ absurd (clash l k name d.0 c.0 lt d.1 c.1 d.2 c.2)
      ];
}
  where
    clash : (k l : ℕ) (name : List ℕ) (c d : Constant) → k < l → slice_get constants k ≡ Some c → slice_get constants l ≡ Some d → SpellsName c name → SpellsName d name → ⊥
    clash k l name c d lt e f h g =
        let p = place_of constants k c c e in
        let q = place_of constants l d c f in
        apart c d name (subst IsConstant p.1 (all k c p.0)) (subst IsConstant q.1 (all l c q.0))
        (subst (λ x. Differ x d) p.1 (subst (λ y. Differ (slice_index_or constants k c) y) q.1 (differ k l c lt q.0))) h g
