-- The order in which blocks are freed doesn't matter.
use Rattle.std.proofs.Common.{◌≡◌, ◌≢◌, ℕ, ◌≤◌, ◌⊎◌, inl, inr, true, false, List, [], ◌∷◌, ◌++◌, cond, eqb, refl, sym, ap, ◌∙◌, subst, arith}
use Rattle.std.proofs.lemmas.Bool.Decides.{nat_tests}
use Rattle.std.proofs.lemmas.Bool.{cases_eq}
use Rattle.seg_spec.specs.Heap.{Span, without}
use Rattle.seg_spec.specs.Sound.{times, SameBlocks}
use Rattle.seg_spec.specs.Demand.{after_gives}
use Rattle.seg_spec.proofs.Heap.LiveBlockLaws.{times-append, times-same, times-other}

without_here : (at : ℕ) (b : Span) (bs : List Span) → b.at ≡ at → without at (b ∷ bs) ≡ bs
without_here at b bs e =
    let same : eqb b.at at ≡ true = grind (arith, nat_tests) in
    ap (λ t. cond t bs (b ∷ without at bs)) same

without_past : (at : ℕ) (b : Span) (bs : List Span) → b.at ≢ at → without at (b ∷ bs) ≡ b ∷ without at bs
without_past at b bs ne =
    let other : eqb b.at at ≡ false = grind (arith, nat_tests) in
    ap (λ t. cond t bs (b ∷ without at bs)) other

swapped : (p q : ℕ) (bs : List Span) → without p (without q bs) ≡ without q (without p bs)
swapped p q [] = refl
swapped p q (b ∷ bs) = go (cases_eq b.at p) (cases_eq b.at q) (swapped p q bs)
  where
    go : (b.at ≡ p) ⊎ (b.at ≢ p) → (b.at ≡ q) ⊎ (b.at ≢ q) → without p (without q bs) ≡ without q (without p bs) → without p (without q (b ∷ bs)) ≡ without q (without p (b ∷ bs))
    go (inl e) (inl f) rest = subst (λ x. without p (without x (b ∷ bs)) ≡ without x (without p (b ∷ bs))) (sym e ∙ f) refl
    go (inl e) (inr f) rest = ap (without p) (without_past q b bs f) ∙ without_here p b (without q bs) e ∙ sym (ap (without q) (without_here p b bs e))
    go (inr e) (inl f) rest = ap (without p) (without_here q b bs f) ∙ sym (ap (without q) (without_past p b bs e) ∙ without_here q b (without p bs) f)
    go (inr e) (inr f) rest =
        ap (without p) (without_past q b bs f) ∙ without_past p b (without q bs) e ∙ ap (λ cs. b ∷ cs) rest
        ∙ sym (ap (without q) (without_past p b bs e) ∙ without_past q b (without p bs) f)

-- a block may be freed before the others
before_others : (bs : List Span) (xs : List ℕ) (h : ℕ) (ys : List ℕ) → after_gives bs (xs ++ h ∷ ys) ≡ after_gives (without h bs) (xs ++ ys)
before_others bs [] h ys = refl
before_others bs (x ∷ xs) h ys = before_others (without x bs) xs h ys ∙ ap (λ cs. after_gives cs (xs ++ ys)) (swapped h x bs)

record Stood (h : ℕ) (ys : List ℕ) : Type 0 where
  left : List ℕ
  right : List ℕ
  is : ys ≡ left ++ h ∷ right

stood : (h : ℕ) (ys : List ℕ) → 1 ≤ times h ys → Stood h ys
stood h [] l = absurd (omega arith)
stood h (y ∷ ys) l = go (cases_eq y h) (λ m. stood h ys m)
  where
    go : (y ≡ h) ⊎ (y ≢ h) → (1 ≤ times h ys → Stood h ys) → Stood h (y ∷ ys)
    go (inl e) rest = record { left = []; right = ys; is = ap (λ z. z ∷ ys) e }
    go (inr ne) rest =
        let r = rest (omega (arith, times-other h y ys ne)) in
        record { left = y ∷ r.left; right = r.right; is = ap (λ zs. y ∷ zs) r.is }

one_less : (h : ℕ) (xs left right : List ℕ) → SameBlocks (h ∷ xs) (left ++ h ∷ right) → SameBlocks xs (left ++ right)
one_less h xs left right s = λ g. let a = times-append g left (h ∷ right) in let b = times-append g left right in let c = s g in omega arith

pub in_any_order : (bs : List Span) (xs ys : List ℕ) → SameBlocks xs ys → after_gives bs xs ≡ after_gives bs ys
in_any_order bs [] [] s = refl
in_any_order bs [] (y ∷ ys) s = absurd (let e = s y in omega (arith, times-same y ys))
in_any_order bs (x ∷ xs) ys s =
    let f = stood x ys (let e = s x in omega (arith, times-same x xs)) in
    in_any_order (without x bs) xs (f.left ++ f.right) (one_less x xs f.left f.right (λ g. s g ∙ ap (times g) f.is))
    ∙ sym (before_others bs f.left x f.right) ∙ sym (ap (after_gives bs) f.is)
