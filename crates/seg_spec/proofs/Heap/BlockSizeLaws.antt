-- Lists of blocks in which one block has another size.
use Rattle.std.proofs.Common.{◌≡◌, ◌≢◌, ℕ, zero, suc, ◌≤◌, ◌⊎◌, inl, inr, true, false, List, [], ◌∷◌, length, eqb, refl, sym, ap, ◌∙◌, arith}
use Rattle.std.specs.Prelude.{Contains, slice_index_or}
use Rattle.std.proofs.lemmas.Bool.{cases_eq}
use Rattle.std.proofs.lemmas.Bool.Decides.{nat_tests}
use Rattle.seg_spec.specs.Heap.{Span, span, resized}

pub resized_here : (at n : ℕ) (bs : List Span) (b : Span) → Contains bs b → b.at ≡ at → Contains (resized at n bs) (span at n)
resized_here at n [] b c e = absurd (omega (arith, c.1))
resized_here at n (d ∷ bs) b c e = go (cases_eq d.at at) c.0 c.1 c.2 (λ k. resized_here at n bs b k e)
  where
    go : (d.at ≡ at) ⊎ (d.at ≢ at) → (i : ℕ) → suc i ≤ length (d ∷ bs) → slice_index_or (d ∷ bs) i b ≡ b → (Contains bs b → Contains (resized at n bs) (span at n)) → Contains (resized at n (d ∷ bs)) (span at n)
    go (inl same) i l f rest = let on : eqb d.at at ≡ true = grind (arith, nat_tests) in rw on (0, omega arith, refl)
    go (inr other) zero l f rest = absurd (other (ap (λ (s : Span). s.at) f ∙ e))
    go (inr other) (suc i) l f rest =
        let off : eqb d.at at ≡ false = grind (arith, nat_tests) in
        let r = rest (i, omega arith, f) in
        rw off (suc r.0, omega (arith, r.1), r.2)

pub resized_other : (at n : ℕ) (bs : List Span) (b : Span) → Contains bs b → b.at ≢ at → Contains (resized at n bs) b
resized_other at n [] b c ne = absurd (omega (arith, c.1))
resized_other at n (d ∷ bs) b c ne = go (cases_eq d.at at) c.0 c.1 c.2 (λ k. resized_other at n bs b k ne)
  where
    go : (d.at ≡ at) ⊎ (d.at ≢ at) → (i : ℕ) → suc i ≤ length (d ∷ bs) → slice_index_or (d ∷ bs) i b ≡ b → (Contains bs b → Contains (resized at n bs) b) → Contains (resized at n (d ∷ bs)) b
    go (inl same) zero l f rest = absurd (ne (sym (ap (λ (s : Span). s.at) f) ∙ same))
    go (inl same) (suc i) l f rest = let on : eqb d.at at ≡ true = grind (arith, nat_tests) in rw on (suc i, omega arith, f)
    go (inr other) zero l f rest = let off : eqb d.at at ≡ false = grind (arith, nat_tests) in rw off (0, omega arith, f)
    go (inr other) (suc i) l f rest =
        let off : eqb d.at at ≡ false = grind (arith, nat_tests) in
        let r = rest (i, omega arith, f) in
        rw off (suc r.0, omega (arith, r.1), r.2)
