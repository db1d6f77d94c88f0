-- Nodes and their blocks.
use Rattle.std.proofs.Common.{◌≡◌, ℕ, ◌+◌, ◌≤◌, ⊎_elim, List, [], ◌∷◌, map, sym, subst, arith}
use Rattle.std.proofs.lemmas.Bool.{cases_eq}
use Rattle.seg_spec.specs.Block.{block_of}
use Rattle.seg_spec.specs.Sound.{times}
use Rattle.seg_spec.proofs.Heap.LiveBlockLaws.{times-same, times-other, times-more}

-- a node occurs no more often than its block
pub times_mapped : (h : ℕ) (xs : List ℕ) → times h xs ≤ times (block_of h) (map block_of xs)
times_mapped h [] = omega arith
times_mapped h (x ∷ xs) =
    let rest = times_mapped h xs in
    ⊎_elim
    (λ e. let a : times h (x ∷ xs) ≡ 1 + times h xs = subst (λ z. times h (z ∷ xs) ≡ 1 + times h xs) (sym e) (times-same h xs) in
    let b : times (block_of h) (block_of x ∷ map block_of xs) ≡ 1 + times (block_of h) (map block_of xs) = subst
    (λ z. times (block_of h) (block_of z ∷ map block_of xs) ≡ 1 + times (block_of h) (map block_of xs)) (sym e) (times-same (block_of h) (map block_of xs)) in
    omega arith)
    (λ ne. let a = times-other h x xs ne in let b = times-more (block_of h) (block_of x) (map block_of xs) in omega arith) (cases_eq x h)
