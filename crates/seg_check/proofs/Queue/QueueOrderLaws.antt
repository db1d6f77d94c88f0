-- Places that are resolved in any order.
use Rattle.std.proofs.Common.{◌≡◌, ℕ, ◌+◌, List, [], ◌∷◌, ◌++◌, map, sym, ap, ◌∙◌, subst, arith}
use Rattle.std.proofs.lemmas.List.{append_assoc, map-append}
use Rattle.seg_spec.specs.Types.{Table}
use Rattle.seg_spec.specs.Sound.{times, SameBlocks}
use Rattle.seg_spec.proofs.Heap.LiveBlockLaws.{times-same, times-append}
use Rattle.seg_check.specs.Turns.{Limited}
use Rattle.seg_check.specs.Resolving.{ResolvesBy}
use Rattle.seg_check.proofs.SameLengthLaws.{splits}
use Rattle.seg_check.proofs.Queue.QueueStepLaws.{resolves_swap}

-- lists in which each number occurs equally often
module _ (xs ys : List ℕ) (x : ℕ) (before after : List ℕ) (parts : ys ≡ before ++ x ∷ after) (same : SameBlocks (x ∷ xs) ys) where
  pub without : SameBlocks xs (before ++ after)
  without h =
      let here = same h in
      let mine = times-append h (x ∷ []) xs in
      let there : times h ys ≡ times h before + times h (x ∷ after) = ap (times h) parts ∙ times-append h before (x ∷ after) in
      let own = times-append h (x ∷ []) after in
      let apart = times-append h before after in
      omega arith

module _ (bytes : List ℕ) (table : Table) (f : ℕ → Limited) where
  abbrev Those : List ℕ → List ℕ → List Limited → List ℕ → Type 0
  Those u l ps names = ResolvesBy bytes table u l ps names

  apart : (ps qs : List ℕ) (others : List Limited) → map f (ps ++ qs) ++ others ≡ map f ps ++ (map f qs ++ others)
  apart ps qs others = ap (λ xs. xs ++ others) (map-append f ps qs) ∙ append_assoc (map f ps) (map f qs) others

  pub in_any_order : (u l : List ℕ) (xs ys : List ℕ) (others : List Limited) (names : List ℕ) → SameBlocks xs ys → ResolvesBy bytes table u l (map f xs ++ others) names → ResolvesBy bytes table u l (map f ys ++ others) names
  in_any_order u l [] [] others names same r = r
  in_any_order u l [] (y ∷ ys) others names same r = absurd (omega (arith, same y, times-same y ys))
  in_any_order u l (x ∷ xs) ys others names same r =
      let s = splits x ys (omega (arith, same x, times-same x xs)) in
      let rest = in_any_order u l xs (s.before ++ s.after) (f x ∷ others) names (without xs ys x s.before s.after s.parts same) (resolves_swap bytes table u l (f x ∷ []) (map f xs) others names r) in
      let front = resolves_swap bytes table u l (map f (s.before ++ s.after)) (f x ∷ []) others names rest in
      let two = subst (λ ps. Those u l (f x ∷ ps) names) (apart s.before s.after others) front in
      let back = resolves_swap bytes table u l (f x ∷ []) (map f s.before) (map f s.after ++ others) names two in
      subst (λ ps. Those u l ps names) (sym (ap (λ zs. map f zs ++ others) s.parts ∙ apart s.before (x ∷ s.after) others)) back
