-- The increment has one outcome.
use Rattle.std.proofs.Common.{◌≡◌, ◌≢◌, ℕ, inl, inr, List, [], ◌∷◌, ◌++◌, get_or, sym, ap, ◌∙◌, subst, arith}
use Rattle.std.specs.Prelude.{codes}
use Rattle.std.proofs.lemmas.List.{append-nil}
use Rattle.client_spec.specs.Run.{finished, stopped}
use Rattle.client_spec.specs.OnImages.{Left}
use Rattle.client_spec.specs.Fixtures.{increment}
use Rattle.client_spec.specs.Grammar.{client_bytes}
use Rattle.seg_spec.specs.Fixtures.{counter}
use Rattle.test_definitions.specs.RefusedOutcomes.{IsOutcomeOf}
use Rattle.test_definitions.specs.Agreement.{IsLonger, OneOutcome}
use Rattle.test_definitions.proofs.Runs.OneOutcomeLaws.{outcomes_alike}
use Rattle.test_definitions.proofs.WorkedRuns.CounterRun.{left, outcome_is}

module _ (other : Left) (o : IsOutcomeOf increment counter other) where
  one : OneOutcome (left ∷ []) (other ∷ [])
  one = outcomes_alike counter (client_bytes increment ∷ []) [] 2048 0 [] (left ∷ []) (other ∷ []) outcome_is o

  -- it takes 6 steps and prints 42, unless its output fails
  pub increments : other.ending ≢ stopped → (other.steps ≡ 6) × (other.output ≡ codes "42\n")
  increments ne = by one
    where
      by : OneOutcome (left ∷ []) (other ∷ []) → (other.steps ≡ 6) × (other.output ≡ codes "42\n")
      by (inl all) = (all.0.steps, all.0.output)
      by (inr (inl l)) = absurd (let e : finished ≡ stopped = l.failed in cc)
      by (inr (inr l)) = absurd (ne l.failed)

  pub cut_increments : other.ending ≡ stopped → IsLonger other.output (codes "42\n")
  cut_increments e = by one
    where
      by : OneOutcome (left ∷ []) (other ∷ []) → IsLonger other.output (codes "42\n")
      by (inl all) = absurd (let f : finished ≡ stopped = sym all.0.ending ∙ e in cc)
      by (inr (inl l)) = absurd (let f : finished ≡ stopped = l.failed in cc)
      by (inr (inr l)) = subst (λ out. IsLonger out (codes "42\n")) (append-nil other.output) l.longer

  pub not_43 : other.output ≡ codes "43\n" → ⊥
  not_43 e = by one
    where
      second : List ℕ → ℕ
      second xs = get_or xs 1 0

      by : OneOutcome (left ∷ []) (other ∷ []) → ⊥
      by (inl all) = (let same : get_or (codes "42\n") 1 0 ≡ get_or (codes "43\n") 1 0 = ap second (sym all.0.output ∙ e) in omega (arith, same))
      by (inr (inl l)) = (let f : finished ≡ stopped = l.failed in cc)
      by (inr (inr l)) = (
          let whole : codes "42\n" ++ [] ≡ (codes "43\n" ++ []) ++ l.longer.more = l.longer.is ∙ ap (λ out. (out ++ []) ++ l.longer.more) e in
          let same : get_or (codes "42\n") 1 0 ≡ get_or (codes "43\n") 1 0 = ap second whole in
          omega (arith, same))
