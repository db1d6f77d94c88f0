-- The allocated blocks after one request for a new block.
use Rattle.std.proofs.Common.{◌≡◌, ◌≢◌, ℕ, ◌⊎◌, inl, inr, List, [], ◌∷◌, Option, Some, None, refl, sym, ap, ◌∙◌, arith}
use Rattle.std.proofs.lemmas.Bool.{cases_eq}
use Rattle.seg_spec.specs.Heap.{Span, with_block, granted, pick, gaps_of, after_take}
use Rattle.seg_spec.specs.Sound.{times, positions}
use Rattle.seg_spec.specs.Demand.{units_for, after_asks}
use Rattle.seg_spec.specs.Spending.{spent}
use Rattle.seg_spec.proofs.Heap.LiveBlockLaws.{times-other, times-with_block}
use Rattle.seg_spec.proofs.Heap.GrantLaws.{spent_fresh}

-- the granted block, and the allocated blocks including it
record Grants (allocator : ℕ) (bs after : List Span) (end u : ℕ) : Type 0 where
  at : ℕ
  taken : after_take allocator bs end u ≡ Some (at, after)
  counts : (h : ℕ) → times h (positions after) ≡ times h (at ∷ positions bs)

granted_one : (allocator : ℕ) (bs after : List Span) (end u : ℕ) → after_asks allocator bs end (units_for u ∷ []) ≡ Some after → Grants allocator bs after end u
granted_one allocator bs after end u e = go (pick allocator (gaps_of bs end) u) refl
  where
    go : (o : Option Span) → pick allocator (gaps_of bs end) u ≡ o → Grants allocator bs after end u
    go None p = let f : None ≡ Some after = rw p at e in absurd (cc)
    go (Some g) p =
        let f : Some (with_block (record { at = g.at; units = granted g.units u }) bs) ≡ Some after = rw p at e in
        let is : with_block (record { at = g.at; units = granted g.units u }) bs ≡ after = cc in
        record {
          at = g.at;
          taken = rw (p, ← is) refl;
          counts = λ h. ap (λ cs. times h (positions cs)) (sym is) ∙ times-with_block h (record { at = g.at; units = granted g.units u }) bs;
        }

module _ (allocator : ℕ) (bs after : List Span) (end u : ℕ) (e : after_asks allocator bs end (units_for u ∷ []) ≡ Some after) where
  grants : Grants allocator bs after end u
  grants = granted_one allocator bs after end u e

  pub spent_one : spent allocator bs end (units_for u ∷ []) [] ≡ Some after
  spent_one = spent_fresh allocator bs after end grants.at (units_for u) (rw grants.taken refl)

  -- the block that wasn't allocated before is the granted block
  module _ (block : ℕ) (was_free : times block (positions bs) ≡ 0) (now_live : times block (positions after) ≡ 1) where
    pub counts_one : (h : ℕ) → times h (positions after) ≡ times h (block ∷ positions bs)
    counts_one h = grants.counts h ∙ ap (λ a. times h (a ∷ positions bs)) (go (cases_eq grants.at block))
      where
        go : (grants.at ≡ block) ⊎ (grants.at ≢ block) → grants.at ≡ block
        go (inl same) = same
        go (inr ne) =
            let c = grants.counts block in
            let o = times-other block grants.at (positions bs) ne in
            absurd (omega arith)
