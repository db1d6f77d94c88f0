-- The facts about the tiles that were passed.
use Rattle.std.proofs.Common.{◌≡◌, ◌≢◌, ℕ, ◌<◌, true, false, cond, None, List, [], ◌∷◌, ◌++◌, length, sym, ap, ◌∙◌, arith}
use Rattle.std.proofs.lemmas.List.{append-nil, map-append, length-replicate}
use Rattle.std.specs.List.{AllByRecursion}
use Rattle.seg_spec.specs.Heap.{Span, Tile, span_of, live_of, free_of, live, tiles}
use Rattle.seg_spec.specs.Sound.{times, SameBlocks, positions}
use Rattle.seg_spec.proofs.Heap.TileLaws.{live_of-append, free_of-append}
use Rattle.seg_spec.proofs.Heap.LiveBlockLaws.{times-append, none_there}
use Rattle.seg_check.specs.Marks.{Known, AddsBlock, AreBlocksCounted, KnowsTiles, nothing_known}

-- the blocks of these tiles are known, and no block was claimed
pub record KnowsPassed (known : Known) (units slots : ℕ) (passed : List Tile) : Type 0 where
  pub allocated : SameBlocks known.allocated (positions (live_of passed))
  pub unclaimed : SameBlocks known.unclaimed (positions (live_of passed))
  pub free : SameBlocks known.free (positions (free_of passed))
  pub counted : AreBlocksCounted known
  pub no_turns : known.turns ≡ []
  pub units_are : known.units ≡ units
  pub none_named : (h : ℕ) → times h known.naming.named ≡ 0
  pub no_limit : known.naming.below ≡ None
  pub slots_are : length known.naming.counts ≡ slots

pub knows_none : (known : Known) (units slots : ℕ) → known ≡ nothing_known units slots → KnowsPassed known units slots []
knows_none known units slots new = record {
  allocated = λ h. ap (λ (k : Known). times h k.allocated) new;
  unclaimed = λ h. ap (λ (k : Known). times h k.unclaimed) new;
  free = λ h. ap (λ (k : Known). times h k.free) new;
  counted = record {
    unclaimed = ap (λ (k : Known). k.unclaimed_count) new ∙ sym (ap (λ (k : Known). length k.unclaimed) new);
    free = ap (λ (k : Known). k.free_count) new ∙ sym (ap (λ (k : Known). length k.free) new);
  };
  no_turns = ap (λ (k : Known). k.turns) new;
  units_are = ap (λ (k : Known). k.units) new;
  none_named = λ h. ap (λ (k : Known). times h k.naming.named) new;
  no_limit = ap (λ (k : Known). k.naming.below) new;
  slots_are = ap (λ (k : Known). length k.naming.counts) new ∙ length-replicate slots None;
}

-- blocks below a position don't begin at the position
live_below : (at : ℕ) (ts : List Tile) → AllByRecursion (λ t. t.at < at) ts → AllByRecursion (λ p. p ≢ at) (positions (live_of ts))
live_below at [] b = tt
live_below at (t ∷ ts) b = elim t.live as (λ l. AllByRecursion (λ p. p ≢ at) (positions (cond l (span_of t ∷ live_of ts) (live_of ts))))
    [ true ↦ ((λ e. omega (arith, b.0, e)), live_below at ts b.1) | false ↦ live_below at ts b.1 ]

free_below : (at : ℕ) (ts : List Tile) → AllByRecursion (λ t. t.at < at) ts → AllByRecursion (λ p. p ≢ at) (positions (free_of ts))
free_below at [] b = tt
free_below at (t ∷ ts) b = elim t.live as (λ l. AllByRecursion (λ p. p ≢ at) (positions (cond l (free_of ts) (span_of t ∷ free_of ts))))
    [ true ↦ free_below at ts b.1 | false ↦ ((λ e. omega (arith, b.0, e)), free_below at ts b.1) ]

one_more : (h at units : ℕ) (us : List ℕ) (bs : List Span) → times h us ≡ times h (positions bs) → times h (at ∷ us) ≡ times h (positions (bs ++ record { at = at; units = units } ∷ []))
one_more h at units us bs k =
    let m = ap (times h) (map-append (λ (b : Span). b.at) bs (record { at = at; units = units } ∷ [])) ∙ times-append h (positions bs) (at ∷ []) in
    omega arith

module _ (old : Known) (units slots : ℕ) (passed : List Tile) (k : KnowsPassed old units slots passed) (at : ℕ) (below : AllByRecursion (λ t. t.at < at) passed) where
  pub no_live : times at old.unclaimed ≡ 0
  no_live = k.unclaimed at ∙ none_there at (positions (live_of passed)) (live_below at passed below)

  pub no_block : times at old.allocated ≡ 0
  no_block = k.allocated at ∙ none_there at (positions (live_of passed)) (live_below at passed below)

  pub no_free : times at old.free ≡ 0
  no_free = k.free at ∙ none_there at (positions (free_of passed)) (free_below at passed below)

  live_more : (us : List ℕ) → SameBlocks us (positions (live_of passed)) → (t : Tile) (h : ℕ) → t.at ≡ at → times h (cond t.live (at ∷ us) us) ≡ times h (positions (live_of (passed ++ t ∷ [])))
  live_more us were t h here =
      (elim t.live as (λ l. times h (cond l (at ∷ us) us) ≡ times h (positions (live_of passed ++ cond l (span_of t ∷ []) []))) [
        | true ↦ ap (λ p. times h (p ∷ us)) (sym here) ∙ one_more h t.at t.units us (live_of passed) (were h)
        | false ↦ were h ∙ ap (λ bs. times h (positions bs)) (sym (append-nil (live_of passed)))
      ])
      ∙ ap (λ bs. times h (positions bs)) (sym (live_of-append passed (t ∷ [])))

  free_more : (t : Tile) (h : ℕ) → t.at ≡ at → times h (cond t.live old.free (at ∷ old.free)) ≡ times h (positions (free_of (passed ++ t ∷ [])))
  free_more t h here =
      (elim t.live as (λ l. times h (cond l old.free (at ∷ old.free)) ≡ times h (positions (free_of passed ++ cond l [] (span_of t ∷ [])))) [
        | true ↦ k.free h ∙ ap (λ bs. times h (positions bs)) (sym (append-nil (free_of passed)))
        | false ↦ ap (λ p. times h (p ∷ old.free)) (sym here) ∙ one_more h t.at t.units old.free (free_of passed) (k.free h)
      ])
      ∙ ap (λ bs. times h (positions bs)) (sym (free_of-append passed (t ∷ [])))

  pub knows_more : (new : Known) (t : Tile) → t.at ≡ at → AddsBlock old at t.live new → new.units ≡ old.units → KnowsPassed new units slots (passed ++ t ∷ [])
  knows_more new t here adds same = record {
    allocated = λ h. adds.allocated h ∙ live_more old.allocated k.allocated t h here;
    unclaimed = λ h. adds.unclaimed h ∙ live_more old.unclaimed k.unclaimed t h here;
    free = λ h. adds.free h ∙ free_more t h here;
    counted = adds.counted k.counted;
    no_turns = adds.turns_kept ∙ k.no_turns;
    units_are = same ∙ k.units_are;
    none_named = λ h. omega (arith, adds.named h, k.none_named h);
    no_limit = adds.below_kept ∙ k.no_limit;
    slots_are = ap length adds.counts_kept ∙ k.slots_are;
  }

pub knows_all : (bytes : List ℕ) (known : Known) (units slots : ℕ) (passed : List Tile) → KnowsPassed known units slots passed → tiles bytes ≡ passed → KnowsTiles bytes known
unfolding live
knows_all bytes known units slots passed k all = record {
  allocated = λ h. k.allocated h ∙ ap (λ ts. times h (positions (live_of ts))) (sym all);
  unclaimed = λ h. k.unclaimed h ∙ ap (λ ts. times h (positions (live_of ts))) (sym all);
  free = λ h. k.free h ∙ ap (λ ts. times h (positions (free_of ts))) (sym all);
  counted = k.counted;
  no_turns = k.no_turns;
  none_named = k.none_named;
  no_limit = k.no_limit;
}
