-- The blocks of frozen objects after another object was frozen.
use Rattle.std.proofs.Common.{◌≡◌, ◌≢◌, ℕ, ◌-◌, ◌≤◌, true, false, List, [], ◌∷◌, ◌++◌, eqb, refl, sym, ◌∙◌, ap, subst, arith}
use Rattle.std.specs.List.{AllByRecursion}
use Rattle.std.proofs.lemmas.Bool.Decides.{nat_tests}
use Rattle.seg_spec.specs.Types.{Table}
use Rattle.seg_spec.specs.Value.{Value}
use Rattle.seg_spec.specs.Block.{block_of}
use Rattle.seg_spec.specs.Apart.{KeepsBlockAround}
use Rattle.seg_spec.specs.Reads.{Place}
use Rattle.seg_spec.specs.Sound.{HoldsRoot, times}
use Rattle.seg_spec.specs.Frozen.{Frozen, root_of_frozen, blocks_by}
use Rattle.seg_spec.specs.Shared.{names_in, left, kept_with, times_named}
use Rattle.seg_spec.specs.Destroying.{HoldFrozen, KeepFrozen}
use Rattle.seg_spec.specs.Sharing.{frozen_now, with_blocks}
use Rattle.seg_spec.proofs.Heap.LiveBlockLaws.{times-append, times-same}
use Rattle.seg_spec.proofs.Frozen.ReleaseLaws.{frozen_there}

module _ (p : ℕ) (its : List ℕ) (theirs : ℕ → List ℕ) where
  pub with_own : with_blocks p its theirs p ≡ its
  with_own = let same : eqb p p ≡ true = grind (arith, nat_tests) in rw same refl

  pub with_other : (q : ℕ) → q ≢ p → with_blocks p its theirs q ≡ theirs q
  with_other q ne = let other : eqb q p ≡ false = grind (arith, nat_tests) in rw other refl

  abbrev pub Elsewhere : List Frozen → Type 0
  Elsewhere fs = AllByRecursion (λ (f : Frozen). f.at ≢ p) fs

  pub by_others : (fs : List Frozen) → Elsewhere fs → blocks_by (with_blocks p its theirs) fs ≡ blocks_by theirs fs
  by_others [] a = refl
  by_others (f ∷ fs) a = ap (λ hs. hs ++ blocks_by (with_blocks p its theirs) fs) (with_other f.at a.0) ∙ ap (λ hs. theirs f.at ++ hs) (by_others fs a.1)

  pub hold_others : (bytes : List ℕ) (table : Table) (fs : List Frozen) → Elsewhere fs → HoldFrozen bytes table theirs fs → HoldFrozen bytes table (with_blocks p its theirs) fs
  hold_others bytes table [] a h = tt
  hold_others bytes table (f ∷ fs) a h = (subst (HoldsRoot bytes table (root_of_frozen f)) (sym (with_other f.at a.0)) h.0, hold_others bytes table fs a.1 h.1)

  pub keep_others : (old new : List ℕ) (fs : List Frozen) → Elsewhere fs → KeepFrozen old new (with_blocks p its theirs) fs → KeepFrozen old new theirs fs
  keep_others old new [] a k = tt
  keep_others old new (f ∷ fs) a k = (subst (AllByRecursion (KeepsBlockAround old new f.at 4)) (with_other f.at a.0) k.0, keep_others old new fs a.1 k.1)

-- an object whose blocks were allocated before isn't in the new block
pub not_there : (bytes : List ℕ) (table : Table) (theirs : ℕ → List ℕ) (p : ℕ) (fs : List Frozen) → times (block_of p) (blocks_by theirs fs) ≡ 0 → HoldFrozen bytes table theirs fs → AllByRecursion (λ (f : Frozen). f.at ≢ p) fs
not_there bytes table theirs p [] free hold = tt
not_there bytes table theirs p (f ∷ fs) free hold =
    let both = times-append (block_of p) (theirs f.at) (blocks_by theirs fs) in
    (here, not_there bytes table theirs p fs (omega arith) hold.1)
  where
    here : f.at ≢ p
    here e =
        let it = frozen_there bytes table f (theirs f.at) hold.0 in
        let own : times (block_of f.at) (theirs f.at) ≡ times (block_of f.at) (block_of f.at ∷ it.inside) = ap (times (block_of f.at)) it.blocks_are in
        let mine : 1 ≤ times (block_of p) (theirs f.at) = subst (λ x. 1 ≤ times (block_of x) (theirs f.at)) e (omega (arith, own, times-same (block_of f.at) it.inside)) in
        absurd (omega (arith, times-append (block_of p) (theirs f.at) (blocks_by theirs fs)))

-- an object remains if none of the released cells points to it
pub stays_left : (payload T number : ℕ) (w : Value) (gone : List Place) (fs : List Frozen) → times_named payload gone ≡ 0 → left gone (frozen_now payload T number w ∷ fs) ≡ frozen_now payload T number w ∷ left gone fs
stays_left payload T number w gone fs none = ap (λ n. kept_with (frozen_now payload T number w) (1 - n) (left (gone ++ names_in w) fs) (left gone fs)) none
