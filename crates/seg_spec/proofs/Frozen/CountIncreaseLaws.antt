-- One more cell points to a frozen object, and the object's count is raised in the bytes.
use Rattle.std.proofs.Common.{◌≡◌, ◌≢◌, ℕ, suc, ◌+◌, ◌≤◌, ⊎_elim, Bool, true, false, List, [], ◌∷◌, ◌++◌, length, cond, eqb, refl, sym, ap, ◌∙◌, subst, arith}
use Rattle.std.specs.List.{AllByRecursion}
use Rattle.std.proofs.lemmas.Bool.{cases_eq}
use Rattle.std.proofs.lemmas.Bool.Decides.{nat_tests}
use Rattle.seg_spec.specs.Bytes.{word, ChangesOnly}
use Rattle.seg_spec.specs.Types.{Table, IsTable}
use Rattle.seg_spec.specs.Heap.{IsHeap, live, heap_start}
use Rattle.seg_spec.specs.Block.{IsInside, KeepsBlock, block_of}
use Rattle.seg_spec.specs.Reads.{Place}
use Rattle.seg_spec.specs.Apart.{KeepsBlockAround}
use Rattle.seg_spec.specs.Frozen.{Frozen, root_of_frozen, blocks_by}
use Rattle.seg_spec.specs.Sound.{HoldsRoot, times, positions}
use Rattle.seg_spec.specs.Shared.{names_of, times_named, IsBelow, AreDistinct, IsCounted, IsFalling, with_count, raised}
use Rattle.seg_spec.specs.Owing.{KeepsLinked}
use Rattle.seg_spec.specs.Destroying.{AreLive, HoldFrozen, KeepFrozen}
use Rattle.seg_spec.proofs.Values.PlaceFrameLaws.{each_weaker, each_left, each_right}
use Rattle.seg_spec.proofs.Heap.LiveBlockLaws.{times-append, times-same, there, each_there, LiesIn, live-lie, live-once}
use Rattle.seg_spec.proofs.Images.LooseRootLaws.{each_joined}
use Rattle.seg_spec.proofs.Heap.BlockFrameLaws.{around_kept}
use Rattle.seg_spec.proofs.Frozen.FrozenBlockLaws.{times_by, hold_kept, frozen_kept}
use Rattle.seg_spec.proofs.Frozen.SharedLaws.{named-append}
use Rattle.seg_spec.proofs.Frozen.CountDecreaseLaws.{Named, named}
use Rattle.seg_spec.proofs.Frozen.ReleaseLaws.{IsFrozenThere, frozen_there, there_frozen, lowered_around, lowered_there, beside_it}

-- ---- the lists

unraised : (p : ℕ) (fs : List Frozen) → AllByRecursion (λ (g : Frozen). g.at ≢ p) fs → raised p fs ≡ fs
unraised p [] a = refl
unraised p (f ∷ fs) a = let ne = a.0 in let other : eqb f.at p ≡ false = grind (arith, nat_tests) in rw other (ap (λ gs. f ∷ gs) (unraised p fs a.1))

pub raised_there : (p : ℕ) (before : List Frozen) (f : Frozen) (after : List Frozen) → f.at ≡ p → AreDistinct (before ++ f ∷ after) → raised p (before ++ f ∷ after) ≡ before ++ with_count f (suc f.count) ∷ after
raised_there p [] f after e d =
    let same : eqb f.at p ≡ true = grind (arith, nat_tests) in
    rw same (ap (λ gs. with_count f (suc f.count) ∷ gs) (unraised p after (each_weaker (λ (g : Frozen). g.at ≢ f.at) (λ (g : Frozen). g.at ≢ p) (λ g ne s. ne (s ∙ sym e)) after d.0)))
raised_there p (g ∷ before) f after e d =
    let ne = (each_right (λ (x : Frozen). x.at ≢ g.at) before (f ∷ after) d.0).0 in
    let apart : g.at ≢ p = λ s. ne (e ∙ sym s) in
    let other : eqb g.at p ≡ false = grind (arith, nat_tests) in
    rw other (ap (λ gs. g ∷ gs) (raised_there p before f after e d.1))

pub falling_raised : (p : ℕ) (fs : List Frozen) → IsFalling fs → IsFalling (raised p fs)
falling_raised p [] l = tt
falling_raised p (f ∷ fs) l = (go (eqb f.at p), falling_raised p fs l.1)
  where
    each : (n : ℕ) (gs : List Frozen) → AllByRecursion (λ (g : Frozen). g.number ≤ n) gs → AllByRecursion (λ (g : Frozen). g.number ≤ n) (raised p gs)
    each n [] a = tt
    each n (g ∷ gs) a = (one (eqb g.at p), each n gs a.1)
      where
        one : (b : Bool) → (cond b (with_count g (suc g.count)) g).number ≤ n
        one true = a.0
        one false = a.0

    go : (b : Bool) → AllByRecursion (λ (g : Frozen). g.number ≤ (cond b (with_count f (suc f.count)) f).number) (raised p fs)
    go true = each f.number fs l.0
    go false = each f.number fs l.0

-- the order in which cells are counted doesn't matter
pub counted_moved : (next : ℕ) (q : Place) (xs kept : List Place) (fs : List Frozen) → IsCounted next fs (q ∷ (xs ++ kept)) → IsCounted next fs (xs ++ q ∷ kept)
counted_moved next q xs kept fs c = record {
  distinct = c.distinct;
  numbered = c.numbered;
  named = each_joined (IsBelow next fs) xs (q ∷ kept) (each_left (IsBelow next fs) xs kept c.named.1) (c.named.0, each_right (IsBelow next fs) xs kept c.named.1);
  falling = c.falling;
  some = c.some;
  counts = each_weaker _ (λ (f : Frozen). f.count ≡ times_named f.at ((xs ++ q ∷ kept) ++ names_of fs)) (λ f e. e ∙ same f.at) fs c.counts;
}
  where
    same : (p : ℕ) → times_named p ((q ∷ (xs ++ kept)) ++ names_of fs) ≡ times_named p ((xs ++ q ∷ kept) ++ names_of fs)
    same p =
        let a = named-append p (q ∷ (xs ++ kept)) (names_of fs) in
        let b = named-append p (q ∷ []) (xs ++ kept) in
        let d = named-append p xs kept in
        let e = named-append p (xs ++ q ∷ kept) (names_of fs) in
        let f = named-append p xs (q ∷ kept) in
        let g = named-append p (q ∷ []) kept in
        omega arith

-- ---- the bytes

module _ (allocator : ℕ) (old : List ℕ) (table : Table) (valid : IsTable table) (heap : IsHeap allocator old) (next : ℕ) (q : Place) (cells : List Place) (theirs : ℕ → List ℕ) (now : List Frozen) (counted : IsCounted next now cells)
    (below : IsBelow next now q) (holds : HoldFrozen old table theirs now) (owned : AreLive old (blocks_by theirs now)) where
  pub k : Named q.at now
  k = named next q.at now q refl counted.distinct counted.some below

  abbrev mine : List ℕ
  mine = theirs k.object.at

  abbrev lefts : List ℕ
  lefts = blocks_by theirs k.before

  abbrev rights : List ℕ
  rights = blocks_by theirs k.after

  abbrev Holds_it : Frozen → Type 0
  Holds_it f = HoldsRoot old table (root_of_frozen f) (theirs f.at)

  all_hold : AllByRecursion Holds_it (k.before ++ k.object ∷ k.after)
  all_hold = subst (HoldFrozen old table theirs) k.are holds

  hold_on : AllByRecursion Holds_it (k.object ∷ k.after)
  hold_on = each_right Holds_it k.before (k.object ∷ k.after) all_hold

  there_is : IsFrozenThere old table k.object mine
  there_is = frozen_there old table k.object mine hold_on.0

  -- the blocks of the objects before an object, of the object, and of the objects after it
  among : (f : Frozen) → f.at ≡ k.object.at → (h : ℕ) → times h (blocks_by theirs (k.before ++ f ∷ k.after)) ≡ times h lefts + times h mine + times h rights
  among f same h =
      let e : times h (theirs f.at) ≡ times h mine = ap (λ x. times h (theirs x)) same in
      omega (arith, times_by theirs k.before (f ∷ k.after) h, times-append h (theirs f.at) rights)

  shares_count : (h : ℕ) → times h (blocks_by theirs now) ≡ times h lefts + times h mine + times h rights
  shares_count h = ap (λ fs. times h (blocks_by theirs fs)) k.are ∙ among k.object refl h

  raised_is : raised q.at now ≡ k.before ++ with_count k.object (suc k.object.count) ∷ k.after
  raised_is = ap (raised q.at) k.are ∙ raised_there q.at k.before k.object k.after k.at_is (subst AreDistinct k.are counted.distinct)

  -- the raised objects own the same blocks
  pub by_raised : (h : ℕ) → times h (blocks_by theirs (raised q.at now)) ≡ times h (blocks_by theirs now)
  by_raised h = ap (λ fs. times h (blocks_by theirs fs)) raised_is ∙ among (with_count k.object (suc k.object.count)) refl h ∙ sym (shares_count h)

  own_there : 1 ≤ times (block_of k.object.at) mine
  own_there = let e : times (block_of k.object.at) mine ≡ times (block_of k.object.at) (block_of k.object.at ∷ there_is.inside) = ap (times (block_of k.object.at)) there_is.blocks_are in
      omega (arith, times-same (block_of k.object.at) there_is.inside)

  pub own_shared : 1 ≤ times (block_of q.at) (blocks_by theirs now)
  own_shared = subst (λ x. 1 ≤ times (block_of x) (blocks_by theirs now)) k.at_is (omega (arith, own_there, shares_count (block_of k.object.at)))

  pub own_live : 1 ≤ times (block_of q.at) (positions (live old))
  own_live = omega (arith, own_shared, owned (block_of q.at))

  pub count_was : word old q.at ≡ k.object.count
  count_was = subst (λ x. word old x ≡ k.object.count) k.at_is there_is.count_is

  pub count_inside : IsInside old (block_of q.at) q.at 4
  count_inside = subst (λ x. IsInside old (block_of x) x 4) k.at_is (let room = there_is.block.room in let low = there_is.block.after_header in record { low = omega arith; high = omega arith })

  pub count_fits : q.at + 4 ≤ length old
  count_fits = let l = there (LiesIn old heap_start (length old)) (block_of q.at) (positions (live old)) (live-lie old allocator heap) own_live in omega (arith, l.high, count_inside.high)

  fits : AreLive old (mine ++ (lefts ++ rights))
  fits h = omega (arith, owned h, shares_count h, times-append h mine (lefts ++ rights), times-append h lefts rights)

  once : (h : ℕ) → times h (positions (live old)) ≤ 1
  once h = live-once old allocator heap h

  module _ (new : List ℕ) (changes : ChangesOnly old new q.at 4) (written : word new q.at ≡ suc (word old q.at)) where
    changes_there : ChangesOnly old new k.object.at 4
    changes_there = subst (λ x. ChangesOnly old new x 4) (sym k.at_is) changes

    count_there : word new k.object.at ≡ suc k.object.count
    count_there = subst (λ x. word new x ≡ suc k.object.count) (sym k.at_is) (written ∙ ap suc count_was)

    linked : (h : ℕ) → 1 ≤ times h (positions (live old)) → h ≢ block_of k.object.at → KeepsLinked old new h
    linked h some other = beside_it allocator old new table valid k.object (suc k.object.count) mine (lefts ++ rights) heap there_is fits changes_there count_there h some other

    -- the blocks of the other objects are kept
    others_kept : (h : ℕ) → 1 ≤ times h lefts + times h rights → KeepsBlock old new h
    others_kept h some =
        let o = once h in
        let w = owned h in
        let n = shares_count h in
        (linked h (omega arith) (λ e. let m : 1 ≤ times h mine = subst (λ x. 1 ≤ times x mine) (sym e) own_there in absurd (omega arith))).whole.kept

    pub hold_raised : HoldFrozen new table theirs (raised q.at now)
    hold_raised =
        let it = there_frozen new table (with_count k.object (suc k.object.count)) mine
        (lowered_there allocator old new table valid k.object (suc k.object.count) mine (lefts ++ rights) heap there_is fits changes_there count_there) in
        subst (HoldFrozen new table theirs) (sym raised_is) (each_joined (λ f. HoldsRoot new table (root_of_frozen f) (theirs f.at)) k.before (with_count k.object (suc k.object.count) ∷ k.after)
        (hold_kept old new table valid theirs k.before (λ h l. others_kept h (omega (arith, l))) (each_left Holds_it k.before (k.object ∷ k.after) all_hold))
        (it, hold_kept old new table valid theirs k.after (λ h l. others_kept h (omega (arith, l))) hold_on.1))

    -- the objects are kept, except for the count
    pub kept_raised : KeepFrozen old new theirs (raised q.at now)
    kept_raised =
        let before_it = frozen_kept allocator old new heap theirs k.before (λ h l. omega (arith, l, owned h, shares_count h)) (λ h l. others_kept h (omega (arith, l))) in
        let after_it = frozen_kept allocator old new heap theirs k.after (λ h l. omega (arith, l, owned h, shares_count h)) (λ h l. others_kept h (omega (arith, l))) in
        let it : AllByRecursion (KeepsBlockAround old new k.object.at 4) mine = each_there (KeepsBlockAround old new k.object.at 4) mine (λ h l.
        let alive : 1 ≤ times h (positions (live old)) = omega (arith, l, owned h, shares_count h) in
        ⊎_elim
        (λ same. subst (KeepsBlockAround old new k.object.at 4) (sym same)
        (lowered_around allocator old new table valid k.object (suc k.object.count) mine (lefts ++ rights) heap there_is fits changes_there count_there))
        (λ other.
        let solid = (there (LiesIn old heap_start (length old)) h (positions (live old)) (live-lie old allocator heap) alive).size in
        around_kept old new k.object.at 4 h (omega (arith, solid)) (linked h alive other).whole.kept)
        (cases_eq h (block_of k.object.at))) in
        subst (KeepFrozen old new theirs) (sym raised_is)
        (each_joined (λ f. AllByRecursion (KeepsBlockAround old new f.at 4) (theirs f.at)) k.before (with_count k.object (suc k.object.count) ∷ k.after) before_it (it, after_it))
