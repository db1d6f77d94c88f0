-- The facts about a block that its mark states.
use Rattle.std.proofs.Common.{◌≡◌, ℕ, ◌+◌, ◌-◌, ◌*◌, ◌^◌, ◌<◌, ◌≤◌, zero, suc, ⊎_elim, true, false, Bool, cond, ◌||◌, Option, None, List, [], ◌∷◌, ◌++◌, length, get_or, set, take, drop, replicate, refl, sym, ap, ◌∙◌, subst, arith}
use Rattle.std.proofs.Math.ListN.{length-set}
use Rattle.std.proofs.lemmas.List.{append-nil, length-replicate}
use Rattle.std.proofs.lemmas.Grind.{get_or-set_at}
use Rattle.std.proofs.lemmas.Bool.{cases_eq}
use Rattle.seg_spec.specs.Heap.{heap_start}
use Rattle.seg_spec.specs.Sound.{times, SameBlocks}
use Rattle.seg_spec.proofs.Heap.LiveBlockLaws.{times-same, times-other, times-append}
use Rattle.seg_check.specs.declared.marks.Mark.{Mark}
use Rattle.seg_check.specs.declared.marks.Mark.TheVariants.{Inside, Free, Live, Claimed, Named}
use Rattle.seg_check.specs.declared.marks.Waiting.{Waiting}
use Rattle.seg_check.specs.Marks.{Known, known_of, nothing_known, is_allocated, is_unclaimed, is_free, is_named, allocated_from, unclaimed_from}
use Rattle.seg_check.specs.Marks.{free_from, named_from, HasNoneNamed, Within, IsUnit, IsMarked, KeepsOtherBlocks, AddsBlock, ClaimsAll}
use Rattle.seg_check.specs.Naming.{ClaimsFrozen}
use Rattle.seg_check.proofs.Blocks.MarkLaws.{bit, one, looked, no_unit, set_other, set_same, unit_of, one_more, none_in, few, after_none}
use Rattle.seg_check.proofs.SameLengthLaws.{same_length}

pub fresh : (marks : List Mark) (queue : List Waiting) (counts : List (Option ℕ)) (units n slots m : ℕ) → marks ≡ replicate units Inside → queue ≡ [] → units ≡ n → counts ≡ replicate slots None → slots ≡ m
    → known_of marks 0 0 queue 0 counts None ≡ nothing_known n m
fresh marks queue counts units n slots k e q m c s = λ i. record {
  allocated = (ap (allocated_from heap_start) e ∙ none_in is_allocated heap_start units Inside refl) i;
  unclaimed = (ap (unclaimed_from heap_start) e ∙ none_in is_unclaimed heap_start units Inside refl) i;
  unclaimed_count = 0;
  free = (ap (free_from heap_start) e ∙ none_in is_free heap_start units Inside refl) i;
  free_count = 0;
  turns = q i;
  taken = 0;
  units = (ap length e ∙ length-replicate units Inside ∙ m) i;
  naming = record {
    named = (ap (named_from heap_start) e ∙ none_in is_named heap_start units Inside refl) i;
    counts = (c ∙ ap (λ x. replicate x None) s) i;
    below = None;
  };
}

module _ (marks : List Mark) (u f : ℕ) (queue : List Waiting) (taken : ℕ) (counts : List (Option ℕ)) (below : Option ℕ) where
  abbrev here : Known
  here = known_of marks u f queue taken counts below

  pub mark_is : (block unit : ℕ) (m : Mark) → block ≡ heap_start + 16 * unit → unit < length marks → m ≡ get_or marks unit Inside → IsMarked here block m
  mark_is block unit m at_is inside is = record {
    allocated = looked is_allocated block heap_start unit marks at_is inside ∙ ap (λ x. cond (is_allocated x) 1 0) (sym is);
    unclaimed = looked is_unclaimed block heap_start unit marks at_is inside ∙ ap (λ x. cond (is_unclaimed x) 1 0) (sym is);
    free = looked is_free block heap_start unit marks at_is inside ∙ ap (λ x. cond (is_free x) 1 0) (sym is);
    named = looked is_named block heap_start unit marks at_is inside ∙ ap (λ x. cond (is_named x) 1 0) (sym is);
  }

  pub mark_none : (block : ℕ) → (IsUnit (length marks) block → ⊥) → IsMarked here block Inside
  mark_none block none = record {
    allocated = no_unit is_allocated block heap_start marks (λ unit at_is inside. none (record { unit = unit; at_is = at_is; inside = inside }));
    unclaimed = no_unit is_unclaimed block heap_start marks (λ unit at_is inside. none (record { unit = unit; at_is = at_is; inside = inside }));
    free = no_unit is_free block heap_start marks (λ unit at_is inside. none (record { unit = unit; at_is = at_is; inside = inside }));
    named = no_unit is_named block heap_start marks (λ unit at_is inside. none (record { unit = unit; at_is = at_is; inside = inside }));
  }

  pub set_others : (block unit : ℕ) (m : Mark) → block ≡ heap_start + 16 * unit → KeepsOtherBlocks here (known_of (set marks unit m) u f queue taken counts below) block
  set_others block unit m at_is = record {
    allocated = (λ h other. set_other is_allocated h heap_start unit marks m (λ e. other (sym e ∙ sym at_is)));
    unclaimed = (λ h other. set_other is_unclaimed h heap_start unit marks m (λ e. other (sym e ∙ sym at_is)));
    free = (λ h other. set_other is_free h heap_start unit marks m (λ e. other (sym e ∙ sym at_is)));
    named = (λ h other. set_other is_named h heap_start unit marks m (λ e. other (sym e ∙ sym at_is)));
    unclaimed_count_kept = refl;
    free_count_kept = refl;
    turns_kept = refl;
    taken_kept = refl;
    units_kept = length-set marks unit m;
    counts_kept = refl;
    below_kept = refl;
  }

  -- ---- a block was added

  module _ (old : Known) (block : ℕ) (kept : KeepsOtherBlocks old here block) (small : length marks ≤ 2 ^ 26) (no_live : times block old.unclaimed ≡ 0) (no_free : times block old.free ≡ 0) (no_block : times block old.allocated ≡ 0) where
    fewer_named : times block here.naming.named ≡ 0 → Within here.naming.named old.naming.named
    fewer_named none h = ⊎_elim
        (λ same. subst (λ x. times x here.naming.named ≤ times x old.naming.named) same (omega arith))
        (λ other. omega (arith, kept.named h (λ e. other (sym e))))
        (cases_eq block h)

    pub adds_live : (n : ℕ) → (u < 2 ^ 64 - 1 → n ≡ u + 1) → IsMarked here block Live → AddsBlock old block true (known_of marks n f queue taken counts below)
    adds_live n next is =
        let unclaimed : SameBlocks (unclaimed_from heap_start marks) (block ∷ old.unclaimed) = (λ h. ⊎_elim
        (λ same. subst (λ x. times x here.unclaimed ≡ times x (block ∷ old.unclaimed)) same (is.unclaimed ∙ sym (times-same block old.unclaimed ∙ ap (λ n. 1 + n) no_live)))
        (λ other. kept.unclaimed h (λ e. other (sym e)) ∙ sym (times-other h block old.unclaimed other))
        (cases_eq block h)) in
        let free : SameBlocks (free_from heap_start marks) old.free = (λ h. ⊎_elim
        (λ same. subst (λ x. times x here.free ≡ times x old.free) same (is.free ∙ sym no_free))
        (λ other. kept.free h (λ e. other (sym e)))
        (cases_eq block h)) in
        let allocated : SameBlocks (allocated_from heap_start marks) (block ∷ old.allocated) = (λ h. ⊎_elim
        (λ same. subst (λ x. times x here.allocated ≡ times x (block ∷ old.allocated)) same (is.allocated ∙ sym (times-same block old.allocated ∙ ap (λ n. 1 + n) no_block)))
        (λ other. kept.allocated h (λ e. other (sym e)) ∙ sym (times-other h block old.allocated other))
        (cases_eq block h)) in
        let more = same_length (unclaimed_from heap_start marks) (block ∷ old.unclaimed) unclaimed in
        let free_same = same_length (free_from heap_start marks) old.free free in
        let limit = few is_unclaimed heap_start marks in
        record {
          unclaimed = unclaimed;
          free = free;
          counted = (λ c.
              let was : u ≡ length old.unclaimed = kept.unclaimed_count_kept ∙ c.unclaimed in
              record { unclaimed = next (omega arith) ∙ omega arith; free = kept.free_count_kept ∙ c.free ∙ sym free_same });
          allocated = allocated;
          turns_kept = kept.turns_kept;
          named = fewer_named is.named;
          counts_kept = kept.counts_kept;
          below_kept = kept.below_kept;
        }

    pub adds_free : (n : ℕ) → (f < 2 ^ 64 - 1 → n ≡ f + 1) → IsMarked here block Free → AddsBlock old block false (known_of marks u n queue taken counts below)
    adds_free n next is =
        let unclaimed : SameBlocks (unclaimed_from heap_start marks) old.unclaimed = (λ h. ⊎_elim
        (λ same. subst (λ x. times x here.unclaimed ≡ times x old.unclaimed) same (is.unclaimed ∙ sym no_live))
        (λ other. kept.unclaimed h (λ e. other (sym e)))
        (cases_eq block h)) in
        let free : SameBlocks (free_from heap_start marks) (block ∷ old.free) = (λ h. ⊎_elim
        (λ same. subst (λ x. times x here.free ≡ times x (block ∷ old.free)) same (is.free ∙ sym (times-same block old.free ∙ ap (λ n. 1 + n) no_free)))
        (λ other. kept.free h (λ e. other (sym e)) ∙ sym (times-other h block old.free other))
        (cases_eq block h)) in
        let allocated : SameBlocks (allocated_from heap_start marks) old.allocated = (λ h. ⊎_elim
        (λ same. subst (λ x. times x here.allocated ≡ times x old.allocated) same (is.allocated ∙ sym no_block))
        (λ other. kept.allocated h (λ e. other (sym e)))
        (cases_eq block h)) in
        let more = same_length (free_from heap_start marks) (block ∷ old.free) free in
        let unclaimed_same = same_length (unclaimed_from heap_start marks) old.unclaimed unclaimed in
        let limit = few is_free heap_start marks in
        record {
          unclaimed = unclaimed;
          free = free;
          counted = (λ c.
              let was : f ≡ length old.free = kept.free_count_kept ∙ c.free in
              record { unclaimed = kept.unclaimed_count_kept ∙ c.unclaimed ∙ sym unclaimed_same; free = next (omega arith) ∙ omega arith });
          allocated = allocated;
          turns_kept = kept.turns_kept;
          named = fewer_named is.named;
          counts_kept = kept.counts_kept;
          below_kept = kept.below_kept;
        }

  -- ---- a block was claimed

  pub claims_one : (block unit n : ℕ) → block ≡ heap_start + 16 * unit → unit < length marks → Live ≡ get_or marks unit Inside → (1 ≤ u → n ≡ u - 1)
      → ClaimsAll here (known_of (set marks unit Claimed) n f queue taken counts below) (block ∷ []) []
  claims_one block unit n at_is inside is next =
      let new = unclaimed_from heap_start (set marks unit Claimed) in
      let there : unit < length (set marks unit Claimed) = omega (arith, length-set marks unit Claimed) in
      let gone : times block new ≡ 0 = looked is_unclaimed block heap_start unit (set marks unit Claimed) at_is there ∙ ap (λ x. cond (is_unclaimed x) 1 0) (get_or-set_at marks unit unit Claimed Inside refl inside) in
      let was : times block here.unclaimed ≡ 1 = looked is_unclaimed block heap_start unit marks at_is inside ∙ ap (λ x. cond (is_unclaimed x) 1 0) (sym is) in
      let claimed : SameBlocks here.unclaimed (block ∷ new) = (λ h. ⊎_elim
      (λ same. subst (λ x. times x here.unclaimed ≡ times x (block ∷ new)) same (was ∙ sym (times-same block new ∙ ap (λ n. 1 + n) gone)))
      (λ other. sym (times-other h block new other ∙ set_other is_unclaimed h heap_start unit marks Claimed (λ e. other (at_is ∙ e))))
      (cases_eq block h)) in
      let less = same_length here.unclaimed (block ∷ new) claimed in
      let free : SameBlocks (free_from heap_start (set marks unit Claimed)) here.free = (λ h. ⊎_elim
      (λ same. subst (λ x. times x (free_from heap_start (set marks unit Claimed)) ≡ times x here.free) same
      (looked is_free block heap_start unit (set marks unit Claimed) at_is there ∙ ap (λ x. cond (is_free x) 1 0) (get_or-set_at marks unit unit Claimed Inside refl inside)
      ∙ sym (looked is_free block heap_start unit marks at_is inside ∙ ap (λ x. cond (is_free x) 1 0) (sym is))))
      (λ other. set_other is_free h heap_start unit marks Claimed (λ e. other (at_is ∙ e)))
      (cases_eq block h)) in
      let free_same = same_length (free_from heap_start (set marks unit Claimed)) here.free free in
      let same_named : named_from heap_start (set marks unit Claimed) ≡ named_from heap_start marks = set_same is_named heap_start unit marks Claimed inside (ap is_named is) in
      let same_allocated : allocated_from heap_start (set marks unit Claimed) ≡ allocated_from heap_start marks = set_same is_allocated heap_start unit marks Claimed inside (ap is_allocated is) in
      record {
        claimed = claimed;
        allocated_kept = λ h. ap (times h) same_allocated;
        counted = (λ c. let count = c.unclaimed in record { unclaimed = next (omega arith) ∙ omega arith; free = c.free ∙ sym free_same });
        turns_are = sym (append-nil (drop taken queue));
        naming_kept = λ i. record { named = same_named i; counts = counts; below = below };
      }

-- ---- a frozen object was claimed

pub live_unit : (marks : List Mark) (u f : ℕ) (queue : List Waiting) (taken : ℕ) (counts : List (Option ℕ)) (below : Option ℕ) (block : ℕ) → IsMarked (known_of marks u f queue taken counts below) block Live → IsUnit (length marks) block
live_unit marks u f queue taken counts below block is =
    let at = unit_of is_unclaimed block heap_start marks (omega (arith, is.unclaimed)) in
    record { unit = at.0; at_is = at.1; inside = at.2 }

drop_more : {X : Type 0} (n : ℕ) (xs : List X) (x : X) → n ≤ length xs → drop n (xs ++ x ∷ []) ≡ drop n xs ++ x ∷ []
drop_more zero xs x l = refl
drop_more (suc n) [] x l = absurd (omega arith)
drop_more (suc n) (y ∷ ys) x l = drop_more n ys x (omega arith)

module _ (marks : List Mark) (u f : ℕ) (queue : List Waiting) (taken : ℕ) (counts : List (Option ℕ)) (below : Option ℕ) (old : Known) (block : ℕ) where
  pub claims_frozen : (n : ℕ) (w : Waiting) → (1 ≤ u → n ≡ u - 1) → taken ≤ length queue → KeepsOtherBlocks old (known_of marks u f queue taken counts below) block → IsMarked old block Live
      → IsMarked (known_of marks u f queue taken counts below) block Named → ClaimsFrozen old (known_of marks n f (queue ++ w ∷ []) taken counts below) block w
  claims_frozen n w next few kept was is =
      let new = unclaimed_from heap_start marks in
      let claimed : SameBlocks old.unclaimed (block ∷ new) = (λ h. ⊎_elim
      (λ same. subst (λ x. times x old.unclaimed ≡ times x (block ∷ new)) same (was.unclaimed ∙ sym (times-same block new ∙ ap (λ m. 1 + m) is.unclaimed)))
      (λ other. sym (times-other h block new other ∙ kept.unclaimed h (λ e. other (sym e))))
      (cases_eq block h)) in
      let free : SameBlocks (free_from heap_start marks) old.free = (λ h. ⊎_elim
      (λ same. subst (λ x. times x (free_from heap_start marks) ≡ times x old.free) same (is.free ∙ sym was.free))
      (λ other. kept.free h (λ e. other (sym e)))
      (cases_eq block h)) in
      let less = same_length old.unclaimed (block ∷ new) claimed in
      let free_same = same_length (free_from heap_start marks) old.free free in
      record {
        now_claimed = is.unclaimed;
        now_named = is.named;
        unclaimed_others = kept.unclaimed;
        named_others = kept.named;
        allocated_kept = (λ h. ⊎_elim
            (λ same. subst (λ x. times x (allocated_from heap_start marks) ≡ times x old.allocated) same (is.allocated ∙ sym was.allocated))
            (λ other. kept.allocated h (λ e. other (sym e)))
            (cases_eq block h));
        turns_are = drop_more taken queue w few ∙ ap (λ ts. ts ++ w ∷ []) kept.turns_kept;
        counted = (λ c.
            let count : u ≡ length old.unclaimed = kept.unclaimed_count_kept ∙ c.unclaimed in
            record { unclaimed = next (omega arith) ∙ omega arith; free = kept.free_count_kept ∙ c.free ∙ sym free_same });
        counts_kept = kept.counts_kept;
        below_kept = kept.below_kept;
      }

-- ---- no frozen object that a cell points to

pub none_named : (marks : List Mark) (units : ℕ) → marks ≡ replicate units Inside → HasNoneNamed marks
none_named marks units e h = ap (λ ms. times h (named_from heap_start ms)) e ∙ ap (times h) (none_in is_named heap_start units Inside refl)

pub still_none_named : (marks : List Mark) (unit : ℕ) (m : Mark) → unit < length marks → is_named m ≡ false → HasNoneNamed marks → HasNoneNamed (set marks unit m)
still_none_named marks unit m inside is none h =
    let at : ℕ = heap_start + 16 * unit in
    let there : unit < length (set marks unit m) = omega (arith, length-set marks unit m) in
    ⊎_elim
    (λ same. subst (λ x. times x (named_from heap_start (set marks unit m)) ≡ 0) same
    (looked is_named at heap_start unit (set marks unit m) refl there ∙ ap (λ x. cond (is_named x) 1 0) (get_or-set_at marks unit unit m Inside refl inside) ∙ ap (λ b. cond b 1 0) is))
    (λ other. set_other is_named h heap_start unit marks m other ∙ none h)
    (cases_eq at h)

neither : (a b : Bool) → (a || b) ≡ false → (a ≡ false) × (b ≡ false)
neither false b none = (refl, none)
neither true b none = cc

pub none_named_still : (marks : List Mark) (unit : ℕ) (m : Mark) (some here : Bool) → unit < length marks → here ≡ is_named m → (some ≡ false → HasNoneNamed marks) → (some || here) ≡ false → HasNoneNamed (set marks unit m)
none_named_still marks unit m some here inside is so_far none =
    let neither_is = neither some here none in
    still_none_named marks unit m inside (sym is ∙ neither_is.1) (so_far neither_is.0)

-- ---- walks over the marks

abbrev pub AreAll : (ℕ → Type 0) → List Mark → ℕ → Type 0
AreAll P ms i = (h : ℕ) → 1 ≤ times h (named_from heap_start (take i ms)) → P h

pub all_more : (P : ℕ → Type 0) (ms : List Mark) (i : ℕ) → i < length ms → AreAll P ms i → (is_named (get_or ms i Inside) ≡ true → P (heap_start + 16 * i)) → AreAll P ms (i + 1)
all_more P ms i inside so_far here h some =
    let next : i + 1 ≡ suc i = omega arith in
    let parts : times h (named_from heap_start (take (i + 1) ms)) ≡ times h (named_from heap_start (take i ms)) + times h (one (is_named (get_or ms i Inside)) (heap_start + 16 * i)) =
    ap (λ k. times h (named_from heap_start (take k ms))) next ∙ ap (times h) (one_more is_named heap_start i ms inside) ∙ times-append h (named_from heap_start (take i ms)) (one (is_named (get_or ms i Inside)) (heap_start + 16 * i)) in
    go (is_named (get_or ms i Inside)) here parts (λ more. so_far h more)
  where
    go : (b : Bool) → (b ≡ true → P (heap_start + 16 * i)) → times h (named_from heap_start (take (i + 1) ms)) ≡ times h (named_from heap_start (take i ms)) + times h (one b (heap_start + 16 * i))
        → (1 ≤ times h (named_from heap_start (take i ms)) → P h) → P h
    go true here parts before = ⊎_elim
        (λ same. subst P same (here refl))
        (λ other. before (omega (arith, some, parts, times-other h (heap_start + 16 * i) [] other)))
        (cases_eq (heap_start + 16 * i) h)
    go false here parts before = before (omega (arith, some, parts))

pub named_here : (ms : List Mark) (i : ℕ) → i < length ms → is_named (get_or ms i Inside) ≡ true → times (heap_start + 16 * i) (named_from heap_start ms) ≡ 1
named_here ms i inside is = looked is_named (heap_start + 16 * i) heap_start i ms refl inside ∙ ap bit is

pub none_more : (ms : List Mark) (i : ℕ) → i < length ms → unclaimed_from heap_start (take i ms) ≡ [] → false ≡ is_unclaimed (get_or ms i Inside) → unclaimed_from heap_start (take (i + 1) ms) ≡ []
none_more ms i inside e is =
    let next : i + 1 ≡ suc i = omega arith in
    ap (λ k. unclaimed_from heap_start (take k ms)) next ∙ one_more is_unclaimed heap_start i ms inside ∙ (λ j. e j ++ one (sym is j) (heap_start + 16 * i))

pub found_here : (ms : List Mark) (i block : ℕ) → i < length ms → block ≡ heap_start + 16 * i → true ≡ is_unclaimed (get_or ms i Inside) → unclaimed_from heap_start (take i ms) ≡ []
    → (1 ≤ times block (unclaimed_from heap_start ms)) × ((h : ℕ) → 1 ≤ times h (unclaimed_from heap_start ms) → block ≤ h)
found_here ms i block inside at is none =
    let n : times block (unclaimed_from heap_start ms) ≡ 1 = looked is_unclaimed block heap_start i ms at inside ∙ ap bit (sym is) in
    (omega arith, λ h some. omega (arith, after_none is_unclaimed h heap_start i ms none some))
