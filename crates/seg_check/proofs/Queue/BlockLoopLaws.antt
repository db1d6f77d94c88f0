-- The entries of the queue, checked one after the other.
use Rattle.std.proofs.Common.{◌≡◌, ℕ, zero, suc, ◌+◌, ◌/◌, ◌%◌, ◌≤◌, ⊎_elim, true, cond, eqb, Some, List, [], ◌∷◌, ◌++◌, length, map, refl, sym, ap, ◌∙◌, subst, arith}
use Rattle.std.specs.List.{AllByRecursion}
use Rattle.std.proofs.lemmas.Bool.{cases_eq}
use Rattle.std.proofs.lemmas.Bool.Decides.{nat_tests}
use Rattle.std.proofs.lemmas.List.{append_assoc, append-nil, map-append}
use Rattle.seg_spec.specs.Types.{Table}
use Rattle.seg_spec.specs.Heap.{tag_at}
use Rattle.seg_spec.specs.Block.{Kind, tag_of, block_of}
use Rattle.seg_spec.specs.Frozen.{frozen_words}
use Rattle.seg_spec.specs.Sound.{times, SameBlocks}
use Rattle.seg_spec.specs.Shared.{names_each}
use Rattle.seg_spec.proofs.Heap.LiveBlockLaws.{times-append, times-other, times-same}
use Rattle.seg_check.specs.declared.marks.Turn.{Turn}
use Rattle.seg_check.specs.declared.marks.Waiting.{Waiting}
use Rattle.seg_check.specs.Marks.{Known, KeepsNaming, AreBlocksCounted, Within}
use Rattle.seg_check.specs.Naming.{IsFrozen, frozen_number_at, blocks_of, unseen_at, standing_at, Counts}
use Rattle.seg_check.specs.Turns.{Limited, limited, places_in, owned_places, awaited, frozen_place, IsWaiting, AreWaiting}
use Rattle.seg_check.specs.Resolving.{ResolvesBy, Resolves, CanResolve, Advances, IsReady}
use Rattle.seg_check.specs.Cells.{Owned, CanResolveAll}
use Rattle.seg_check.proofs.SameLengthLaws.{remainder}
use Rattle.seg_check.proofs.Blocks.FrozenClaimLaws.{counts_same, counts_kept}
use Rattle.seg_check.proofs.Queue.ReadPlaceLaws.{positions_of, reads_one}
use Rattle.seg_check.proofs.Queue.QueueStepLaws.{resolves_swap, swapped, awaited-append, waiting_both, owned_is, ready_now}
use Rattle.seg_check.proofs.Queue.QueueOrderLaws.{in_any_order}
use Rattle.seg_check.proofs.Heap.TagLaws.{places_tagged}

module _ (bytes : List ℕ) (table : Table) where
  -- two adjacent lists of places after another list are swapped
  pub swap_inner : (u l : List ℕ) (a b c d : List Limited) (names : List ℕ) → ResolvesBy bytes table u l (a ++ (b ++ (c ++ d))) names → ResolvesBy bytes table u l (a ++ (c ++ (b ++ d))) names
  swap_inner u l a b c d names r =
      let first = resolves_swap bytes table u l a b (c ++ d) names r in
      let two = resolves_swap bytes table u l b (a ++ c) d names (subst (λ xs. ResolvesBy bytes table u l (b ++ xs) names) (sym (append_assoc a c d)) first) in
      subst (λ xs. ResolvesBy bytes table u l xs names) (append_assoc a c (b ++ d)) two

  -- the queue's entry of a frozen object owns nothing
  pub frozen_is : (w : Waiting) → IsFrozen bytes (block_of w.turn.start) → owned_places bytes table w ≡ []
  frozen_is w f = ap (λ b. cond b [] (limited w.below (places_in bytes table w.turn))) (equal (tag_at bytes (block_of w.turn.start) % 256) 7 f)
    where
      equal : (a b : ℕ) → a ≡ b → eqb a b ≡ true
      equal a b e = grind (arith, nat_tests)

  -- the state after some entries of the queue were checked
  pub record Resolving (first now : Known) : Type 0 where
    pub ready : IsReady bytes table now
    pub turns : AreWaiting bytes table now.turns
    pub counted : AreBlocksCounted first → AreBlocksCounted now
    pub within : Within now.unclaimed first.unclaimed
    pub seen : List ℕ
    pub are_frozen : AllByRecursion (IsFrozen bytes) seen
    pub unseen : (h : ℕ) → IsFrozen bytes h → unseen_at first h ≡ times h seen + unseen_at now h
    pub standing_kept : (h : ℕ) → IsFrozen bytes h → standing_at now h ≡ standing_at first h
    pub seen_within : (all : CanResolveAll bytes table first) → Within seen all.frozen
    pub found : List ℕ
    pub counts : (before : List ℕ) → Counts bytes first before → Counts bytes now (found ++ before)
    pub forth : (l : List ℕ) (others : List Limited) → Resolves bytes table first.unclaimed l (awaited bytes table first.turns ++ (map (frozen_place bytes) seen ++ others))
        → Resolves bytes table now.unclaimed l (awaited bytes table now.turns ++ others)
    pub back : (l : List ℕ) (others : List Limited) (names : List ℕ) → ResolvesBy bytes table now.unclaimed l (awaited bytes table now.turns ++ others) names
        → ResolvesBy bytes table first.unclaimed l (awaited bytes table first.turns ++ (map (frozen_place bytes) seen ++ others)) (found ++ names)

  pub resolving_none : (first : Known) → IsReady bytes table first → AreWaiting bytes table first.turns → Resolving first first
  resolving_none first ready turns = record {
    ready = ready;
    turns = turns;
    counted = (λ k. k);
    within = (λ h. omega arith);
    seen = [];
    are_frozen = tt;
    unseen = (λ h f. omega arith);
    standing_kept = (λ h f. refl);
    seen_within = (λ all h. omega arith);
    found = [];
    counts = (λ before c. c);
    forth = (λ l others r. r);
    back = (λ l others names r. r);
  }

  -- ---- the next entry

  -- the entry was taken from the queue, and nothing else changed
  pub record Takes (was mid : Known) (turn : Turn) : Type 0 where
    pub turns_are : was.turns ≡ record { turn = turn; below = mid.naming.below } ∷ mid.turns
    pub allocated_kept : mid.allocated ≡ was.allocated
    pub unclaimed_kept : mid.unclaimed ≡ was.unclaimed
    pub names_kept : KeepsNaming was mid
    pub counted : AreBlocksCounted was → AreBlocksCounted mid

  pub ready_same : (old new : Known) → IsReady bytes table old → new.allocated ≡ old.allocated → new.unclaimed ≡ old.unclaimed → KeepsNaming old new → IsReady bytes table new
  ready_same old new ready all same names = record {
    is_table = ready.is_table;
    heap = ready.heap;
    allocated = (λ h. ap (times h) all ∙ ready.allocated h);
    blocks = (λ h some. ready.blocks h (subst (λ xs. 1 ≤ times h xs) same some));
    few = omega (arith, ready.few, ap length same);
    small = ready.small;
    standing = (λ h. omega (arith, ready.standing h, ap (times h) same, ap (times h) names.named_kept));
    frozen = (λ h f. (λ i. times h (same i) + times h (names.named_kept i)) ∙ ready.frozen h f);
    slots = (λ T U f. omega (arith, ready.slots T U f, ap length names.counts_kept));
  }

  module _ (first was mid : Known) (turn : Turn) (so_far : Resolving first was) (t : Takes was mid turn) where
    abbrev next : Waiting
    next = record { turn = turn; below = mid.naming.below }

    abbrev block : ℕ
    block = block_of turn.start

    abbrev places : List Limited
    places = limited mid.naming.below (places_in bytes table turn)

    are_waiting : AreWaiting bytes table (next ∷ mid.turns)
    are_waiting = subst (AreWaiting bytes table) t.turns_are so_far.turns

    pub mid_ready : IsReady bytes table mid
    mid_ready = ready_same was mid so_far.ready t.allocated_kept t.unclaimed_kept t.names_kept

    pub next_turn : IsWaiting bytes table next
    next_turn = are_waiting.0

    -- the claim without the part of this entry
    was_is : (l : List ℕ) (others : List Limited) (names : List ℕ) → ResolvesBy bytes table was.unclaimed l (awaited bytes table was.turns ++ others) names
        → ResolvesBy bytes table mid.unclaimed l (owned_places bytes table next ++ (awaited bytes table mid.turns ++ others)) names
    was_is l others names r =
        subst (λ xs. ResolvesBy bytes table mid.unclaimed l xs names) (append_assoc (owned_places bytes table next) (awaited bytes table mid.turns) others)
        (subst (λ u. ResolvesBy bytes table u l (awaited bytes table (next ∷ mid.turns) ++ others) names) (sym t.unclaimed_kept)
        (subst (λ ts. ResolvesBy bytes table was.unclaimed l (awaited bytes table ts ++ others) names) t.turns_are r))

    was_was : (l : List ℕ) (others : List Limited) (names : List ℕ) → ResolvesBy bytes table mid.unclaimed l (owned_places bytes table next ++ (awaited bytes table mid.turns ++ others)) names
        → ResolvesBy bytes table was.unclaimed l (awaited bytes table was.turns ++ others) names
    was_was l others names r =
        subst (λ ts. ResolvesBy bytes table was.unclaimed l (awaited bytes table ts ++ others) names) (sym t.turns_are)
        (subst (λ u. ResolvesBy bytes table u l (awaited bytes table (next ∷ mid.turns) ++ others) names) t.unclaimed_kept
        (subst (λ xs. ResolvesBy bytes table mid.unclaimed l xs names) (sym (append_assoc (owned_places bytes table next) (awaited bytes table mid.turns) others)) r))

    -- the place of a frozen object's value
    frozen_value : IsFrozen bytes block → places ≡ frozen_place bytes block ∷ []
    frozen_value f =
        let is = next_turn.frozen f in
        let tag = tag_at bytes block in
        let high = is.after_header in
        let tagged : tag_at bytes block ≡ tag_of Kind.frozen (tag / 256) = omega (arith, f) in
        let at_is : turn.start + 8 ≡ block + 16 + frozen_words = omega arith in
        let start_is : turn.start ≡ block + 16 = omega arith in
        let one : places_in bytes table turn ≡ record { at = turn.start + 8; type = tag / 256 } ∷ [] = places_tagged bytes table so_far.ready.is_table turn Kind.frozen (tag / 256) tagged
        ∙ ap (λ n. Rattle.seg_spec.specs.Owing.entries_at table turn.start frozen_words (tag / 256) n) is.one in
        let below : mid.naming.below ≡ Some (frozen_number_at bytes (block + 16)) = is.number_is ∙ ap (λ p. Some (frozen_number_at bytes p)) start_is in
        ap (limited mid.naming.below) (one ∙ ap (λ p. record { at = p; type = tag / 256 } ∷ []) at_is) ∙ ap (λ b. record { place = record { at = block + 16 + frozen_words; type = tag / 256 }; below = b } ∷ []) below

    -- ---- what could be resolved before

    -- what remains of the claim: the frozen objects that weren't checked yet
    record Remains (all : CanResolveAll bytes table first) : Type 0 where
      pub rest : List ℕ
      pub same : SameBlocks all.frozen (so_far.seen ++ rest)
      pub ahead : Resolves bytes table was.unclaimed all.left (awaited bytes table was.turns ++ map (frozen_place bytes) rest)
      pub named : SameBlocks all.names (so_far.found ++ ahead.names)

    remains : (all : CanResolveAll bytes table first) → Remains all
    remains all =
        let start = awaited bytes table first.turns in
        let f = frozen_place bytes in
        let apart = remainder so_far.seen all.frozen (so_far.seen_within all) in
        let front = resolves_swap bytes table first.unclaimed all.left start (map f all.frozen) [] all.names
        (subst (λ xs. ResolvesBy bytes table first.unclaimed all.left (start ++ xs) all.names) (sym (append-nil (map f all.frozen))) all.resolves) in
        let ordered = in_any_order bytes table f first.unclaimed all.left all.frozen (so_far.seen ++ apart.rest) (start ++ []) all.names apart.same front in
        let back = resolves_swap bytes table first.unclaimed all.left (map f (so_far.seen ++ apart.rest)) start [] all.names ordered in
        let parts : map f (so_far.seen ++ apart.rest) ++ [] ≡ map f so_far.seen ++ map f apart.rest = append-nil (map f (so_far.seen ++ apart.rest)) ∙ map-append f so_far.seen apart.rest in
        let v = subst (λ xs. ResolvesBy bytes table first.unclaimed all.left (start ++ xs) all.names) parts back in
        let ahead = so_far.forth all.left (map f apart.rest) (record { names = all.names; by = v }) in
        let again = so_far.back all.left (map f apart.rest) ahead.names ahead.by in
        let one : v.values ≡ again.values = reads_one bytes table v.reads again.reads in
        record {
          rest = apart.rest;
          same = apart.same;
          ahead = ahead;
          named = λ h. v.names_are h ∙ ap (λ vs. times h (positions_of (names_each vs))) one ∙ sym (again.names_are h);
        }

    block_waits : 1 ≤ times block (blocks_of was.turns)
    block_waits = omega (arith, ap (λ ts. times block (blocks_of ts)) t.turns_are, times-same block (blocks_of mid.turns))

    -- a cell points to the frozen object of the entry, so it isn't left
    block_wanted : IsFrozen bytes block → (all : CanResolveAll bytes table first) → times block all.left ≡ 0
    block_wanted f all = none_then (times block all.left) (λ some.
        let r = remains all in
        let standing = so_far.standing_kept block f in
        let named : 1 ≤ times block was.naming.named = omega (arith, standing, so_far.unseen block f, all.none_wait block f, block_waits) in
        let met = ((so_far.counts [] all.none_counted).each block f).named.0 named in
        absurd (omega (arith, all.unnamed block f some, r.named (block + 16), times-append (block + 16) so_far.found [], times-append (block + 16) so_far.found r.ahead.names, met)))
      where
        none_then : (n : ℕ) → (1 ≤ n → ⊥) → n ≡ 0
        none_then zero none = refl
        none_then (suc n) none = absurd (none (omega arith))

    module _ (new : Known) (a : Advances bytes table mid new (places_in bytes table turn)) where
      abbrev others_wait : List Limited
      others_wait = awaited bytes table mid.turns

      now_waits : awaited bytes table new.turns ≡ others_wait ++ awaited bytes table a.turns
      now_waits = ap (awaited bytes table) a.turns_are ∙ awaited-append bytes table mid.turns a.turns

      after_forth : (l : List ℕ) (others : List Limited) → Resolves bytes table mid.unclaimed l (places ++ (others_wait ++ others)) → Resolves bytes table new.unclaimed l (awaited bytes table new.turns ++ others)
      after_forth l others r =
          subst (λ ps. Resolves bytes table new.unclaimed l ps) (sym (append_assoc others_wait (awaited bytes table a.turns) others) ∙ ap (λ xs. xs ++ others) (sym now_waits))
          (swapped bytes table new.unclaimed l (awaited bytes table a.turns) others_wait others (a.forth l (others_wait ++ others) r))

      after_back : (l : List ℕ) (others : List Limited) (names : List ℕ) → ResolvesBy bytes table new.unclaimed l (awaited bytes table new.turns ++ others) names
          → ResolvesBy bytes table mid.unclaimed l (places ++ (others_wait ++ others)) (a.found ++ names)
      after_back l others names r = a.back l (others_wait ++ others) names (resolves_swap bytes table new.unclaimed l others_wait (awaited bytes table a.turns) others names
          (subst (λ ps. ResolvesBy bytes table new.unclaimed l ps names) (ap (λ xs. xs ++ others) now_waits ∙ append_assoc others_wait (awaited bytes table a.turns) others) r))

      both_found : (h : ℕ) (before : List ℕ) → times h (a.found ++ (so_far.found ++ before)) ≡ times h ((so_far.found ++ a.found) ++ before)
      both_found h before = omega (arith, times-append h a.found (so_far.found ++ before), times-append h so_far.found before, times-append h (so_far.found ++ a.found) before, times-append h so_far.found a.found)

      counts_then : (before : List ℕ) → Counts bytes first before → Counts bytes new ((so_far.found ++ a.found) ++ before)
      counts_then before c =
          counts_same bytes new (a.found ++ (so_far.found ++ before)) ((so_far.found ++ a.found) ++ before) (λ h. both_found h before)
          (a.finds.counts (so_far.found ++ before) (counts_kept bytes was mid (so_far.found ++ before) t.names_kept (so_far.counts before c)))

      standing_then : (h : ℕ) → IsFrozen bytes h → standing_at new h ≡ standing_at first h
      standing_then h f = a.finds.standing_kept h f ∙ (λ i. times h (t.unclaimed_kept i) + times h (t.names_kept.named_kept i)) ∙ so_far.standing_kept h f

      -- the frozen object of the entry was in the queue
      unseen_was : (h : ℕ) → IsFrozen bytes h → unseen_at was h ≡ times h (block ∷ []) + unseen_at new h
      unseen_was h f =
          let waited : times h (blocks_of was.turns) ≡ times h (block ∷ []) + times h (blocks_of mid.turns) = ap (λ ts. times h (blocks_of ts)) t.turns_are ∙ times-append h (block ∷ []) (blocks_of mid.turns) in
          omega (arith, waited, a.finds.unseen_kept h f, ap (times h) t.unclaimed_kept)

      turns_then : AreWaiting bytes table new.turns
      turns_then = subst (AreWaiting bytes table) (sym a.turns_are) (waiting_both bytes table mid.turns a.turns are_waiting.1 a.are_waiting)

      named_apart : (names : List ℕ) → so_far.found ++ (a.found ++ names) ≡ (so_far.found ++ a.found) ++ names
      named_apart names = sym (append_assoc so_far.found a.found names)

      owned_then : (IsFrozen bytes block → ⊥) → Resolving first new
      owned_then other =
          let mine : owned_places bytes table next ≡ places = owned_is bytes table next other in
          record {
            ready = ready_now bytes table mid new (places_in bytes table turn) mid_ready a;
            turns = turns_then;
            counted = (λ k. a.counted (t.counted (so_far.counted k)));
            within = (λ h. omega (arith, a.within h, so_far.within h, ap (times h) t.unclaimed_kept));
            seen = so_far.seen;
            are_frozen = so_far.are_frozen;
            unseen = (λ h f.
                let no : times h (block ∷ []) ≡ 0 = times-other h block [] (λ e. other (subst (IsFrozen bytes) (sym e) f)) in
                omega (arith, so_far.unseen h f, unseen_was h f, no));
            standing_kept = standing_then;
            seen_within = so_far.seen_within;
            found = so_far.found ++ a.found;
            counts = counts_then;
            forth = (λ l others r.
                let s = so_far.forth l others r in
                after_forth l others (record { names = s.names; by = subst (λ ps. ResolvesBy bytes table mid.unclaimed l (ps ++ (others_wait ++ others)) s.names) mine (was_is l others s.names s.by) }));
            back = (λ l others names r.
                let s = after_back l others names r in
                subst (λ ns. ResolvesBy bytes table first.unclaimed l (awaited bytes table first.turns ++ (map (frozen_place bytes) so_far.seen ++ others)) ns) (named_apart names)
                (so_far.back l others (a.found ++ names) (was_was l others (a.found ++ names) (subst (λ ps. ResolvesBy bytes table mid.unclaimed l (ps ++ (others_wait ++ others)) (a.found ++ names)) (sym mine) s))));
          }

      frozen_then : IsFrozen bytes block → Resolving first new
      frozen_then f =
          let none : owned_places bytes table next ≡ [] = frozen_is next f in
          let fp = frozen_place bytes block ∷ [] in
          let seen = map (frozen_place bytes) so_far.seen in
          let start = awaited bytes table first.turns in
          let value : places ≡ fp = frozen_value f in
          record {
            ready = ready_now bytes table mid new (places_in bytes table turn) mid_ready a;
            turns = turns_then;
            counted = (λ k. a.counted (t.counted (so_far.counted k)));
            within = (λ h. omega (arith, a.within h, so_far.within h, ap (times h) t.unclaimed_kept));
            seen = block ∷ so_far.seen;
            are_frozen = (f, so_far.are_frozen);
            unseen = (λ h z. omega (arith, so_far.unseen h z, unseen_was h z, times-append h (block ∷ []) so_far.seen));
            standing_kept = standing_then;
            seen_within = (λ all h. ⊎_elim
                (λ same. subst (λ b. times b (block ∷ so_far.seen) ≤ times b all.frozen) same
                (omega (arith, all.unseen block f, so_far.unseen block f, block_wanted f all, block_waits, times-same block so_far.seen)))
                (λ other. omega (arith, so_far.seen_within all h, times-other h block so_far.seen other))
                (cases_eq block h));
            found = so_far.found ++ a.found;
            counts = counts_then;
            forth = (λ l others r.
                let moved = swap_inner first.unclaimed l start fp seen others r.names r.by in
                let s = so_far.forth l (fp ++ others) (record { names = r.names; by = moved }) in
                let here : ResolvesBy bytes table mid.unclaimed l (others_wait ++ (fp ++ others)) s.names = subst (λ ps. ResolvesBy bytes table mid.unclaimed l (ps ++ (others_wait ++ (fp ++ others))) s.names) none (was_is l (fp
                ++ others) s.names s.by) in
                let front = resolves_swap bytes table mid.unclaimed l others_wait fp others s.names here in
                after_forth l others (record { names = s.names; by = subst (λ ps. ResolvesBy bytes table mid.unclaimed l (ps ++ (others_wait ++ others)) s.names) (sym value) front }));
            back = (λ l others names r.
                let s = subst (λ ps. ResolvesBy bytes table mid.unclaimed l (ps ++ (others_wait ++ others)) (a.found ++ names)) value (after_back l others names r) in
                let here = resolves_swap bytes table mid.unclaimed l fp others_wait others (a.found ++ names) s in
                let all = so_far.back l (fp ++ others) (a.found ++ names) (was_was l (fp ++ others) (a.found ++ names)
                (subst (λ ps. ResolvesBy bytes table mid.unclaimed l (ps ++ (others_wait ++ (fp ++ others))) (a.found ++ names)) (sym none) here)) in
                let moved = swap_inner first.unclaimed l start seen fp others (so_far.found ++ (a.found ++ names)) all in
                subst (λ ns. ResolvesBy bytes table first.unclaimed l (start ++ (fp ++ (seen ++ others))) ns) (named_apart names) moved);
          }

      pub resolving_more : Resolving first new
      resolving_more = ⊎_elim frozen_then owned_then (cases_eq (tag_at bytes block % 256) 7)

    -- ---- what can be resolved

    pub can_next : CanResolveAll bytes table first → CanResolve bytes table mid (places_in bytes table turn)
    can_next all = ⊎_elim frozen owned (cases_eq (tag_at bytes block % 256) 7)
      where
        owned : (IsFrozen bytes block → ⊥) → CanResolve bytes table mid (places_in bytes table turn)
        owned other =
            let r = remains all in
            record {
              left = all.left;
              others = awaited bytes table mid.turns ++ map (frozen_place bytes) r.rest;
              resolves = record {
                names = r.ahead.names;
                by = subst (λ ps. ResolvesBy bytes table mid.unclaimed all.left (ps ++ (awaited bytes table mid.turns ++ map (frozen_place bytes) r.rest)) r.ahead.names) (owned_is bytes table next other)
                    (was_is all.left (map (frozen_place bytes) r.rest) r.ahead.names r.ahead.by);
              };
            }

        frozen : IsFrozen bytes block → CanResolve bytes table mid (places_in bytes table turn)
        frozen is =
            let r = remains all in
            let names = r.ahead.names in
            let wait = awaited bytes table mid.turns in
            let g = frozen_place bytes in
            let some : 1 ≤ times block r.rest = omega (arith, r.same block, times-append block so_far.seen r.rest, all.unseen block is, so_far.unseen block is, block_wanted is all, block_waits) in
            let later = remainder (block ∷ []) r.rest (λ h. ⊎_elim
            (λ same. subst (λ b. times b (block ∷ []) ≤ times b r.rest) same (omega (arith, some, times-same block [])))
            (λ other. omega (arith, times-other h block [] other))
            (cases_eq block h)) in
            let here : ResolvesBy bytes table mid.unclaimed all.left (wait ++ map g r.rest) names =
            subst (λ ps. ResolvesBy bytes table mid.unclaimed all.left (ps ++ (wait ++ map g r.rest)) names) (frozen_is next is) (was_is all.left (map g r.rest) names r.ahead.by) in
            let front = resolves_swap bytes table mid.unclaimed all.left wait (map g r.rest) [] names (subst (λ xs. ResolvesBy bytes table mid.unclaimed all.left (wait ++ xs) names) (sym (append-nil (map g r.rest))) here) in
            let ordered = in_any_order bytes table g mid.unclaimed all.left r.rest (block ∷ later.rest) (wait ++ []) names later.same front in
            record {
              left = all.left;
              others = map g later.rest ++ (wait ++ []);
              resolves = record {
                names = names;
                by = subst (λ ps. ResolvesBy bytes table mid.unclaimed all.left (ps ++ (map g later.rest ++ (wait ++ []))) names) (sym (frozen_value is)) ordered;
              };
            }

  -- ---- the queue is empty

  pub all_seen : (first was last : Known) → Resolving first was → was.turns ≡ [] → last.unclaimed ≡ was.unclaimed → KeepsNaming was last → (AreBlocksCounted was → AreBlocksCounted last) → Owned bytes table first last
  all_seen first was last s none same names counted = record {
    counted = (λ k. counted (s.counted k));
    within = (λ h. omega (arith, s.within h, ap (times h) same));
    seen = s.seen;
    are_frozen = s.are_frozen;
    unseen = (λ h f.
        let empty : times h (blocks_of was.turns) ≡ 0 = ap (λ ts. times h (blocks_of ts)) none in
        omega (arith, s.unseen h f, ap (times h) same, empty));
    standing_kept = (λ h f. (λ i. times h (same i) + times h (names.named_kept i)) ∙ s.standing_kept h f);
    seen_within = s.seen_within;
    found = s.found;
    counts = (λ before c. counts_kept bytes was last (s.found ++ before) names (s.counts before c));
    forth = (λ l others r. subst (λ u. Resolves bytes table u l others) (sym same) (subst (λ ts. Resolves bytes table was.unclaimed l (awaited bytes table ts ++ others)) none (s.forth l others r)));
    back = (λ l others ns r. s.back l others ns (subst (λ ts. ResolvesBy bytes table was.unclaimed l (awaited bytes table ts ++ others) ns) (sym none) (subst (λ u. ResolvesBy bytes table u l others ns) same r)));
  }
