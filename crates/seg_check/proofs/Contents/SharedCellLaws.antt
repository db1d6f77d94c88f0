-- Shared cells, and the frozen object to which each points.
use Rattle.std.proofs.Common.{◌≡◌, ◌≢◌, ℕ, zero, suc, ◌+◌, ◌-◌, ◌*◌, ◌/◌, ◌%◌, ◌^◌, ◌<◌, ◌≤◌, ◌⊎◌, inl, inr, ⊎_elim, true, false, cond, List, [], ◌∷◌, ◌++◌, length, Option, Some, None, Err, refl, sym, ap, ◌∙◌, subst, arith}
use Rattle.std.specs.Prelude.{nat_le}
use Rattle.std.specs.List.{AllByRecursion}
use Rattle.std.proofs.lemmas.Bool.{cases_eq}
use Rattle.std.proofs.lemmas.Bool.Decides.{nat_tests}
use Rattle.std.proofs.lemmas.List.{append-nil}
use Rattle.seg_spec.specs.Bytes.{word}
use Rattle.seg_spec.specs.Pointer.{target}
use Rattle.seg_spec.specs.Header.{allocator_word}
use Rattle.seg_spec.specs.Types.{Form, Table, form_at, size}
use Rattle.seg_spec.specs.Value.{Label, Values}
use Rattle.seg_spec.specs.Apart.{Separate}
use Rattle.seg_spec.specs.Shared.{names_each}
use Rattle.seg_spec.specs.Heap.{heap_start, units_at, live}
use Rattle.seg_spec.specs.Block.{Kind, kind_number, tag_of, block_of, payload_end, IsBlock, IsPayload}
use Rattle.seg_spec.specs.Frozen.{frozen_words}
use Rattle.seg_spec.specs.Reads.{Place, Opened, Opens, OpensShared, HoldsEach, holds, holds_none, named, count_at, shared_label}
use Rattle.seg_spec.specs.Sound.{times, positions}
use Rattle.seg_spec.proofs.Heap.LiveBlockLaws.{times-same, times-other, times-append, LiesIn, OneOrApart, live-lie, live-apart, there}
use Rattle.seg_check.specs.declared.fault.ContentFault.{ContentFault}
use Rattle.seg_check.specs.declared.marks.Waiting.{Waiting}
use Rattle.seg_check.specs.declared.fault.ContentFault.TheVariants.{Memory, BadPointer}
use Rattle.seg_check.specs.Claiming.{Refutes}
use Rattle.seg_check.specs.Positions.{LacksValueAt, lacks_block, in_value, in_cell, LacksAt}
use Rattle.seg_check.specs.Marks.{Known, Within}
use Rattle.seg_check.specs.Naming.{IsFrozen, SameOthers, IsUnder, CanBeTarget, IsNameable, frozen_number_at, slot_of, less, one_less, Counts}
use Rattle.seg_check.specs.Naming.{CountsBlock, blocks_of, unseen_at, standing_at, Finds, CanName, NamesFirst, NamesAgain, NamesBlock}
use Rattle.seg_check.specs.Turns.{LiesAt, by_sharing, Limited, owned_places, awaited, IsWaiting, AreWaiting, AreLow, EndsBy}
use Rattle.seg_check.specs.Resolving.{ReadsEach, reads_more, ResolvesBy, Resolves, CanResolve, Advances, IsReady}
use Rattle.seg_check.specs.Cells.{blocks_counted_by}
use Rattle.seg_check.proofs.Queue.ReadPlaceLaws.{own_names, positions_of}
use Rattle.seg_check.proofs.Blocks.FrozenClaimLaws.{blocks_append}
use Rattle.seg_check.proofs.Queue.QueueStepLaws.{can_open, open_back, limit}
use Rattle.seg_check.proofs.Blocks.CellClaimLaws.{named_some, named_none, advance_nothing}
use Rattle.seg_check.proofs.Contents.BufferLaws.{blocks_refused, blocks_lack, none_counts, few_named}
use Rattle.seg_check.proofs.Blocks.LackingBlockLaws.{null_lacks}
use Rattle.seg_check.proofs.Heap.TagLaws.{places_tagged}
use Rattle.seg_check.proofs.Queue.BlockLoopLaws.{frozen_is}

-- the tag of a frozen object
pub frozen_tag : (T : ℕ) → tag_of Kind.frozen T % 256 ≡ kind_number Kind.frozen
frozen_tag T = omega arith

pub frozen_type : (T : ℕ) → tag_of Kind.frozen T / 256 ≡ T
frozen_type T = omega arith

-- ---- subtraction

le_true : (a b : ℕ) → a ≤ b → nat_le a b ≡ true
le_true a b l = grind (arith, nat_tests)

le_false : (a b : ℕ) → b < a → nat_le a b ≡ false
le_false a b l = grind (arith, nat_tests)

le_or_not : (a b : ℕ) → (a ≤ b) ⊎ (b < a)
le_or_not a b = grind arith

pub less_some : (n m : ℕ) → m ≤ n → less n m ≡ Some (n - m)
less_some n m l = ap (λ b. cond b (Some (n - m)) None) (le_true m n l)

pub less_none : (n m : ℕ) → n < m → less n m ≡ None
less_none n m l = ap (λ b. cond b (Some (n - m)) None) (le_false m n l)

pub less_nothing : (n m : ℕ) → less n m ≡ Some 0 → n ≡ m
less_nothing n m e = ⊎_elim
    (λ some. let same : Some (n - m) ≡ Some 0 = sym (less_some n m some) ∙ e in let zero_left : n - m ≡ 0 = cc in omega arith)
    (λ none. let no : None ≡ Some 0 = sym (less_none n m none) ∙ e in cc)
    (le_or_not m n)

pub less_self : (n : ℕ) → less n n ≡ Some 0
less_self n = less_some n n (omega arith) ∙ ap Some (let e : n - n ≡ 0 = omega arith in e)

pub less_more : (n m : ℕ) → one_less (less n m) ≡ less n (suc m)
less_more n m = ⊎_elim
    (λ some. ap one_less (less_some n m some) ∙ ⊎_elim
    (λ more. less_some (n - m) 1 (omega arith) ∙ ap Some (let e : n - m - 1 ≡ n - suc m = omega arith in e) ∙ sym (less_some n (suc m) more))
    (λ none. less_none (n - m) 1 (omega arith) ∙ sym (less_none n (suc m) none))
    (le_or_not (suc m) n))
    (λ none. ap one_less (less_none n m none) ∙ sym (less_none n (suc m) (omega arith)))
    (le_or_not m n)

zero_of : (n : ℕ) → (1 ≤ n → ⊥) → n ≡ 0
zero_of zero none = refl
zero_of (suc n) none = absurd (none (omega arith))

module _ (bytes : List ℕ) (table : Table) (at T U : ℕ) (f : form_at table T ≡ Some (Form.shared U)) where
  abbrev tag : ℕ
  tag = tag_of Kind.frozen U

  abbrev room : ℕ
  room = frozen_words + size table U

  shared_opened : Option ℕ → Opened
  shared_opened t = record { label = shared_label U t; blocks = []; parts = [] }

  -- ---- cells that can be resolved

  shared_counts : (known : Known) → CanResolve bytes table known (record { at = at; type = T } ∷ []) → count_at bytes at ≡ length (named bytes at)
  shared_counts known r = (can_open bytes table known (record { at = at; type = T }) (Form.shared U) [] f r).opens.counted

  pub shared_counted : (known : Known) (e : ContentFault) → blocks_counted_by at (target bytes at) (count_at bytes at) ≡ Err e → Refutes e (CanResolve bytes table known (record { at = at; type = T } ∷ []))
  shared_counted known e is = blocks_refused _ at (count_at bytes at) (target bytes at) e is
      (λ none some r. absurd (omega (arith, some, shared_counts known r ∙ ap length (named_none bytes at none))))
      (λ p some none r. absurd (let counts : count_at bytes at ≡ 1 = shared_counts known r ∙ ap length (named_some bytes at p some) in omega arith))

  pub shared_many : (known : Known) → 2 ≤ count_at bytes at → CanResolve bytes table known (record { at = at; type = T } ∷ []) → ⊥
  shared_many known many r = absurd (omega (arith, many, shared_counts known r, few_named bytes at))

  pub shared_counted_lack : (e : ContentFault) → LiesAt bytes table (record { at = at; type = T }) → blocks_counted_by at (target bytes at) (count_at bytes at) ≡ Err e → LacksAt bytes table e
  shared_counted_lack e lies is = blocks_lack bytes table at (count_at bytes at) (target bytes at) e is
      (null_lacks bytes table at T tag room (Form.shared U) lies f (refl, refl))
      (λ p names none. in_cell T (Form.shared U) lies f (inl (none_counts bytes at p names none)))

  pub shared_many_lack : LiesAt bytes table (record { at = at; type = T }) → 2 ≤ count_at bytes at → LacksValueAt bytes table at
  shared_many_lack lies many = in_cell T (Form.shared U) lies f (inl (inl many))

  -- the cell doesn't point to a frozen object
  pub shared_lacks : (known : Known) (e : ContentFault) → IsReady bytes table known → LiesAt bytes table (record { at = at; type = T })
      → (e ≡ Memory) ⊎ (e ≡ BadPointer at) → Refutes e (CanName bytes known at tag room) → LacksAt bytes table e
  shared_lacks known e ready lies (inl same) refused = subst (LacksAt bytes table) (sym same) tt
  shared_lacks known e ready lies (inr same) refused =
      let none = subst (λ x. Refutes x (CanName bytes known at tag room)) same refused in
      subst (LacksAt bytes table) (sym same) (lacks_block tag room (in_value T (Form.shared U) lies f (refl, refl)) (λ p.
      let frozen = ready.frozen (block_of p.start) (ap (λ t. t % 256) p.is_block.has_tag ∙ frozen_tag U) in
      none (record { start = p.start; names = p.names; is_block = p.is_block; there = omega (arith, frozen, p.among) })))

  -- the cell points to a frozen object, whose number isn't below the limit
  pub shared_high : (old new : Known) (p : ℕ) → IsReady bytes table old → LiesAt bytes table (record { at = at; type = T }) → NamesBlock bytes old new at tag room p → LacksValueAt bytes table at
  shared_high old new p ready lies n = in_cell T (Form.shared U) lies f (inr (record { start = p; names = n.names; is_block = n.is_block; among = omega (arith, n.there, ready.standing (block_of p)) }))

  -- if a cell can be resolved, it may point to its target
  pub shared_named : (known : Known) (p : ℕ) → target bytes at ≡ Some p → CanResolve bytes table known (record { at = at; type = T } ∷ []) → CanBeTarget bytes table known.naming.below (record { at = p; type = U })
  shared_named known p names r =
      let o = can_open bytes table known (record { at = at; type = T }) (Form.shared U) [] f r in
      let label : o.opened.label ≡ Label.shared U p = ap (λ (x : Opened). x.label) o.opens.opened_is ∙ ap (shared_label U) names in
      (subst (λ l. AllByRecursion (CanBeTarget bytes table known.naming.below) (own_names l)) label o.under).0

  module _ (known : Known) (ready : IsReady bytes table known) where
    standing : (p : ℕ) → IsBlock bytes p tag room → standing_at known (block_of p) ≡ times (block_of p) (positions (live bytes))
    standing p b = ready.frozen (block_of p) (ap (λ t. t % 256) b.has_tag ∙ frozen_tag U)

    -- each block to which a cell may point is in the heap, and has a stored count
    pub nameable : IsNameable bytes known
    nameable = record {
      live = λ h some. let lies = there_lies h some in record { live = lies.live_is; size = lies.size; inside = lies.high };
      low = λ h some. let lies = there_lies h some in lies.low;
      slots = ready.slots T U f;
      small = ready.small;
    }
      where
        there_lies : (h : ℕ) → 1 ≤ standing_at known h → LiesIn bytes heap_start (length bytes) h
        there_lies h some = there (LiesIn bytes heap_start (length bytes)) h (positions (live bytes)) (live-lie bytes (word bytes allocator_word) ready.heap) (omega (arith, some, ready.standing h))

    pub shared_can : (p : ℕ) → target bytes at ≡ Some p → CanResolve bytes table known (record { at = at; type = T } ∷ []) → CanName bytes known at tag room
    shared_can p names r =
        let n = shared_named known p names r in
        record { start = p; names = names; is_block = n.is_block; there = omega (arith, standing p n.is_block, n.there) }

  -- ---- the cell's pointer is null

  pub shared_nothing : (known : Known) → target bytes at ≡ None → count_at bytes at ≡ 0 → Advances bytes table known known (record { at = at; type = T } ∷ [])
  unfolding shared_opened
  shared_nothing known e n =
      advance_nothing bytes table known (record { at = at; type = T }) (Form.shared U) (shared_opened None) f
      (record { payload = λ p some. absurd (let no : None ≡ Some p = sym e ∙ some in cc); counted = n ∙ sym (ap length (named_none bytes at e)); opened_is = sym (ap shared_opened e) }) refl refl refl

  -- ---- the cell points to an object

  module _ (old new : Known) (ready : IsReady bytes table old) (start : ℕ) (n : NamesBlock bytes old new at tag room start) where
    abbrev block : ℕ
    block = block_of start

    is_frozen : IsFrozen bytes block
    is_frozen = ap (λ t. t % 256) n.is_block.has_tag ∙ frozen_tag U

    after : start ≡ block + 16
    after = let high = n.is_block.after_header in omega arith

    -- the block is allocated
    is_there : 1 ≤ times block (positions (live bytes))
    is_there = omega (arith, n.there, ready.frozen block is_frozen)

    -- two blocks have different stored counts
    pub slots_apart : (h : ℕ) → h ≢ block → 1 ≤ times h (positions (live bytes)) → slot_of h ≢ slot_of block
    slots_apart h other some e =
        let all = live-apart bytes (word bytes allocator_word) ready.heap in
        let mine = there (λ x. AllByRecursion (OneOrApart bytes x) (positions (live bytes))) block (positions (live bytes)) all is_there in
        let lies = there (LiesIn bytes heap_start (length bytes)) h (positions (live bytes)) (live-lie bytes (word bytes allocator_word) ready.heap) some in
        let own = there (LiesIn bytes heap_start (length bytes)) block (positions (live bytes)) (live-lie bytes (word bytes allocator_word) ready.heap) is_there in
        ⊎_elim (λ same. other same) (λ apart. far lies.size own.size lies.low own.low apart) (there (OneOrApart bytes block) h (positions (live bytes)) mine some)
      where
        far : 2 ≤ units_at bytes h → 2 ≤ units_at bytes block → heap_start ≤ h → heap_start ≤ block → Separate block (16 * units_at bytes block) h (16 * units_at bytes h) → ⊥
        far a b c d (inl before) = absurd (omega arith)
        far a b c d (inr behind) = absurd (omega arith)

    -- ---- the counts after the step

    module _ (before : List ℕ) (c : Counts bytes old before) where
      here : CountsBlock bytes new (start ∷ before) block
      here = go n.changes
        where
          one_more : times (block + 16) (start ∷ before) ≡ suc (times (block + 16) before)
          one_more =
              let e : times (block + 16) (start ∷ before) ≡ 1 + times (block + 16) before = ap (λ p. times p (start ∷ before)) (sym after) ∙ times-same start before ∙ ap (λ p. 1 + times p before) after in
              omega arith

          go : NamesFirst bytes old new start ⊎ NamesAgain old new start → CountsBlock bytes new (start ∷ before) block
          go (inl first) =
              let none : times (block + 16) before ≡ 0 = zero_of (times (block + 16) before) (λ some. let named = (c.each block is_frozen).named.1 some in omega (arith, named, first.was_unnamed)) in
              record {
                named = (λ s. omega (arith, one_more), λ s. omega (arith, n.named));
                left = λ s. first.left ∙ (λ i. less (word bytes (after i)) (sym (one_more ∙ ap suc none) i));
              }
          go (inr again) = record {
            named = (λ s. omega (arith, one_more), λ s. omega (arith, n.named));
            left = λ s. again.left ∙ ap one_less ((c.each block is_frozen).left (omega (arith, again.was_named))) ∙ less_more (word bytes (block + 16)) (times (block + 16) before) ∙ ap (less (word bytes (block + 16))) (sym one_more);
          }

      elsewhere : (h : ℕ) → IsFrozen bytes h → h ≢ block → CountsBlock bytes new (start ∷ before) h
      elsewhere h z other =
          let same : times (h + 16) (start ∷ before) ≡ times (h + 16) before = times-other (h + 16) start before (λ e. other (omega (arith, e, after))) in
          let named = n.named_others h other in
          let was = c.each h z in
          record {
            named = (λ s. let some = was.named.0 (omega (arith, s, named)) in omega (arith, some, same), λ s. let some = was.named.1 (omega (arith, s, same)) in omega (arith, some, named));
            left = λ s. n.left_others h (slots_apart h other (omega (arith, s, named, ready.standing h))) ∙ was.left (omega (arith, s, named)) ∙ ap (less (word bytes (h + 16))) (sym same);
          }

      counts_then : Counts bytes new (start ∷ before)
      counts_then = record {
        each = λ h z. ⊎_elim (λ same. subst (CountsBlock bytes new (start ∷ before)) (sym same) here) (λ other. elsewhere h z other) (cases_eq h block);
        frozen = λ h some. ⊎_elim (λ same. subst (IsFrozen bytes) (sym same) is_frozen) (λ other. c.frozen h (omega (arith, some, n.named_others h other))) (cases_eq h block);
      }

    standing_then : (h : ℕ) → standing_at new h ≡ standing_at old h
    standing_then h = ⊎_elim (λ same. subst (λ x. standing_at new x ≡ standing_at old x) (sym same) (go n.changes)) (λ other. omega (arith, n.unclaimed_others h other, n.named_others h other)) (cases_eq h block)
      where
        go : NamesFirst bytes old new start ⊎ NamesAgain old new start → standing_at new block ≡ standing_at old block
        go (inl first) = omega (arith, first.was_unclaimed, first.now_claimed, first.was_unnamed, n.named)
        go (inr again) = omega (arith, ap (times block) again.unclaimed_kept, again.was_named, n.named)

    unseen_then : (h : ℕ) → unseen_at new h ≡ unseen_at old h
    unseen_then h = go n.changes
      where
        there_or_not : NamesFirst bytes old new start → times h new.unclaimed + times h (block ∷ []) ≡ times h old.unclaimed
        there_or_not first = ⊎_elim
            (λ same. subst (λ x. times x new.unclaimed + times x (block ∷ []) ≡ times x old.unclaimed) (sym same) (omega (arith, first.was_unclaimed, first.now_claimed, times-same block [])))
            (λ other. omega (arith, n.unclaimed_others h other, times-other h block [] (λ e. other (sym e))))
            (cases_eq h block)

        go : NamesFirst bytes old new start ⊎ NamesAgain old new start → unseen_at new h ≡ unseen_at old h
        go (inl first) =
            let waits : times h (blocks_of new.turns) ≡ times h (blocks_of old.turns) + times h (block ∷ []) = ap (λ ts. times h (blocks_of ts)) first.turns_are
            ∙ ap (times h) (blocks_append old.turns (record { turn = record { start = start; count = 1 }; below = Some (frozen_number_at bytes start) } ∷ [])) ∙ times-append h (blocks_of old.turns) (block ∷ []) in
            omega (arith, waits, there_or_not first)
        go (inr again) = omega (arith, ap (times h) again.unclaimed_kept, ap (λ ts. times h (blocks_of ts)) again.turns_kept)

    finds : Finds bytes old new (start ∷ [])
    finds = record {
      below_kept = n.below_kept;
      slots_kept = n.slots_kept;
      standing_within = λ h. omega (arith, standing_then h);
      standing_kept = λ h z. standing_then h;
      unseen_kept = λ h z. unseen_then h;
      allocated_kept = n.allocated_kept;
      counts = counts_then;
    }

    within : Within new.unclaimed old.unclaimed
    within h = ⊎_elim (λ same. subst (λ x. times x new.unclaimed ≤ times x old.unclaimed) (sym same) (go n.changes)) (λ other. omega (arith, n.unclaimed_others h other)) (cases_eq h block)
      where
        go : NamesFirst bytes old new start ⊎ NamesAgain old new start → times block new.unclaimed ≤ times block old.unclaimed
        go (inl first) = omega (arith, first.now_claimed)
        go (inr again) = omega (arith, ap (times block) again.unclaimed_kept)

    taken : SameOthers bytes old.unclaimed new.unclaimed
    taken h other = sym (n.unclaimed_others h (λ e. other (subst (IsFrozen bytes) (sym e) is_frozen)))

    -- ---- the queue's entry for the object

    is_waiting : LiesAt bytes table (record { at = at; type = T }) → NamesFirst bytes old new start → IsWaiting bytes table (record { turn = record { start = start; count = 1 }; below = Some (frozen_number_at bytes start) })
    is_waiting lies first =
        let b = ready.blocks block (omega (arith, first.was_unclaimed)) in
        let places = places_tagged bytes table ready.is_table (record { start = start; count = 1 }) Kind.frozen U n.is_block.has_tag in
        let inside = b.0.inside in
        let size = b.0.size in
        let room = n.is_block.room in
        let small = ready.small in
        let low : start + 8 ≤ 2 ^ 30 = omega (arith, after) in
        let ends : start + 8 + Rattle.seg_spec.specs.Types.size table U ≤ payload_end bytes block = omega (arith, after) in
        record {
          turn = record { reached = by_sharing lies f n.names; fits = subst (AllByRecursion (EndsBy table (payload_end bytes block))) (sym places) (ends, tt); low = subst AreLow (sym places) (low, tt); ownable = b.1 };
          frozen = λ z. record { one = refl; after_header = n.is_block.after_header; number_is = refl };
        }

    record Waits : Type 0 where
      pub turns : List Waiting
      pub turns_are : new.turns ≡ old.turns ++ turns
      pub are_waiting : AreWaiting bytes table turns
      pub none_owned : awaited bytes table turns ≡ []

    waits : LiesAt bytes table (record { at = at; type = T }) → Waits
    waits lies = go n.changes
      where
        go : NamesFirst bytes old new start ⊎ NamesAgain old new start → Waits
        go (inl first) = record {
          turns = record { turn = record { start = start; count = 1 }; below = Some (frozen_number_at bytes start) } ∷ [];
          turns_are = first.turns_are;
          are_waiting = (is_waiting lies first, tt);
          none_owned = append-nil (owned_places bytes table (record { turn = record { start = start; count = 1 }; below = Some (frozen_number_at bytes start) })) ∙ frozen_is bytes table (record {
            turn = record { start = start; count = 1 };
            below = Some
                (frozen_number_at bytes start);
          }) is_frozen;
        }
        go (inr again) = record { turns = []; turns_are = again.turns_kept ∙ sym (append-nil old.turns); are_waiting = tt; none_owned = refl }

    -- ---- the cell

    is_payload : IsPayload start
    is_payload =
        let lies = there (LiesIn bytes heap_start (length bytes)) block (positions (live bytes)) (live-lie bytes (word bytes allocator_word) ready.heap) is_there in
        let low = lies.low in
        let aligned = lies.aligned in
        record { low = omega (arith, after); aligned = omega (arith, after) }

    module _ (one : count_at bytes at ≡ 1) where
      opened : Opened
      opened = record { label = Label.shared U start; blocks = []; parts = [] }

      opens : OpensShared bytes at U opened
      unfolding opened
      opens = record {
        payload = λ p some. subst IsPayload (let same : start ≡ p = cc (n.names, some) in same) is_payload;
        counted = one ∙ sym (ap length (named_some bytes at start n.names));
        opened_is = ap (λ t. record { label = shared_label U t; blocks = []; parts = [] }) (sym n.names);
      }

      shared_forth : (below : Option ℕ) (left : List ℕ) (others : List Limited) → Resolves bytes table old.unclaimed left (limit bytes table below (record { at = at; type = T }) ∷ others) → Resolves bytes table new.unclaimed left others
      unfolding opened
      shared_forth below left others r = go r.by.reads r.by.owners
        where
          nothing : {vs : Values} {bs : List ℕ} → HoldsEach bytes table [] vs bs → bs ≡ []
          nothing holds_none = refl

          go : {vs : Values} {bs : List ℕ} → ReadsEach bytes table (limit bytes table below (record { at = at; type = T }) ∷ others) vs bs → SameOthers bytes old.unclaimed (bs ++ left) → Resolves bytes table new.unclaimed left others
          go (reads_more {vs = vs} {owned = rest} (holds form' a inside owned f' o' each v_is b_is) named hs) own =
              let forms : form' ≡ Form.shared U = cc in
              let o : OpensShared bytes at U a = subst (λ form. Opens bytes table (record { at = at; type = T }) form a) forms o' in
              let none : owned ≡ [] = nothing (subst (λ ps. HoldsEach bytes table ps inside owned) (ap (λ (x : Opened). x.parts) o.opened_is) each) in
              let no_block = ap (λ (x : Opened). x.blocks) o.opened_is in
              record {
                names = positions_of (names_each vs);
                by = record {
                  values = vs;
                  blocks = rest;
                  reads = hs;
                  owners = λ h other. sym (taken h other) ∙ own h other ∙ ap (λ bs. times h ((bs ++ rest) ++ left)) (b_is ∙ (λ i. no_block i ++ none i));
                  names_are = λ h. refl;
                };
              }

      pub advance_shared : LiesAt bytes table (record { at = at; type = T }) → IsUnder old.naming.below (frozen_number_at bytes start) → Advances bytes table old new (record { at = at; type = T } ∷ [])
      unfolding opened
      advance_shared lies under =
          let w = waits lies in
          let below = old.naming.below in
          let p : Place = record { at = at; type = T } in
          record {
            turns = w.turns;
            turns_are = w.turns_are;
            are_waiting = w.are_waiting;
            within = within;
            counted = n.counted;
            found = start ∷ [];
            finds = finds;
            forth = λ left others r. subst (λ ps. Resolves bytes table new.unclaimed left (ps ++ others)) (sym w.none_owned) (shared_forth below left others r);
            back = λ left others names r. open_back bytes table old.unclaimed new.unclaimed left below p (Form.shared U) opened others names f opens taken
                (record { is_block = n.is_block; there = is_there; under = under }, tt) (subst (λ ps. ResolvesBy bytes table new.unclaimed left (ps ++ others) names) w.none_owned r);
          }
