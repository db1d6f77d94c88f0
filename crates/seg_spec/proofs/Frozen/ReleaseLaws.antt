-- A cell that points to a frozen object is released. The object's count in the bytes is lowered,
-- and at 0 the object waits to be destroyed.
use Rattle.std.proofs.Common.{◌≡◌, ◌≢◌, ℕ, suc, ◌+◌, ◌-◌, ◌*◌, ◌^◌, ◌<◌, ◌≤◌, inl, inr, ⊎_elim, List, [], ◌∷◌, ◌++◌, length, Option, refl, sym, ap, ◌∙◌, subst, arith}
use Rattle.std.specs.Prelude.{nat_le}
use Rattle.std.specs.List.{AllByRecursion}
use Rattle.std.proofs.lemmas.List.{append-nil}
use Rattle.seg_spec.specs.Bytes.{word, set_word, ChangesOnly, slice}
use Rattle.seg_spec.specs.Types.{Table, IsTable, size}
use Rattle.seg_spec.specs.Value.{Value}
use Rattle.seg_spec.specs.Heap.{IsHeap, live, heap_start}
use Rattle.seg_spec.specs.Block.{Kind, tag_of, IsBlock, IsOwnable, KeepsBlock, IsInside, block_of}
use Rattle.seg_spec.specs.Reads.{Place, Holds, HoldsEach, holds_none, holds_more}
use Rattle.seg_spec.specs.Apart.{KeepsBlockAround}
use Rattle.seg_spec.specs.Frozen.{Frozen, root_of_frozen, blocks_by}
use Rattle.seg_spec.specs.Sound.{payload_of, HoldsRoot, times, SameBlocks, positions}
use Rattle.seg_spec.specs.Shared.{named_in, names_in, IsReleasing, with_count, kept_with}
use Rattle.seg_spec.specs.Releasing.{lowered, names_with, let_go}
use Rattle.seg_spec.specs.Owing.{KeepsLinked, no_parts, more_parts, owes, no_links}
use Rattle.seg_spec.specs.Destroying.{AreLive, GoesWith, KeepsOthers, PendsBeside, HoldFrozen, KeepFrozen, Awaits, Adds}
use Rattle.seg_spec.proofs.Values.PlaceFrameLaws.{word-same, target-same, Holds-kept, each_left, each_right}
use Rattle.seg_spec.proofs.Heap.LiveBlockLaws.{times-append, times-same, times-other, there, each_there, LiesIn, live-lie, live-once}
use Rattle.seg_spec.proofs.BytesLaws.{number-set_same}
use Rattle.seg_spec.proofs.Images.RootWriteLaws.{set_number-changes}
use Rattle.seg_spec.proofs.Heap.BlockWriteLaws.{KeptBut, live_kept_but}
use Rattle.seg_spec.proofs.Images.LooseRootLaws.{each_joined}
use Rattle.seg_spec.proofs.Frozen.FrozenBlockLaws.{times_by, hold_kept, frozen_twice, frozen_kept, released_each}
use Rattle.seg_spec.proofs.Heap.BlockFrameLaws.{around_kept}
use Rattle.seg_spec.proofs.Deallocation.CellDestructionLaws.{block_there}
use Rattle.seg_spec.proofs.Values.CallPlaceLaws.{ownable_linked}
use Rattle.std.proofs.lemmas.Bool.{cases_eq}
use Rattle.seg_spec.proofs.Deallocation.DestructionLaws.{heap_written, payload_written, no_common, others_twice, others_more, pends_kept, beside_kept, awaits_blocks, releasing_same}
use Rattle.seg_spec.proofs.Frozen.CountDecreaseLaws.{positions_of, named_positions, Named, Turned, turned}

no_bytes : (bytes : List ℕ) (at : ℕ) → slice bytes at 0 ≡ []
unfolding slice
no_bytes bytes at = refl

-- a block of the bytes contains this object
pub record IsFrozenThere (bytes : List ℕ) (table : Table) (f : Frozen) (blocks : List ℕ) : Type 0 where
  pub block : IsBlock bytes f.at (tag_of Kind.frozen f.type) (8 + size table f.type)
  pub count_is : word bytes f.at ≡ f.count
  pub number_is : word bytes (f.at + 4) ≡ f.number
  pub inside : List ℕ
  pub value : Holds bytes table (record { at = f.at + 8; type = f.type }) f.value inside
  pub blocks_are : blocks ≡ block_of f.at ∷ inside

module _ (bytes : List ℕ) (table : Table) (f : Frozen) (blocks : List ℕ) where
  begins : payload_of (root_of_frozen f) ≡ f.at
  begins = omega arith

  one_value : {place : Place} {v : Value} {xs : List ℕ} → HoldsEach bytes table (place ∷ []) (Rattle.seg_spec.specs.Value.cons v Rattle.seg_spec.specs.Value.nil) xs → Holds bytes table place v xs
  one_value (holds_more {blocks = mine} h holds_none) = rw (append-nil mine) h

  pub frozen_there : HoldsRoot bytes table (root_of_frozen f) blocks → IsFrozenThere bytes table f blocks
  frozen_there h =
      let block : IsBlock bytes f.at (tag_of Kind.frozen f.type) (8 + (1 * size table f.type + 0)) = subst (λ p. IsBlock bytes p (tag_of Kind.frozen f.type) (8 + (1 * size table f.type + 0))) begins h.block in
      record {
        block = record { after_header = block.after_header; live = block.live; has_tag = block.has_tag; room = omega (arith, block.room) };
        count_is = subst (λ p. word bytes p ≡ f.count) begins h.words_are.0;
        number_is = subst (λ p. word bytes (p + 4) ≡ f.number) begins h.words_are.1.0;
        inside = h.inside;
        value = one_value h.values;
        blocks_are = h.blocks_are ∙ ap (λ p. block_of p ∷ h.inside) begins;
      }

  pub there_frozen : IsFrozenThere bytes table f blocks → HoldsRoot bytes table (root_of_frozen f) blocks
  there_frozen o =
      let sized : 8 + size table f.type ≡ 8 + (1 * size table f.type + 0) = omega arith in
      record {
        before = omega arith;
        block = subst (λ p. IsBlock bytes p (tag_of Kind.frozen f.type) (8 + (1 * size table f.type + 0))) (sym begins) (subst (λ n. IsBlock bytes f.at (tag_of Kind.frozen f.type) n) sized o.block);
        words_are = (subst (λ p. word bytes p ≡ f.count) (sym begins) o.count_is, (subst (λ p. word bytes (p + 4) ≡ f.number) (sym begins) o.number_is, tt));
        name_is = no_bytes bytes _;
        inside = o.inside;
        values = subst (λ xs. HoldsEach bytes table _ _ xs) (append-nil o.inside) (holds_more o.value holds_none);
        blocks_are = o.blocks_are ∙ ap (λ p. block_of p ∷ o.inside) (sym begins);
      }

-- ---- the object's count is lowered

module _ (allocator : ℕ) (old new : List ℕ) (table : Table) (valid : IsTable table) (f : Frozen) (n : ℕ) (mine others : List ℕ) (heap : IsHeap allocator old) (o : IsFrozenThere old table f mine)
    (owned : AreLive old (mine ++ others)) (changes : ChangesOnly old new f.at 4) (count_is : word new f.at ≡ n) where
  own : ℕ
  own = block_of f.at

  mine_is : (h : ℕ) → times h mine ≡ times h (block_of f.at ∷ o.inside)
  mine_is h = ap (times h) o.blocks_are

  here : 1 ≤ times (block_of f.at) (positions (live old))
  here = omega (arith, owned (block_of f.at), mine_is (block_of f.at), times-same (block_of f.at) o.inside, times-append (block_of f.at) mine others)

  inside : IsInside old (block_of f.at) f.at 4
  inside = let room = o.block.room in let low = o.block.after_header in record { low = omega arith; high = omega arith }

  pub lowered_keeps : KeepsOthers old new (block_of f.at ∷ [])
  lowered_keeps = payload_written allocator old new f.at 4 (block_of f.at) heap inside here changes

  pub lowered_heap : IsHeap allocator new
  lowered_heap = heap_written allocator old new f.at 4 (block_of f.at) heap inside here changes

  -- the object's block is kept, except for the count
  pub lowered_around : KeepsBlockAround old new f.at 4 (block_of f.at)
  lowered_around =
      let own_block = block_of f.at in
      let k = there (KeptBut old new f.at 4 changes allocator heap own_block inside here) own_block (positions (live old)) (live_kept_but old new f.at 4 changes allocator heap own_block inside here) here in
      let first_word = word-same old new own_block (k.outside own_block 4 (omega arith) (omega arith)) in
      record {
        solid = omega (arith, k.solid);
        header = record {
          live = ap (λ w. nat_le (2 ^ 31) w) first_word;
          has_tag = word-same old new (own_block + 8) (k.outside (own_block + 8) 4 (omega arith) (omega arith));
          room = rw k.units_kept (omega arith);
        };
        payload = λ g m low high apart. changes.others g m apart;
      }

  -- all other blocks are kept
  pub beside_it : (h : ℕ) → 1 ≤ times h (positions (live old)) → h ≢ block_of f.at → KeepsLinked old new h
  beside_it h some other = lowered_keeps.others h some (times-other h (block_of f.at) [] (λ e. other (sym e)))

  inside_kept : AllByRecursion (KeepsBlock old new) o.inside
  inside_kept = each_there (KeepsBlock old new) o.inside (λ h some.
      let once = live-once old allocator heap h in
      let own_times = times-same (block_of f.at) o.inside in
      let n1 = mine_is h in
      let n2 = owned h in
      let n3 = times-append h mine others in
      let n4 : times h (block_of f.at ∷ o.inside) ≡ times h (block_of f.at ∷ []) + times h o.inside = times-append h (block_of f.at ∷ []) o.inside in
      (beside_it h (omega arith) (λ e. let same : times h (block_of f.at ∷ []) ≡ 1 = subst (λ x. times x (block_of f.at ∷ []) ≡ 1) (sym e) (times-same (block_of f.at) []) in absurd (omega arith))).whole.kept)

  value_then : Holds new table (record { at = f.at + 8; type = f.type }) f.value o.inside
  value_then = Holds-kept old new table valid o.value (changes.others (f.at + 8) (size table f.type) (inr (omega arith))) inside_kept

  block_then : IsBlock new f.at (tag_of Kind.frozen f.type) (8 + size table f.type)
  block_then = block_there allocator old new f.at 4 (block_of f.at) heap inside here changes f.at (tag_of Kind.frozen f.type) (8 + size table f.type) here o.block

  pub lowered_there : IsFrozenThere new table (with_count f n) mine
  lowered_there = record {
    block = block_then;
    count_is = count_is;
    number_is = word-same old new (f.at + 4) (changes.others (f.at + 4) 4 (inr (omega arith))) ∙ o.number_is;
    inside = o.inside;
    value = value_then;
    blocks_are = o.blocks_are;
  }

  -- the object's block shows what is freed with it
  pub lowered_goes : GoesWith new table f.at mine (named_in f.value)
  lowered_goes = record {
    owed = block_of f.at ∷ ((o.inside ++ []) ++ []);
    named = (named_in f.value ++ []) ++ [];
    owes_it = owes Kind.frozen f.type (record { at = f.at + 8; type = f.type } ∷ []) [] (o.inside ++ []) [] (named_in f.value ++ []) [] (block_then, refl, refl) (more_parts (inl (f.value, value_then, refl)) no_parts) no_links
        refl refl;
    owed_are = λ h. omega (arith, mine_is h, times-append h (block_of f.at ∷ []) o.inside, times-append h (block_of f.at ∷ []) ((o.inside ++ []) ++ []), times-append h (o.inside ++ []) [], times-append h o.inside []);
    named_are = λ h. omega (arith, times-append h (named_in f.value ++ []) [], times-append h (named_in f.value) []);
  }

-- ---- a cell that points to an object is released

module _ (allocator : ℕ) (old : List ℕ) (table : Table) (valid : IsTable table) (p : ℕ) (first : Option ℕ) (ys more : List ℕ) (kept : List Place) (theirs : ℕ → List ℕ) (final : List Frozen)
    (waiting : Awaits allocator old table first ys (p ∷ more) kept theirs final) (owned : AreLive old ys) where
  abbrev ms : List ℕ
  ms = waiting.named

  abbrev frozen : List Frozen
  frozen = waiting.frozen

  w : PendsBeside allocator old table first ys ms theirs frozen
  w = waiting.beside

  turn : Turned kept final p (more ++ ms) frozen
  turn = turned kept final p (more ++ ms) frozen waiting.releasing

  k : Named p frozen
  k = turn.it

  -- the object's blocks
  abbrev mine : List ℕ
  mine = theirs k.object.at

  abbrev lefts : List ℕ
  lefts = blocks_by theirs k.before

  abbrev rights : List ℕ
  rights = blocks_by theirs k.after

  abbrev Holds_it : Frozen → Type 0
  Holds_it f = HoldsRoot old table (root_of_frozen f) (theirs f.at)

  all_hold : AllByRecursion Holds_it (k.before ++ k.object ∷ k.after)
  all_hold = subst (HoldFrozen old table theirs) k.are w.holds

  hold_left : HoldFrozen old table theirs k.before
  hold_left = each_left Holds_it k.before (k.object ∷ k.after) all_hold

  hold_on : AllByRecursion Holds_it (k.object ∷ k.after)
  hold_on = each_right Holds_it k.before (k.object ∷ k.after) all_hold

  shares_count : (h : ℕ) → times h (blocks_by theirs frozen) ≡ times h lefts + times h mine + times h rights
  shares_count h =
      let e : times h (blocks_by theirs frozen) ≡ times h (blocks_by theirs (k.before ++ k.object ∷ k.after)) = ap (λ fs. times h (blocks_by theirs fs)) k.are in
      omega (arith, times_by theirs k.before (k.object ∷ k.after) h, times-append h mine rights)

  there_is : IsFrozenThere old table k.object mine
  there_is = frozen_there old table k.object mine hold_on.0

  abbrev others : List ℕ
  others = w.owed ++ (lefts ++ rights)

  all_are : (h : ℕ) → times h ys ≡ times h mine + times h (w.owed ++ (lefts ++ rights))
  all_are h =
      omega (arith, w.blocks_are h, times-append h w.owed (blocks_by theirs frozen), shares_count h, times-append h w.owed (lefts ++ rights), times-append h lefts rights)

  fits : AreLive old (mine ++ (w.owed ++ (lefts ++ rights)))
  fits h = omega (arith, owned h, all_are h, times-append h mine (w.owed ++ (lefts ++ rights)))

  -- the count lies in the bytes
  count_fits : p + 4 ≤ length old
  count_fits =
      let here : 1 ≤ times (block_of k.object.at) (positions (live old)) =
      let e : times (block_of k.object.at) mine ≡ times (block_of k.object.at) (block_of k.object.at ∷ there_is.inside) = ap (times (block_of k.object.at)) there_is.blocks_are in
      omega (arith, fits (block_of k.object.at), times-append (block_of k.object.at) mine others, times-same (block_of k.object.at) there_is.inside) in
      let lies = there (LiesIn old heap_start (length old)) (block_of k.object.at) (positions (live old)) (live-lie old allocator w.pends.heap) here in
      omega (arith, lies.high, there_is.block.room, there_is.block.after_header, k.at_is)

  module _ (v : ℕ) (small : v < 2 ^ 32) where
    pub written_changes : ChangesOnly old (set_word old p v) p 4
    written_changes = set_number-changes 4 old p v

    pub written_is : word (set_word old p v) p ≡ v
    written_is = number-set_same 4 old p v count_fits (omega arith)

  -- the count is lowered by one
  module _ (new : List ℕ) (changes : ChangesOnly old new p 4) (lowered_is : word new p ≡ word old p - 1) where
    was : word old p ≡ k.object.count
    was = subst (λ x. word old x ≡ k.object.count) k.at_is there_is.count_is

    count_is : word new p ≡ k.object.count - 1
    count_is = lowered_is ∙ ap (λ n. n - 1) was

    changes_there : ChangesOnly old new k.object.at 4
    changes_there = subst (λ x. ChangesOnly old new x 4) (sym k.at_is) changes

    count_there : word new k.object.at ≡ k.object.count - 1
    count_there = subst (λ x. word new x ≡ k.object.count - 1) (sym k.at_is) count_is

    own_there : 1 ≤ times (block_of k.object.at) mine
    own_there = let e : times (block_of k.object.at) mine ≡ times (block_of k.object.at) (block_of k.object.at ∷ there_is.inside) = ap (times (block_of k.object.at)) there_is.blocks_are in
        omega (arith, times-same (block_of k.object.at) there_is.inside)

    heap_then : IsHeap allocator new
    heap_then = lowered_heap allocator old new table valid k.object (k.object.count - 1) mine others w.pends.heap there_is fits changes_there count_there

    keeps_then : KeepsOthers old new (block_of k.object.at ∷ [])
    keeps_then = lowered_keeps allocator old new table valid k.object (k.object.count - 1) mine others w.pends.heap there_is fits changes_there count_there

    others_linked : (h : ℕ) → 1 ≤ times h others → KeepsLinked old new h
    others_linked h some =
        let n = no_common allocator old w.pends.heap mine others fits h some in
        beside_it allocator old new table valid k.object (k.object.count - 1) mine others w.pends.heap there_is fits changes_there count_there h n.0
        (λ e. let m : 1 ≤ times h mine = subst (λ x. 1 ≤ times x mine) (sym e) own_there in absurd (omega (arith, n.1)))

    -- the object's block changed only in its payload
    own_ownable : IsOwnable new table (block_of k.object.at)
    own_ownable =
        let own = block_of k.object.at in
        let o = w.ownable (block_of k.object.at) (omega (arith, shares_count (block_of k.object.at), own_there)) in
        let low = there_is.block.after_header in
        record {
          kind = o.kind;
          type = o.type;
          allowed = o.allowed;
          tag_is = word-same old new (block_of k.object.at + 8) (changes_there.others (block_of k.object.at + 8) 4 (inl (omega (arith, low)))) ∙ o.tag_is;
          link_is = target-same old new (block_of k.object.at + 12) (changes_there.others (block_of k.object.at + 12) 4 (inl (omega (arith, low)))) ∙ o.link_is;
        }

    -- the blocks of the objects before an object, of the object, and of the objects after it
    among : (f : Frozen) → f.at ≡ k.object.at → (h : ℕ) → times h (blocks_by theirs (k.before ++ f ∷ k.after)) ≡ times h lefts + times h mine + times h rights
    among f same h =
        let e : times h (theirs f.at) ≡ times h mine = ap (λ q. times h (theirs q)) same in
        omega (arith, times_by theirs k.before (f ∷ k.after) h, times-append h (theirs f.at) rights)

    ownable_there : (h : ℕ) → 1 ≤ times h lefts + times h mine + times h rights → IsOwnable new table h
    ownable_there h l = ⊎_elim
        (λ same. subst (IsOwnable new table) (sym same) own_ownable)
        (λ other.
        let there_too : 1 ≤ times h (positions (live old)) = omega (arith, l, fits h, times-append h mine others, times-append h w.owed (lefts ++ rights), times-append h lefts rights) in
        ownable_linked old new table h (beside_it allocator old new table valid k.object (k.object.count - 1) mine others w.pends.heap there_is fits changes_there count_there h there_too other)
        (w.ownable h (omega (arith, l, shares_count h))))
        (cases_eq h (block_of k.object.at))

    without_it : (h : ℕ) → times h (blocks_by theirs (k.before ++ k.after)) ≡ times h lefts + times h rights
    without_it h = times_by theirs k.before k.after h

    others_before : PendsBeside allocator old table first others ms theirs (k.before ++ k.after)
    others_before = record {
      owed = w.owed;
      pends = w.pends;
      holds = each_joined Holds_it k.before k.after hold_left hold_on.1;
      ownable = λ h l. w.ownable h (omega (arith, l, shares_count h, without_it h));
      blocks_are = λ h. omega (arith, without_it h, times-append h w.owed (lefts ++ rights), times-append h lefts rights, times-append h w.owed (blocks_by theirs (k.before ++ k.after)));
    }

    others_then : PendsBeside allocator new table first others ms theirs (k.before ++ k.after)
    others_then = beside_kept allocator old new table valid first others ms theirs (k.before ++ k.after) heap_then others_linked others_before

    live_then : (h : ℕ) → times h (positions (live new)) ≡ times h (positions (live old))
    live_then h = ap (λ bs. times h (positions bs)) keeps_then.live_kept

    none_own : (h : ℕ) → times h ys ≡ 0 → times h (block_of k.object.at ∷ []) ≡ 0
    none_own h none = times-other h (block_of k.object.at) [] (λ e. let m : 1 ≤ times h mine = subst (λ x. 1 ≤ times x mine) e own_there in absurd (omega (arith, all_are h)))

    -- the objects are kept, except for the count
    lowered_kept : KeepFrozen old new theirs final
    lowered_kept =
        let whole : (h : ℕ) → 1 ≤ times h lefts + times h rights → KeepsBlock old new h = λ h l. (others_linked h (omega (arith, l, times-append h w.owed (lefts ++ rights), times-append h lefts rights))).whole.kept in
        let alive : (h : ℕ) → 1 ≤ times h lefts + times h mine + times h rights → 1 ≤ times h (positions (live old)) = λ h l.
        omega (arith, l, fits h, times-append h mine others, times-append h w.owed (lefts ++ rights), times-append h lefts rights) in
        let before_it = frozen_kept allocator old new w.pends.heap theirs k.before (λ h l. alive h (omega (arith, l))) (λ h l. whole h (omega (arith, l))) in
        let after_it = frozen_kept allocator old new w.pends.heap theirs k.after (λ h l. alive h (omega (arith, l))) (λ h l. whole h (omega (arith, l))) in
        let it : AllByRecursion (KeepsBlockAround old new k.object.at 4) mine = each_there (KeepsBlockAround old new k.object.at 4) mine (λ h l.
        ⊎_elim
        (λ same. subst (KeepsBlockAround old new k.object.at 4) (sym same)
        (lowered_around allocator old new table valid k.object (k.object.count - 1) mine others w.pends.heap there_is fits changes_there count_there))
        (λ other.
        let solid = (there (LiesIn old heap_start (length old)) h (positions (live old)) (live-lie old allocator w.pends.heap) (alive h (omega (arith, l)))).size in
        around_kept old new k.object.at 4 h (omega (arith, solid))
        (beside_it allocator old new table valid k.object (k.object.count - 1) mine others w.pends.heap there_is fits changes_there count_there h (alive h (omega (arith, l))) other).whole.kept)
        (cases_eq h (block_of k.object.at))) in
        released_each (λ at. AllByRecursion (KeepsBlockAround old new at 4) (theirs at)) kept final (p ∷ more ++ ms) frozen waiting.releasing
        (subst (KeepFrozen old new theirs) (sym k.are) (each_joined (λ f. AllByRecursion (KeepsBlockAround old new f.at 4) (theirs f.at)) k.before (k.object ∷ k.after) before_it (it, after_it)))

    -- other cells still point to the object
    pub stays : (n : ℕ) → word new p ≡ suc n → Adds allocator old new table first [] ys more kept theirs final
    stays n there_some =
        let some : k.object.count - 1 ≡ suc n = sym count_is ∙ there_some in
        let frozen_then = k.before ++ with_count k.object (suc n) ∷ k.after in
        let there_then : IsFrozenThere new table (with_count k.object (suc n)) mine =
        subst (λ c. IsFrozenThere new table (with_count k.object c) mine) some
        (lowered_there allocator old new table valid k.object (k.object.count - 1) mine others w.pends.heap there_is fits changes_there count_there) in
        let it_then = there_frozen new table (with_count k.object (suc n)) mine there_then in
        let linked : (h : ℕ) → 1 ≤ times h lefts + times h rights → KeepsBlock old new h = λ h l. (others_linked h (omega (arith, l, times-append h w.owed (lefts ++ rights), times-append h lefts rights))).whole.kept in
        let left_then = hold_kept old new table valid theirs k.before (λ h l. linked h (omega (arith, l))) hold_left in
        let right_then = hold_kept old new table valid theirs k.after (λ h l. linked h (omega (arith, l))) hold_on.1 in
        let all = among (with_count k.object (suc n)) refl in
        let names_are : let_go p frozen ≡ [] = k.let_go_is ∙ ap (names_with k.object) some in
        let frozen_is : lowered p frozen ≡ k.before ++ with_count k.object (suc n) ∷ k.after = k.lowered_is ∙ ap (λ c. k.before ++ kept_with k.object c k.after k.after) some in
        record {
          keeps = others_more old new (block_of k.object.at ∷ []) ys none_own keeps_then;
          shared_kept = lowered_kept;
          awaits = record {
            named = ms;
            frozen = frozen_then;
            beside = record {
              owed = w.owed;
              pends = pends_kept allocator old new table valid first w.owed ms heap_then (λ h l. others_linked h (omega (arith, l, times-append h w.owed (lefts ++ rights)))) w.pends;
              holds = each_joined (λ f. HoldsRoot new table (root_of_frozen f) (theirs f.at)) k.before (with_count k.object (suc n) ∷ k.after) left_then (it_then, right_then);
              ownable = λ h l. ownable_there h (omega (arith, l, all h));
              blocks_are = λ h. omega (
                arith,
                all_are h,
                all h,
                times-append h w.owed (lefts ++ rights),
                times-append h lefts rights,
                times-append h w.owed (blocks_by theirs (k.before ++ with_count k.object (suc n) ∷ k.after)),
              );
            };
            releasing = subst (λ fs. IsReleasing kept final (more ++ ms) fs) frozen_is (subst (λ qs. IsReleasing kept final (positions_of qs ++ (more ++ ms)) (lowered p frozen)) names_are turn.releasing);
          };
        }

    -- no other cell points to the object, so it waits
    pub goes : (last : List ℕ) (next : Option ℕ) → word new p ≡ 0 → ((xs ys ns names : List ℕ) → GoesWith new table p xs ns → Awaits allocator new table first ys (ns ++ names) kept theirs final → AreLive new (xs ++ ys)
        → Adds allocator new last table next xs ys names kept theirs final) → Adds allocator old last table next [] ys more kept theirs final
    goes last next there_none push =
        let none : k.object.count - 1 ≡ 0 = sym count_is ∙ there_none in
        let f = k.object in
        let ns = named_in f.value in
        let goes_with = lowered_goes allocator old new table valid f (f.count - 1) mine others w.pends.heap there_is fits changes_there count_there in
        let fits_then : AreLive new (mine ++ others) = λ h. omega (arith, fits h, live_then h) in
        let names_are : let_go p frozen ≡ names_in f.value = k.let_go_is ∙ ap (names_with f) none in
        let frozen_is : lowered p frozen ≡ k.before ++ k.after = k.lowered_is ∙ ap (λ c. k.before ++ kept_with f c k.after k.after) none in
        let released : IsReleasing kept final (positions_of (names_in f.value) ++ (more ++ ms)) (k.before ++ k.after) =
        subst (λ fs. IsReleasing kept final (positions_of (names_in f.value) ++ (more ++ ms)) fs) frozen_is (subst (λ qs. IsReleasing kept final (positions_of qs ++ (more ++ ms)) (lowered p frozen)) names_are turn.releasing) in
        let releasing : IsReleasing kept final ((ns ++ more) ++ ms) (k.before ++ k.after) =
        releasing_same kept final (positions_of (names_in f.value) ++ (more ++ ms)) ((ns ++ more) ++ ms) (k.before ++ k.after) (λ h.
        let e : times h (positions_of (names_in f.value)) ≡ times h ns = ap (times h) (named_positions f.value) in
        omega (arith, times-append h (positions_of (names_in f.value)) (more ++ ms), times-append h more ms, times-append h (ns ++ more) ms, times-append h ns more)) released in
        let those : Awaits allocator new table first others (ns ++ more) kept theirs final = record { named = ms; frozen = k.before ++ k.after; beside = others_then; releasing = releasing } in
        let pushed = push mine others ns more (subst (λ x. GoesWith new table x mine ns) k.at_is goes_with) those fits_then in
        let all : SameBlocks (mine ++ others) ys = λ h. omega (arith, all_are h, times-append h mine (w.owed ++ (lefts ++ rights))) in
        record {
          keeps = others_twice old new last (block_of f.at ∷ []) (mine ++ others) ys (λ h zero_times. (none_own h zero_times, all h ∙ zero_times)) keeps_then pushed.keeps;
          shared_kept = frozen_twice old new last theirs final lowered_kept pushed.shared_kept;
          awaits = awaits_blocks allocator last table next (mine ++ others) ys more kept theirs final all pushed.awaits;
        }
