-- A new object apart from the image is added to its index.
use Rattle.std.proofs.Common.{◌≡◌, ◌≢◌, ℕ, ◌+◌, ◌*◌, ◌<◌, ◌≤◌, ◌⊎◌, inl, inr, List, [], ◌∷◌, ◌++◌, length, Some, None, refl, sym, ap, ◌∙◌, subst, append_assoc, arith}
use Rattle.std.proofs.lemmas.Bool.{cases_eq}
use Rattle.std.specs.List.{AllByRecursion}
use Rattle.std.specs.Prelude.{Contains}
use Rattle.seg_spec.specs.Bytes.{word, slice, IsSame}
use Rattle.seg_spec.specs.Header.{allocator_word, next_word, index_kind_word, index_cell, heap_start, free_word, back_start, back_size, KeepsFront, KeepsBack}
use Rattle.seg_spec.specs.Types.{size}
use Rattle.seg_spec.specs.Value.{count, default_of}
use Rattle.seg_spec.specs.Heap.{live, IsLive, Gives}
use Rattle.seg_spec.specs.Block.{Kind, tag_of, block_of, IsBlock, KeepsBlock, IsOwnable}
use Rattle.seg_spec.specs.Index.{Root, IsName}
use Rattle.seg_spec.specs.Sound.{Picture, HoldsRoots, holds_no_root, IsHeld, times, positions}
use Rattle.seg_spec.specs.Roots.{Listed, with_roots, KeepsNodes}
use Rattle.seg_spec.specs.Counting.{AreCounted}
use Rattle.seg_spec.specs.Demand.{Ask, need, block_for, units_for, after_asks}
use Rattle.seg_spec.specs.Spending.{entry_asks, object_asks, spent}
use Rattle.seg_spec.specs.Owing.{KeepsLinked}
use Rattle.seg_spec.specs.Calls.{Refuses}
use Rattle.seg_spec.proofs.SliceLaws.{IsSame-part, IsSame-trans}
use Rattle.seg_spec.proofs.Heap.BlockFrameLaws.{kept_twice, around_kept, around_twice}
use Rattle.seg_spec.proofs.Values.PlaceFrameLaws.{word-same}
use Rattle.seg_spec.proofs.Heap.LiveBlockLaws.{LiesIn, there, live-lie, times-append, times-other}
use Rattle.seg_spec.proofs.Values.CallPlaceLaws.{each_live_at, live_at, ownable_linked}
use Rattle.seg_spec.proofs.Heap.KeptBlockLaws.{front_kept}
use Rattle.seg_spec.proofs.Deallocation.BlockFreeLaws.{found, given_kept}
use Rattle.seg_spec.proofs.Deallocation.DestructionLaws.{linked_twice, linked_same}
use Rattle.seg_spec.proofs.Images.LooseRootLaws.{Trades, its, holds_its, loose_traded}
use Rattle.seg_value.specs.Stored.{Stored}
use Rattle.seg_index.specs.Lists.{FindsNamesOf, IsVacant, MayEnter, EntersName}
use Rattle.seg_index.specs.declared.lookup.Vacant.{Vacant}
use Rattle.seg_index.proofs.HeldNames.{finds_held}
use Rattle.seg_index.proofs.HeldChanges.{with_names, held_entered}
use Rattle.seg_index.proofs.IndexFrameLaws.{finds_kept, vacant_kept}
use Rattle.seg_manager.specs.Segments.{IsSegment, Becomes, new_root}
use Rattle.seg_manager.specs.NewNamed.{GivesNamed, MakesNamed, FindsNoRoom}
use Rattle.seg_spec.proofs.Heap.RequestLaws.{counts_one}
use Rattle.seg_manager.proofs.NewNamed.{count-copies, named_kind}
use Rattle.seg_spec.proofs.Frozen.PartCountLaws.{defaults_none}
use Rattle.seg_spec.proofs.Frozen.KeptCountLaws.{next_same, counted_still, counted_with}
use Rattle.seg_manager.proofs.ObjectAsks.{entry_asks_kept, spent_after, asks_after, gets_one, returned_one, no_room_first}
use Rattle.seg_spec.proofs.Images.PlainRootLaws.{HoldsPlain, plain_of}

times_cons : (h x : ℕ) (xs : List ℕ) → times h (x ∷ xs) ≡ times h (x ∷ []) + times h xs
times_cons h x xs = times-append h (x ∷ []) xs

module _ (allocator : ℕ) (old mid : List ℕ) (picture : Picture) (held : IsHeld old picture) (allocator_is : word old allocator_word ≡ allocator) (name : List ℕ) (T n object : ℕ)
    (g : GivesNamed allocator old mid picture.table (new_root picture.table name T n object)) (known : T < length picture.table) (is_name : IsName name) (some : 1 ≤ n) (few : n ≤ 65535) where
  abbrev root : Root
  root = new_root picture.table name T n object

  finds_old : FindsNamesOf allocator old picture.table picture.names held.index_blocks
  finds_old = subst (λ a. FindsNamesOf a old picture.table picture.names held.index_blocks) allocator_is (finds_held old picture held)

  counts : (h : ℕ) → times h (positions (live mid)) ≡ times h (block_of object ∷ positions (live old))
  counts h = counts_one allocator (live old) (live mid) (length old) (need (count root.values * size picture.table T + length name)) g.granted_is (block_of object) g.was_free g.now_live h

  kept : (h : ℕ) → 1 ≤ times h (positions (live old)) → KeepsBlock old mid h
  kept h is_live = (g.kept h is_live).whole.kept

  plain : HoldsPlain mid picture.table root (block_of object ∷ [])
  plain = plain_of mid picture.table root (block_of object ∷ []) refl g.holds

  object_block : IsBlock mid object (tag_of Kind.named T) (count root.values * size picture.table T + length name)
  object_block = subst (λ kind. IsBlock mid object (tag_of kind T) (count root.values * size picture.table T + length name)) (named_kind name is_name.not_empty) plain.block

  own_ownable : IsOwnable mid picture.table (block_of object)
  own_ownable = record { kind = Kind.named; type = T; allowed = known; tag_is = object_block.has_tag; link_is = g.link_is }

  ownable : AllByRecursion (λ b. IsOwnable mid picture.table b.at) (live mid)
  ownable = each_live_at (IsOwnable mid picture.table) (live mid) (λ h is_live. go h is_live (cases_eq (block_of object) h))
    where
      go : (h : ℕ) → 1 ≤ times h (positions (live mid)) → (block_of object ≡ h) ⊎ (block_of object ≢ h) → IsOwnable mid picture.table h
      go h is_live (inl e) = subst (IsOwnable mid picture.table) e own_ownable
      go h is_live (inr ne) =
          let was : 1 ≤ times h (positions (live old)) = (let c = counts h in let o = times-other h (block_of object) (positions (live old)) ne in omega arith) in
          ownable_linked old mid picture.table h (g.kept h was) (live_at (IsOwnable old picture.table) (live old) h held.laid_out.blocks was)

  -- calls on the index find the same names, and the new object isn't among them
  pub finds_mid : FindsNamesOf allocator mid picture.table picture.names held.index_blocks
  finds_mid = finds_kept allocator old mid picture.table picture.names held.index_blocks finds_old g.front_kept g.back_kept kept g.heap ownable
      (λ h. let c = counts h in let d = times_cons h (block_of object) (positions (live old)) in omega arith)

  -- the spot for the new name is the same
  pub vacant_mid : (vacant : Vacant) → IsVacant old picture.table picture.names name vacant → IsVacant mid picture.table picture.names name vacant
  vacant_mid vacant v = vacant_kept allocator old mid picture.table picture.names held.index_blocks finds_old g.front_kept g.back_kept kept finds_mid name vacant v

  pub may_enter : MayEnter mid picture.table held.index_blocks root
  may_enter =
      let c = count-copies n (default_of picture.table T) in
      record {
        is_name = is_name;
        no_words = refl;
        some = rw c some;
        few = rw c few;
        named = record { block = object_block; name_is = g.holds.name_is; is_live = let one = g.now_live in omega arith };
        other = let o = finds_old.owned (block_of object) in let free = g.was_free in omega arith;
      }

  -- ---- the requests

  abbrev units : ℕ
  units = need (n * size picture.table T + length name)

  granted_first : after_asks allocator (live old) (length old) (units_for units ∷ []) ≡ Some (live mid)
  granted_first = let c = count-copies n (default_of picture.table T) in rw c at g.granted_is

  abbrev its_asks : List ℕ → List Ask
  its_asks bytes = entry_asks (word bytes index_kind_word) bytes

  -- the request for the entry is the same as before the object was allocated
  asks_kept : its_asks mid ≡ its_asks old
  asks_kept =
      entry_asks_kept old mid picture.names held.index_blocks finds_old.lists (word-same old mid index_kind_word (IsSame-part old mid 0 24 index_kind_word 4 (omega arith) (omega arith) g.front_kept))
      (IsSame-part old mid back_start back_size index_cell 8 (omega arith) (omega arith) g.back_kept) (λ h some. (g.kept h (let o = finds_old.owned h in omega arith)).whole.size_kept)

  -- ---- the index lists the object

  module _ (new : List ℕ) (e : EntersName allocator mid new picture.table picture.names held.index_blocks root) where
    held_then : IsHeld new (with_names picture (e.before ++ root ∷ e.after))
    held_then = held_entered allocator old mid new picture held allocator_is root (block_of object ∷ []) g.length_kept g.front_kept g.back_kept kept g.holds (λ h. counts h ∙ times_cons h (block_of object) (positions (live old))) finds_mid e

    kept_then : (h : ℕ) → 1 ≤ times h (positions (live old)) → times h held.index_blocks ≡ 0 → KeepsBlock old new h
    kept_then h is_live none = kept_twice old mid new h (kept h is_live) (e.changes.kept h (let c = counts h in let d = times_cons h (block_of object) (positions (live old)) in omega arith) none)

    nodes_then : KeepsNodes old new held.index_blocks
    nodes_then tree h own some =
        let was : 1 ≤ times h (positions (live old)) = (let o = finds_old.owned h in omega arith) in
        let solid = (there (LiesIn old heap_start (length old)) h (positions (live old)) (live-lie old allocator finds_old.heap) was).size in
        let tree_mid = word-same old mid index_kind_word (IsSame-part old mid 0 24 index_kind_word 4 (omega arith) (omega arith) g.front_kept) ∙ tree in
        around_twice old mid new (h + 16) 16 h (around_kept old mid (h + 16) 16 h (omega arith) (kept h was)) (e.changes.nodes_kept tree_mid h own some)

    front_then : IsSame old new 0 24
    front_then = IsSame-trans old mid new 0 24 g.front_kept e.changes.front_kept

    allocator_then : word new allocator_word ≡ allocator
    allocator_then = word-same old new allocator_word (IsSame-part old new 0 24 allocator_word 4 (omega arith) (omega arith) front_then) ∙ allocator_is

    granted : spent allocator (live old) (length old) (object_asks old picture.table T n name) [] ≡ Some (live new)
    granted =
        spent_after allocator (live old) (live mid) (length old) units (its_asks old) granted_first ∙ ap (λ asks. spent allocator (live mid) (length old) asks []) (sym asks_kept)
        ∙ ap (λ end. spent allocator (live mid) end (its_asks mid) []) (sym g.length_kept) ∙ e.left_is ∙ ap Some (sym e.changes.live_is)

    next_then : word new next_word ≡ word old next_word
    next_then = word-same mid new next_word e.changes.middle_kept ∙ next_same old mid g.back_kept

    counted_then : AreCounted (word old next_word) picture → AreCounted (word new next_word) (with_names picture (e.before ++ root ∷ e.after))
    counted_then c =
        let others = picture.uniques ++ picture.loose in
        counted_still old new (with_names picture (e.before ++ root ∷ e.after)) next_then
        (counted_with (word old next_word) picture (with_names picture (e.before ++ root ∷ e.after)) e.before root (e.after ++ others) (ap (λ ns. ns ++ others) e.names_are ∙ append_assoc e.before e.after others)
        (append_assoc e.before (root ∷ e.after) others) (defaults_none n picture.table T) refl c)

    pub made : AreCounted (word old next_word) picture → (was now : Stored) → was.window.bytes ≡ old → was.types ≡ picture.table → now.window.bytes ≡ new → now.types ≡ was.types
        → MakesNamed allocator was now picture held.index_blocks name T n object
    made counted was now old_is table_is new_is types_are =
        let root_is : new_root picture.table name T n object ≡ new_root was.types name T n object = ap (λ t. new_root t name T n object) (sym table_is) in
        record {
          before = e.before;
          after = e.after;
          names_are = e.names_are;
          becomes = subst (λ r. Becomes allocator was now (with_roots picture Listed.by_name (e.before ++ r ∷ e.after)) held.index_blocks) root_is (record {
            segment = record { held = rw new_is held_then; counted = rw new_is (counted_then counted); table_is = types_are ∙ table_is; allocator_is = rw new_is allocator_then };
            length_kept = rw (new_is, old_is) (e.changes.length_kept ∙ g.length_kept);
            front_kept = rw (new_is, old_is) front_then;
            next_kept = rw (new_is, old_is) next_then;
            kept = rw (new_is, old_is) kept_then;
          });
          nodes_kept = rw (new_is, old_is) nodes_then;
          spends = rw (new_is, old_is, table_is) granted;
          gets_block = rw (old_is, table_is) (gets_one allocator (live old) (live mid) (length old) units [] granted_first (block_of object) g.was_free g.now_live);
        }

  -- ---- the index has no room for the entry, and the object's block is freed

  pub is_live_mid : IsLive mid (block_of object)
  is_live_mid =
      let f = found (block_of object) (live mid) (let one = g.now_live in omega arith) in
      (f.block.units, subst (λ h. Contains (live mid) (record { at = h; units = f.block.units })) f.at_is f.among)

  module _ (refused : Refuses allocator mid mid (its_asks mid)) (new : List ℕ) (gives : Gives allocator mid new (block_of object)) where
    left_live : live new ≡ live old
    left_live = gives.given ∙ returned_one allocator (live old) (live mid) (length old) units [] granted_first (block_of object) g.was_free g.now_live

    left_kept : (h : ℕ) → 1 ≤ times h (positions (live old)) → KeepsLinked old new h
    left_kept h is_live =
        linked_twice old mid new h (g.kept h is_live)
        (given_kept allocator mid new (block_of object) g.heap gives h (let c = counts h in let d = times_cons h (block_of object) (positions (live old)) in omega arith)
        (λ e. let free : times h (positions (live old)) ≡ 0 = ap (λ x. times x (positions (live old))) e ∙ g.was_free in absurd (omega arith)))

    fronts : KeepsFront mid new × KeepsBack mid new
    fronts = front_kept mid new gives.kept (let long = held.laid_out.header.not_small in omega (arith, g.length_kept))

    front_left : KeepsFront old new
    front_left = IsSame-trans old mid new 0 free_word g.front_kept fronts.0

    ownable_left : AllByRecursion (λ b. IsOwnable new picture.table b.at) (live new)
    ownable_left = each_live_at (IsOwnable new picture.table) (live new) (λ h some.
        let was : 1 ≤ times h (positions (live old)) = subst (λ bs. 1 ≤ times h (positions bs)) left_live some in
        ownable_linked old new picture.table h (left_kept h was) (live_at (IsOwnable old picture.table) (live old) h held.laid_out.blocks was))

    abbrev gone : List ℕ
    gone = its old new picture held [] [] picture.loose refl

    none_gone : (xs : List ℕ) → HoldsRoots old picture.table [] xs → (h : ℕ) → times h xs ≡ 0
    none_gone [] k h = refl
    none_gone (x ∷ xs) k h = elim k [ ]

    trades : Trades old new picture gone []
    trades = record {
      length_kept = gives.kept.length_kept ∙ g.length_kept;
      front_kept = front_left;
      back_kept = IsSame-trans old mid new back_start back_size g.back_kept fronts.1;
      heap = rw allocator_is gives.heap;
      ownable = ownable_left;
      kept = λ h some none. (left_kept h some).whole.kept;
      counts = λ h.
          let n = none_gone gone (holds_its old new picture held [] [] picture.loose refl) h in
          let l = ap (λ bs. times h (positions bs)) left_live in
          omega arith;
    }

    held_left : IsHeld new picture
    held_left = loose_traded old new picture held [] [] picture.loose refl [] [] trades holds_no_root tt

    lacking : after_asks allocator (live old) (length old) (object_asks old picture.table T n name) ≡ None
    lacking =
        asks_after allocator (live old) (live mid) (length old) units (its_asks old) granted_first ∙ ap (λ asks. after_asks allocator (live mid) (length old) asks) (sym asks_kept)
        ∙ ap (λ end. after_asks allocator (live mid) end (its_asks mid)) (sym g.length_kept) ∙ refused.no_room

    next_left : word new next_word ≡ word old next_word
    next_left = next_same mid new fronts.1 ∙ next_same old mid g.back_kept

    pub returned : AreCounted (word old next_word) picture → (was now : Stored) → was.window.bytes ≡ old → was.types ≡ picture.table → now.window.bytes ≡ new → now.types ≡ was.types
        → FindsNoRoom allocator was now picture (object_asks was.window.bytes was.types T n name)
    returned counted was now old_is table_is new_is types_are = record {
      no_room = rw (old_is, table_is) lacking;
      becomes = record {
        segment = record {
          held = rw new_is held_left;
          counted = rw new_is (counted_still old new picture next_left counted);
          table_is = types_are ∙ table_is;
          allocator_is = rw new_is (word-same old new allocator_word (IsSame-part old new 0 24 allocator_word 4 (omega arith) (omega arith) front_left) ∙ allocator_is);
        };
        length_kept = rw (new_is, old_is) (gives.kept.length_kept ∙ g.length_kept);
        front_kept = rw (new_is, old_is) front_left;
        next_kept = rw (new_is, old_is) next_left;
        kept = rw (new_is, old_is) (λ h some none. (left_kept h some).whole.kept);
      };
      live_is = rw (new_is, old_is) left_live;
    }

-- ---- the heap has no room for the object

pub unmade : (allocator : ℕ) (was now : Stored) (picture : Picture) → IsSegment allocator was picture → (name : List ℕ) (T n : ℕ) → Refuses allocator was.window.bytes now.window.bytes (block_for (n * size was.types T + length name) ∷ [])
    → now.types ≡ was.types → FindsNoRoom allocator was now picture (object_asks was.window.bytes was.types T n name)
unmade allocator was now picture s name T n refused types_are = record {
  no_room = no_room_first allocator (live was.window.bytes) (length was.window.bytes) (need (n * size was.types T + length name)) (entry_asks (word was.window.bytes index_kind_word) was.window.bytes) refused.no_room;
  becomes = record {
    segment = record {
      held = subst (λ bs. IsHeld bs picture) (sym refused.same) s.held;
      counted = counted_still was.window.bytes now.window.bytes picture (ap (λ bs. word bs next_word) refused.same) s.counted;
      table_is = types_are ∙ s.table_is;
      allocator_is = ap (λ bs. word bs allocator_word) refused.same ∙ s.allocator_is;
    };
    length_kept = ap length refused.same;
    front_kept = ap (λ bs. slice bs 0 free_word) refused.same;
    next_kept = ap (λ bs. word bs next_word) refused.same;
    kept = λ h some none. subst (λ bs. KeepsBlock was.window.bytes bs h) (sym refused.same) (linked_same was.window.bytes h).whole.kept;
  };
  live_is = ap live refused.same;
}
