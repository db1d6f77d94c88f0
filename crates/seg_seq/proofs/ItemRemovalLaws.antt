-- The last item of a vector is destroyed, with the frozen objects that lost their last cell, from
-- how the steps change the bytes.
use Rattle.std.proofs.Common.{◌≡◌, ◌≢◌, ℕ, ◌+◌, ◌*◌, ◌/◌, ◌%◌, ◌^◌, ◌<◌, ◌≤◌, ◌⊎◌, inl, inr, List, [], ◌∷◌, ◌++◌, length, Option, Some, None, refl, sym, ap, ◌∙◌, subst, arith}
use Rattle.std.specs.Prelude.{option_map, option_to_list}
use Rattle.std.specs.List.{AllByRecursion}
use Rattle.std.proofs.lemmas.Bool.{cases_eq}
use Rattle.std.proofs.lemmas.List.{append-nil}
use Rattle.seg_spec.specs.Bytes.{set_word, IsSame}
use Rattle.seg_spec.specs.Pointer.{target}
use Rattle.seg_spec.specs.Types.{Form, Table, form_at, size}
use Rattle.seg_spec.specs.Value.{Value, Values, Seq, nil, nth, count, default_of}
use Rattle.seg_spec.specs.Items.{without_last}
use Rattle.seg_spec.specs.Heap.{units_at, IsHeap, live, heap_start}
use Rattle.seg_spec.specs.Block.{Kind, tag_of, block_of, IsBlock, IsInside, KeepsBlock, payload_size}
use Rattle.seg_spec.specs.Reads.{Place, count_at, named, start, items, NamesRoom, Holds, HoldsEach}
use Rattle.seg_spec.specs.Apart.{Separate, KeepsBlockAround}
use Rattle.seg_spec.specs.Sound.{times, positions}
use Rattle.seg_spec.specs.Parts.{persist_none, PartsStay, KeepsParts}
use Rattle.seg_spec.specs.Owning.{Stands}
use Rattle.seg_spec.specs.Demand.{after_gives}
use Rattle.seg_spec.specs.Spending.{PartBlocks}
use Rattle.seg_spec.specs.Frozen.{Frozen, blocks_by}
use Rattle.seg_spec.specs.Destroying.{AreLive}
use Rattle.seg_spec.specs.Clearing.{SharedBeside, ClearsPlace, LosesPart}
use Rattle.seg_spec.proofs.SliceLaws.{IsSame-part, IsSame-trans}
use Rattle.seg_spec.proofs.Tables.TypeSizeLaws.{size_large}
use Rattle.seg_spec.proofs.Values.CellChangeLaws.{size_aligned}
use Rattle.seg_spec.proofs.Values.PlaceFrameLaws.{cell-target}
use Rattle.seg_spec.proofs.Heap.LiveBlockLaws.{times-same, times-other, times-more, times-append, there, each_there, live-once, LiesIn, live-lie, live-apart, OneOrApart}
use Rattle.seg_spec.proofs.Heap.BlockFrameLaws.{kept_twice, around_kept}
use Rattle.seg_spec.proofs.Frozen.FrozenBlockLaws.{hold_kept, frozen_twice, frozen_kept}
use Rattle.seg_spec.proofs.Deallocation.SharedDestructionLaws.{shared_fewer}
use Rattle.seg_spec.proofs.Values.PathSplitLaws.{count_is, nth-append}
use Rattle.seg_spec.proofs.Values.PlaceWriteLaws.{home_live}
use Rattle.seg_spec.proofs.Values.BufferLaws.{holds_buffered, entries_stay, entries_kept, parts_stay}
use Rattle.seg_spec.proofs.Values.PersistenceLaws.{parts_around}
use Rattle.seg_seq.proofs.CallPlaceLaws.{Leaves, ended}
use Rattle.seg_seq.proofs.CountWriteLaws as counting
use Rattle.seg_seq.proofs.Rooms.{block_again, Reaches, reaches, none_counted}
use Rattle.seg_seq.proofs.Items.{get_item, one_more, how_many, Last, last_of, all_but_last, its_items}
use Rattle.seg_seq.proofs.ItemAdditionLaws.{same_items, HasEach, has_each}

-- the position of an item is a multiple of 8
aligned_item : (p n z : ℕ) → p % 8 ≡ 0 → z % 8 ≡ 0 → (p + n * z) % 8 ≡ 0
aligned_item p n z a b =
    let k : z ≡ 8 * (z / 8) = omega arith in
    let m : n * z ≡ 8 * (n * (z / 8)) = ap (λ x. n * x) k ∙ (let g : n * (8 * (z / 8)) ≡ 8 * (n * (z / 8)) = grind arith in g) in
    omega arith

module _ (allocator : ℕ) (old : List ℕ) (table : Table) (place : Place) (U : ℕ) (vs : Values) (blocks : List ℕ) (f : form_at table place.type ≡ Some (Form.vec U)) (s : Stands allocator old table place (Seq vs) blocks)
    (n : ℕ) (more : count_at old place.at ≡ n + 1) where
  pub e : HasEach allocator old table place U vs blocks f s
  e = has_each allocator old table place U vs blocks f s

  pub some_buffer : (p : ℕ) × (target old place.at ≡ Some p)
  some_buffer = go (target old place.at) refl
    where
      go : (o : Option ℕ) → target old place.at ≡ o → (p : ℕ) × (target old place.at ≡ Some p)
      go None is = let none = none_counted allocator old table place (Form.vec U) (Seq vs) blocks f refl s is in absurd (omega arith)
      go (Some p) is = (p, is)

  module _ (p : ℕ) (is : target old place.at ≡ Some p) where
    g : Reaches allocator old table place (Form.vec U) (Seq vs) blocks f refl s p
    g = reaches allocator old table place (Form.vec U) (Seq vs) blocks f refl s p is

    abbrev pub q : ℕ
    q = p + n * size table U

    abbrev pub item : Place
    item = record { at = q; type = U }

    there_is : start old place.at ≡ p
    there_is = rw is refl

    room : n * size table U + size table U ≤ payload_size old (block_of p)
    room =
        let m : (n + 1) * size table U ≡ n * size table U + size table U = grind arith in
        let r = g.block_is.room in
        let c : count_at old place.at * size table U ≡ n * size table U + size table U = ap (λ k. k * size table U) more ∙ m in
        omega arith

    pub last : Last old table (items table p U n) item vs e.owned
    last =
        let all = subst (λ k. HoldsEach old table (items table p U k) vs e.owned) more (subst (λ a. HoldsEach old table (items table a U (count_at old place.at)) vs e.owned) there_is e.each) in
        last_of old table (items table p U n) item vs e.owned (subst (λ ps. HoldsEach old table ps vs e.owned) (one_more table U p n) all)

    -- the blocks that the vector then owns
    pub others : List ℕ
    others = block_of p ∷ last.xs

    blocks_are : (h : ℕ) → times h blocks ≡ times h others + times h last.zs
    unfolding others
    blocks_are h =
        let b : blocks ≡ block_of p ∷ (last.xs ++ last.zs) = e.blocks_are ∙ ap (λ o. option_to_list (option_map block_of o) ++ e.owned) is ∙ ap (λ os. block_of p ∷ os) last.blocks_are in
        ap (times h) b ∙ times-append h (block_of p ∷ last.xs) last.zs

    inside_item : IsInside old (block_of p) q (size table U)
    inside_item = let r = room in record { low = omega (arith, g.low); high = omega (arith, g.low, g.lies.size) }

    pub item_stands : Stands allocator old table item last.value last.zs
    unfolding others
    item_stands = record {
      heap = s.heap;
      allocator_is = s.allocator_is;
      is_table = s.is_table;
      ownable = s.ownable;
      holds_it = last.holds_it;
      aligned = aligned_item p n (size table U) (omega (arith, g.low, g.lies.aligned)) (size_aligned table s.is_table U);
      home = block_of p;
      inside = inside_item;
      owned = λ h. omega (arith, s.owned h, blocks_are h, times-more h s.home blocks, times-append h (block_of p ∷ []) last.zs, times-append h (block_of p ∷ []) last.xs);
    }

    -- the state in which the call that destroys the item begins
    pub item_beside : (names : List ℕ) (theirs : ℕ → List ℕ) (kept : List Place) (now final : List Frozen) → SharedBeside old table (s.home ∷ blocks) names theirs kept now final
        → SharedBeside old table (item_stands.home ∷ last.zs) names theirs kept now final
    unfolding item_stands others
    item_beside names theirs kept now final beside = shared_fewer old table (s.home ∷ blocks) (block_of p ∷ last.zs) names theirs kept now final
        (λ h. omega (arith, blocks_are h, times-more h s.home blocks, times-append h (block_of p ∷ []) last.zs, times-append h (block_of p ∷ []) last.xs)) beside

    pub its_blocks : PartBlocks old table place n last.zs
    its_blocks = record {
      form = Form.vec U;
      form_is = f;
      opened = its_items old table place U f;
      opens = record { named_room = rw is (rw is at (Rattle.seg_seq.proofs.Rooms.its allocator old table place (Form.vec U) (Seq vs) blocks f refl s).room); ascending = tt; opened_is = refl };
      part = item;
      part_is = rw (there_is, more) (get_item table U p (n + 1) n (omega arith));
      value = last.value;
      blocks = last.zs;
      holds = last.holds_it;
      gives_are = refl;
    }

    -- the item at index n is the last one
    pub value_is : (v : Value) → nth vs n ≡ Some v → v ≡ last.value
    value_is v e =
        let at : count last.left ≡ n = sym (count_is old table last.lefts) ∙ how_many table U p n in
        let it : nth vs n ≡ Some last.value = ap (nth vs) (sym at) ∙ ap (λ us. nth us (count last.left)) last.values_are ∙ nth-append last.left nil last.value in
        let both : Some v ≡ Some last.value = sym e ∙ it in
        cc

    -- ---- the item is cleared, with frozen objects, whose blocks aren't the vector's

    module _ (theirs : ℕ → List ℕ) (now final : List Frozen) (beside : AreLive old ((s.home ∷ blocks) ++ blocks_by theirs now)) (mid : List ℕ)
        (c : ClearsPlace old mid table item (default_of table U) last.zs [] theirs now final) where
      abbrev shares : List ℕ
      shares = blocks_by theirs now

      abbrev left : List ℕ
      left = blocks_by theirs final

      all_fit : (h : ℕ) → times h (s.home ∷ blocks) + times h shares ≤ times h (positions (live old))
      all_fit h = omega (arith, beside h, times-append h (s.home ∷ blocks) shares)

      -- each block of the item and of the frozen objects is freed or kept
      goes : (h : ℕ) → times h last.zs + times h shares ≡ times h c.gives + times h left
      goes h = omega (arith, c.all_are h, times-append h last.zs shares, times-append h c.gives left)

      live_mid : (h : ℕ) → times h (positions (live mid)) + times h c.gives ≡ times h (positions (live old))
      live_mid h = omega (arith, c.changes.live_are h, goes h, times-append h last.zs shares)

      -- each other block is kept, except the buffer's
      other_kept : (h : ℕ) → 1 ≤ times h (positions (live old)) → times h last.zs + times h shares ≡ 0 → h ≢ block_of p → KeepsBlock old mid h
      other_kept h some none other =
          let k = c.changes.kept h some (omega (arith, none, times-append h last.zs shares)) in
          let l = there (LiesIn old heap_start (length old)) h (positions (live old)) (live-lie old allocator s.heap) some in
          let mine = there (λ t. AllByRecursion (OneOrApart old t) (positions (live old))) (block_of p) (positions (live old)) (live-apart old allocator s.heap) g.is_live in
          let apart = there (OneOrApart old (block_of p)) h (positions (live old)) mine some in
          record {
            live = k.header.live;
            has_tag = k.header.has_tag;
            room = k.header.room;
            payload = k.payload (h + 16) (payload_size old h) (omega arith) (omega arith) (away apart l.size);
          }
        where
          away : OneOrApart old (block_of p) h → 2 ≤ units_at old h → Separate (h + 16) (payload_size old h) q (size table U)
          away (inl same) two = absurd (other same)
          away (inr (inl l)) two = let i = inside_item in inr (omega (arith, i.high, i.low, g.lies.size))
          away (inr (inr r)) two = let i = inside_item in inl (omega (arith, i.low))

      once_all : (h : ℕ) → times h (s.home ∷ blocks) + times h shares ≤ 1
      once_all h = omega (arith, all_fit h, live-once old allocator s.heap h)

      buffer_kept : KeepsBlockAround old mid q (size table U) (block_of p)
      unfolding others
      buffer_kept = c.changes.kept (block_of p) g.is_live (omega (arith, once_all (block_of p), blocks_are (block_of p), times-more (block_of p) s.home blocks, times-same (block_of p) last.xs, times-append (block_of p) last.zs shares))

      home_kept : KeepsBlock old mid s.home
      home_kept = other_kept s.home (home_live allocator old table place (Seq vs) blocks s) (omega (arith, once_all s.home, times-same s.home blocks, blocks_are s.home)) (λ same. g.other (sym same))

      lm : Leaves allocator old mid table place (blocks ++ shares) (others ++ left) (after_gives (live old) c.gives)
      unfolding others
      lm = record {
        allocator_is = s.allocator_is;
        heap = subst (λ a. IsHeap a mid) s.allocator_is c.changes.heap;
        ownable = c.changes.ownable;
        live_is = c.changes.live_is;
        counts = λ h. omega (
          arith,
          subst (λ bs. times h (positions bs) + times h c.gives ≡ times h (positions (live old))) c.changes.live_is (live_mid h),
          blocks_are h,
          goes h,
          times-append h blocks shares,
          times-append h others left,
        );
        frames = record {
          length_kept = c.changes.length_kept;
          front_kept = c.changes.front_kept;
          back_kept = c.changes.back_kept;
          kept = λ h some none.
              let l = there (LiesIn old heap_start (length old)) h (positions (live old)) (live-lie old allocator s.heap) some in
              let both = times-append h blocks shares in
              around_kept old mid place.at (size table place.type) h (omega (arith, l.size)) (other_kept h some (omega (arith, blocks_are h)) (λ same.
              let zero : times (block_of p) blocks ≡ 0 = subst (λ x. times x blocks ≡ 0) same (omega arith) in omega (arith, g.mine)));
          stays = λ h some none. omega (arith, live_mid h, goes h, blocks_are h, times-append h blocks shares);
        };
        home = s.home;
        inside = record { low = s.inside.low; high = omega (arith, s.inside.high, home_kept.room, home_lies.size) };
        owned = λ h. stay h (cases_eq s.home h);
      }
        where
          home_lies : LiesIn old heap_start (length old) s.home
          home_lies = there (LiesIn old heap_start (length old)) s.home (positions (live old)) (live-lie old allocator s.heap) (home_live allocator old table place (Seq vs) blocks s)

          stay : (h : ℕ) → (s.home ≡ h) ⊎ (s.home ≢ h) → times h (s.home ∷ (others ++ left)) ≤ times h (positions (live mid))
          stay h (inl same) = subst (λ x. times x (s.home ∷ (others ++ left)) ≤ times x (positions (live mid))) same
              (omega (arith, live_mid s.home, goes s.home, all_fit s.home, times-same s.home (others ++ left), times-append s.home others left, times-same s.home blocks, blocks_are s.home))
          stay h (inr other) = omega (arith, live_mid h, goes h, all_fit h, times-other h s.home (others ++ left) other, times-append h others left, times-other h s.home blocks other, blocks_are h)

      -- the blocks of the remaining frozen objects are still allocated
      left_mid : (h : ℕ) → 1 ≤ times h left → 1 ≤ times h (positions (live mid))
      left_mid h some = omega (arith, live_mid h, goes h, all_fit h, blocks_are h, times-more h s.home blocks)

      -- ---- the count is written

      module _ (new : List ℕ) (new_is : new ≡ set_word mid (place.at + 4) n) where
        small : n < 2 ^ 32
        small = let few = Rattle.seg_seq.proofs.ItemAdditionLaws.count_few allocator old table place U vs blocks f s in omega arith

        ln : Leaves allocator old new table place (blocks ++ shares) (others ++ left) (after_gives (live old) c.gives)
        ln = counting.count_leaves allocator old mid table s.is_table place (blocks ++ shares) (others ++ left) (after_gives (live old) c.gives) lm n small new new_is

        names_mid : target mid place.at ≡ Some p
        names_mid =
            let k = home_kept in
            let w = size_large table s.is_table place.type in
            let l = there (LiesIn old heap_start (length old)) s.home (positions (live old)) (live-lie old allocator s.heap) (home_live allocator old table place (Seq vs) blocks s) in
            cell-target old mid place.at (IsSame-part old mid (s.home + 16) (payload_size old s.home) place.at 8 (omega (arith, s.inside.low)) (omega (arith, s.inside.high, l.size)) k.payload) ∙ is

        names : target new place.at ≡ Some p
        names = counting.count_names allocator old mid table s.is_table place (blocks ++ shares) (others ++ left) (after_gives (live old) c.gives) lm n small new new_is ∙ names_mid

        counts : count_at new place.at ≡ n
        counts = counting.count_is allocator old mid table s.is_table place (blocks ++ shares) (others ++ left) (after_gives (live old) c.gives) lm n small new new_is

        mine : 1 ≤ times (block_of p) (others ++ left)
        unfolding others
        mine = omega (arith, times-same (block_of p) last.xs, times-append (block_of p) others left)

        kept_count : (h : ℕ) → 1 ≤ times h (others ++ left) → KeepsBlock mid new h
        kept_count h m = counting.count_kept allocator old mid table s.is_table place (blocks ++ shares) (others ++ left) (after_gives (live old) c.gives) lm n small new new_is h m

        first_same : IsSame old new p (n * size table U)
        first_same =
            let r = room in
            let b = buffer_kept in
            let k = kept_count (block_of p) mine in
            IsSame-trans old mid new p (n * size table U) (b.payload p (n * size table U) (omega (arith, g.low)) (omega (arith, g.low)) (inl (omega arith)))
            (IsSame-part mid new (block_of p + 16) (payload_size mid (block_of p)) p (n * size table U) (omega (arith, g.low)) (omega (arith, g.low, b.header.room)) k.payload)

        stay_kept : AllByRecursion (KeepsBlock old new) last.xs
        unfolding others
        stay_kept = each_there (KeepsBlock old new) last.xs (λ h some. one h some)
          where
            one : (h : ℕ) → 1 ≤ times h last.xs → KeepsBlock old new h
            one h some =
                let in_others : 1 ≤ times h (others ++ left) = omega (arith, times-more h (block_of p) last.xs, times-append h others left) in
                let was : 1 ≤ times h (positions (live old)) = omega (arith, s.owned h, blocks_are h, times-more h s.home blocks) in
                let gone : times h last.zs + times h shares ≡ 0 = omega (arith, once_all h, blocks_are h, times-more h s.home blocks) in
                kept_twice old mid new h (other_kept h was gone (λ same.
                let again : 1 ≤ times (block_of p) last.xs = subst (λ x. 1 ≤ times x last.xs) same some in
                omega (arith, once_all (block_of p), blocks_are (block_of p), times-more (block_of p) s.home blocks, times-same (block_of p) last.xs))) (kept_count h in_others)

        left_items : HoldsEach new table (items table p U n) last.left last.xs
        left_items =
            let k = entries_kept old new table s.is_table (Form.vec U) p n (Seq last.left) last.xs first_same stay_kept (last.left, refl, last.lefts) in
            subst (λ ws. HoldsEach new table (items table p U n) ws last.xs) (sym (same_items last.left k.0 k.1)) k.2

        mid_block : IsBlock mid p (tag_of Kind.buffer place.type) (n * size table U)
        mid_block =
            let r = room in
            let b = buffer_kept in
            record { after_header = g.low; live = b.header.live ∙ g.block_is.live; has_tag = b.header.has_tag ∙ g.block_is.has_tag; room = omega (arith, b.header.room) }

        room_now : NamesRoom new place.at (tag_of Kind.buffer place.type) (size table U)
        room_now =
            let r = room in
            let b = buffer_kept in
            let header = counting.count_header allocator old mid table s.is_table place (blocks ++ shares) (others ++ left) (after_gives (live old) c.gives) lm n small new new_is (block_of p) mine in
            rw names (block_again mid new p (tag_of Kind.buffer place.type) (n * size table U) (count_at new place.at * size table U) header (rw counts (omega (arith, b.header.room))) mid_block)

        holds_them : Holds new table place (Seq last.left) others
        unfolding others
        holds_them =
            let now : start new place.at ≡ p = rw names refl in
            let each : HoldsEach new table (items table (start new place.at) U (count_at new place.at)) last.left last.xs = rw (now, counts) left_items in
            let own : block_of p ∷ last.xs ≡ named new place.at ++ last.xs = ap (λ o. option_to_list (option_map block_of o) ++ last.xs) (sym names) in
            rw own (holds_buffered new table place (Form.vec U) (Seq last.left) last.xs f refl room_now (last.left, refl, each))

        -- the other items stay
        parts_left : KeepsParts old new table place n 1 0
        parts_left =
            let stay = entries_stay old new table s.is_table (Form.vec U) p n (Seq last.left) last.xs first_same stay_kept (last.left, refl, last.lefts) in
            let before : items table (start old place.at) U (count_at old place.at) ≡ items table p U n ++ item ∷ [] = rw (there_is, more) (one_more table U p n) in
            let after : items table (start new place.at) U (count_at new place.at) ≡ items table p U n ++ [] = rw (names, counts) (sym (append-nil (items table p U n))) in
            let around = parts_around old new table (Form.vec U) (items table p U n) (item ∷ []) [] (items table p U n) [] [] (λ e. (refl, refl)) stay persist_none in
            parts_stay old new table place (Form.vec U) (Seq vs) (Seq last.left) blocks others f refl s.holds_it holds_them n 1 0
            (subst (λ ps. PartsStay old new table (Form.vec U) ps (items table (start new place.at) U (count_at new place.at)) n 1 0) (sym before)
            (subst (λ ps. PartsStay old new table (Form.vec U) (items table p U n ++ item ∷ []) ps n 1 0) (sym after)
            (subst (λ k. PartsStay old new table (Form.vec U) (items table p U n ++ item ∷ []) (items table p U n ++ []) k 1 0) (how_many table U p n) around)))

        left_kept : (h : ℕ) → 1 ≤ times h left → KeepsBlock mid new h
        left_kept h some = kept_count h (omega (arith, times-append h others left))

        pub item_lost : LosesPart old new table place (Seq (without_last vs)) n blocks theirs now final
        item_lost =
            let same : without_last vs ≡ last.left = ap without_last last.values_are ∙ all_but_last last.left last.value in
            rw same (record {
              lost = last.zs;
              part = its_blocks;
              others = others;
              blocks_are = λ h. omega (arith, blocks_are h, times-append h last.zs others);
              clears = record {
                gives = c.gives;
                all_are = λ h. omega (arith, goes h, blocks_are h, times-append h blocks shares, times-append h c.gives (others ++ left), times-append h others left);
                changes = ended allocator old new table place (blocks ++ shares) (others ++ left) (after_gives (live old) c.gives) ln (Seq last.left) holds_them;
                shared_kept = frozen_twice old mid new theirs final c.shared_kept (frozen_kept allocator mid new lm.heap theirs final left_mid left_kept);
                holds = hold_kept mid new table s.is_table theirs final left_kept c.holds;
              };
              parts = parts_left;
            })
