-- The buffer of the flat index gets room, from how the steps of the calls change the bytes.
use Rattle.std.proofs.Common.{◌≡◌, ℕ, ◌+◌, ◌-◌, ◌*◌, ◌^◌, ◌<◌, ◌≤◌, max, min, List, [], ◌∷◌, length, Option, Some, None, MatchOption, option_map, refl, sym, ap, ◌∙◌, subst, arith}
use Rattle.std.specs.Prelude.{Contains}
use Rattle.seg_spec.specs.Pointer.{target}
use Rattle.seg_spec.specs.Types.{Table}
use Rattle.seg_spec.specs.Heap.{Span, span, units_at, live, IsHeap, Keeps, Takes, same, heap_start, resized}
use Rattle.seg_spec.specs.Block.{Kind, tag_of, block_of, IsBlock, payload_size}
use Rattle.seg_spec.specs.Reads.{count_at, named}
use Rattle.seg_spec.specs.Sound.{positions}
use Rattle.seg_spec.specs.Demand.{Ask, need, after_ask, after_gives}
use Rattle.seg_spec.specs.Spending.{units_named, buffer_asks, spent}
use Rattle.seg_spec.proofs.Heap.LiveBlockLaws.{there, LiesIn, live-lie}
use Rattle.seg_spec.proofs.Heap.KeptBlockLaws.{each_contained, StatesSpan, live_stated}
use Rattle.seg_spec.proofs.Deallocation.BlockFreeLaws.{found}
use Rattle.seg_spec.proofs.Values.BufferMoveLaws.{less_room}
use Rattle.seg_spec.proofs.Heap.GrantLaws.{GrewTo, spent_same, spent_fresh}
use Rattle.seg_block.specs.Blocks.{IsSized, IsLiveBlock}
use Rattle.seg_block.specs.Request.{Grants, GrantsNew}
use Rattle.seg_block.specs.declared.grant.Grant.{Grant}
use Rattle.seg_value.specs.Names.{index_cell, FindsNames, ChangesIndex, ReservesIndex, MovesIndex}
use Rattle.seg_value.proofs.BufferRequestLaws as by_request
use Rattle.seg_value.proofs.BufferRequestLaws.{ask, asks_nothing, NewFor}
use Rattle.seg_value.proofs.IndexEntryLaws.{name_block, name_live, name_room}
use Rattle.seg_value.proofs.IndexBufferLaws.{grown_index, grown_names, grown_target, grown_index_units}

module _ (allocator : ℕ) (old : List ℕ) (table : Table) (s : FindsNames allocator old table) where
  record Named (p : ℕ) : Type 0 where
    units : ℕ
    among : Contains (live old) (span (block_of p) units)
    units_is : units_at old (block_of p) ≡ units
    sized : IsSized old (span (block_of p) (units_at old (block_of p)))
    room : IsBlock old p (tag_of Kind.index_buffer 0) (count_at old index_cell * 8)

  index_block : (p : ℕ) → target old index_cell ≡ Some p → Named p
  index_block p e =
      let is_live = name_live allocator old table s p e in
      let f = found (block_of p) (live old) is_live in
      let l = there (LiesIn old heap_start (length old)) (block_of p) (positions (live old)) (live-lie old allocator s.heap) is_live in
      let stated = each_contained (StatesSpan old (length old)) (live old) f.block (live_stated old allocator s.heap) f.among in
      record {
        units = f.block.units;
        among = subst (λ x. Contains (live old) (span x f.block.units)) f.at_is f.among;
        units_is = ap (units_at old) (sym f.at_is) ∙ stated.units_is;
        sized = record { aligned = l.aligned; large = l.size; inside = l.high; size_is = refl };
        room = name_block allocator old table s p e;
      }

  pub names_fit : count_at old index_cell * 8 ≤ 2 ^ 30
  names_fit = go (target old index_cell) refl
    where
      go : (o : Option ℕ) → target old index_cell ≡ o → count_at old index_cell * 8 ≤ 2 ^ 30
      go None e = let none : count_at old index_cell ≡ 0 = rw e at s.room in omega arith
      go (Some p) e = omega (arith, name_room allocator old table s p e (count_at old index_cell * 8) (name_block allocator old table s p e).room, s.heap.small)

  module _ (limit : ℕ) where
    -- if the buffer has enough room already, nothing is asked for
    pub index_has_room : (room : ℕ) → room ≡ 16 * units_named old index_cell - 16 → limit * 8 ≤ room → ReservesIndex allocator old old table (buffer_asks old index_cell 8 limit) (limit * 8)
    index_has_room room e l = record {
      left = live old;
      left_is = ap (λ asks. spent allocator (live old) (length old) asks []) (asks_nothing allocator old index_cell 8 limit room e l);
      changes = record {
        length_kept = refl;
        front_kept = refl;
        middle_kept = refl;
        back_kept = refl;
        heap = subst (λ a. IsHeap a old) (sym s.allocator_is) s.heap;
        ownable = s.ownable;
        live_is = refl;
        live_are = λ h. refl;
        kept = λ h some away. record { live = refl; has_tag = refl; room = omega arith; payload = refl };
        room = s.room;
      };
      names = record { counted = refl; entries = λ i l'. (refl, refl) };
      room = go (target old index_cell) refl;
    }
      where
        go : (o : Option ℕ) → target old index_cell ≡ o → MatchOption o (limit * 8 ≡ 0) (λ p. limit * 8 ≤ payload_size old (block_of p))
        go None f = let u : units_named old index_cell ≡ 0 = rw f refl in omega arith
        go (Some p) f = let u : units_named old index_cell ≡ units_at old (block_of p) = rw f refl in omega arith

    module _ (much : 16 * units_named old index_cell - 16 < limit * 8) where
      pub index_wanted : (kept entries wanted : ℕ) → limit * 8 < 2 ^ 32 → kept ≡ count_at old index_cell → (kept < 2 ^ 31 → entries ≡ max 4 (max (2 * kept) limit)) → (entries * 8 < 2 ^ 32 → wanted ≡ need (entries * 8))
          → wanted ≡ need (max 4 (max (2 * count_at old index_cell) limit) * 8)
      index_wanted kept entries wanted small kept_is entries_by wanted_by =
          let few = names_fit in
          let entries_are : entries ≡ max 4 (max (2 * count_at old index_cell) limit) = entries_by (omega arith) ∙ ap (λ k. max 4 (max (2 * k) limit)) kept_is in
          let fits : max 4 (max (2 * count_at old index_cell) limit) * 8 < 2 ^ 32 = omega arith in
          wanted_by (rw entries_are fits) ∙ ap (λ k. need (k * 8)) entries_are

      pub index_wanted_large : (kept entries wanted : ℕ) → 2 ^ 32 ≤ limit * 8 → kept ≡ count_at old index_cell → (kept < 2 ^ 31 → entries ≡ max 4 (max (2 * kept) limit))
          → (2 ^ 32 ≤ entries * 8 → wanted ≡ need (2 ^ 32 - 1)) → wanted ≡ need (2 ^ 32 - 1)
      index_wanted_large kept entries wanted large kept_is entries_by wanted_by =
          let few = names_fit in
          let e = entries_by (omega arith) in
          wanted_by (omega arith)

      abbrev pub asked : Ask
      asked = ask allocator old index_cell 8 limit

      -- the buffer after the request, by the request's result
      abbrev pub Enlarged : List ℕ → Option Grant → Type 0
      Enlarged = by_request.Enlarged allocator old index_cell 8 limit (λ mid. ReservesIndex allocator old mid table (ask allocator old index_cell 8 limit ∷ []) (limit * 8))

      grew : (mid : List ℕ) (p : ℕ) (after : List Span) → target old index_cell ≡ Some p → IsHeap allocator mid → Keeps old mid → (x : ℕ) → Contains (live old) (span (block_of p) x)
          → GrewTo (live old) after (block_of p) x (need (limit * 8)) → live mid ≡ after → after_ask allocator (live old) (length old) asked ≡ Some (same after) → ReservesIndex allocator old mid table (asked ∷ []) (limit * 8)
      grew mid p after e heap kept x it g live_is granted =
          let is : live mid ≡ resized (block_of p) g.units (live old) = live_is ∙ g.after_is in
          let units = grown_index_units allocator old table s mid heap kept (block_of p) x g.units it g.no_fewer is in
          let names : target mid index_cell ≡ Some p = grown_target allocator old table s mid heap kept (block_of p) x g.units it g.no_fewer is ∙ e in
          let enough = g.enough in
          record {
            left = after;
            left_is = spent_same allocator (live old) after (length old) asked granted;
            changes = subst (λ bs. ChangesIndex old mid table bs) live_is (grown_index allocator old table s mid heap kept (block_of p) x g.units it g.no_fewer is);
            names = grown_names allocator old table s mid heap kept (block_of p) x g.units it g.no_fewer is;
            room = rw names (omega arith);
          }

      in_buffer : (p : ℕ) → target old index_cell ≡ Some p → (x : ℕ) × Contains (live old) (span (block_of p) x)
      in_buffer p e = let b = index_block p e in (b.units, b.among)

      pub index_enlarged : (mid : List ℕ) (r : Option Grant) (old_block : Option ℕ) (wanted least : ℕ) → old_block ≡ option_map block_of (target old index_cell)
          → wanted ≡ need (max 4 (max (2 * count_at old index_cell) limit) * 8) → least ≡ need (limit * 8)
          → ((at x : ℕ) → old_block ≡ Some at → IsHeap allocator old → IsLiveBlock old at x → Grants allocator old mid at x wanted least r)
          → (old_block ≡ None → IsHeap allocator old → GrantsNew allocator old mid wanted least r) → Enlarged mid r
      index_enlarged = by_request.enlarged allocator old index_cell 8 limit s.heap in_buffer _ grew

      -- a request for more bytes than any segment has
      pub index_enlarged_large : (mid : List ℕ) (r : Option Grant) (old_block : Option ℕ) (wanted least : ℕ) → old_block ≡ option_map block_of (target old index_cell)
          → 2 ^ 32 ≤ limit * 8 → wanted ≡ need (2 ^ 32 - 1) → least ≡ need (2 ^ 32 - 1)
          → ((at x : ℕ) → old_block ≡ Some at → IsHeap allocator old → IsLiveBlock old at x → Grants allocator old mid at x wanted least r)
          → (old_block ≡ None → IsHeap allocator old → GrantsNew allocator old mid wanted least r) → Enlarged mid r
      index_enlarged_large = by_request.enlarged_large allocator old index_cell 8 limit s.heap in_buffer _ grew

      fewer : count_at old index_cell * 8 < limit * 8
      fewer = go (target old index_cell) refl
        where
          go : (o : Option ℕ) → target old index_cell ≡ o → count_at old index_cell * 8 < limit * 8
          go None e =
              let none : count_at old index_cell ≡ 0 = rw e at s.room in
              omega arith
          go (Some p) e =
              let b = index_block p e in
              let u : units_named old index_cell ≡ units_at old (block_of p) = rw e refl in
              omega (arith, b.room.room)

      pub index_moved_to : (mid new : List ℕ) (g : ℕ) → NewFor allocator old index_cell 8 limit mid g
          → ((u : ℕ) → Takes allocator old mid u (Some g) → 2 ≤ u → count_at old index_cell * 8 + 16 ≤ 16 * u → MovesIndex old mid new table u)
          → ReservesIndex allocator old new table (ask allocator old index_cell 8 limit ∷ []) (limit * 8)
      index_moved_to mid new g n moves_it =
          let enough = n.enough in
          let f = fewer in
          let m = moves_it n.units n.takes (omega arith) (omega arith) in
          record {
            left = after_gives (live mid) (named old index_cell);
            left_is = spent_fresh allocator (live old) (live mid) (length old) g asked n.granted;
            changes = m.changes;
            names = m.names;
            room = less_room new index_cell (16 * n.units - 16) (limit * 8) (omega arith) m.room;
          }

  -- the count has room for one entry more
  pub one_name_more : (kept len : ℕ) → kept ≡ count_at old index_cell → len ≡ min (kept + 1) 4294967295 → len ≡ kept + 1
  one_name_more kept len kept_is len_is = let few = names_fit in omega arith
