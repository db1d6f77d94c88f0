-- A buffer moves to a new block, step by step: the block gets its tag, the entries move to it, the
-- cell points to it, and the old block is freed.
use Rattle.std.proofs.Common.{◌≡◌, ◌≢◌, ℕ, ◌+◌, ◌-◌, ◌*◌, ◌%◌, ◌^◌, ◌<◌, ◌≤◌, inr, true, List, [], ◌∷◌, ◌++◌, length, Option, Some, None, option_to_list, option_map, MatchOption, refl, sym, ap, ◌∙◌, subst, arith}
use Rattle.std.specs.Prelude.{Contains}
use Rattle.std.specs.List.{AllByRecursion}
use Rattle.seg_spec.specs.Bytes.{set_word, IsSame, ChangesOnly}
use Rattle.seg_spec.specs.Pointer.{target, set_pointer, distance}
use Rattle.seg_spec.specs.Types.{Form, Table, form_at, size}
use Rattle.seg_spec.specs.Value.{Value}
use Rattle.seg_spec.specs.Heap.{units_at, live, heap_start, without, IsLive, Takes, Gives}
use Rattle.seg_spec.specs.Block.{Kind, tag_of, IsBlock, IsInside, KeepsBlock, block_of, payload_size, has_buffer}
use Rattle.seg_spec.specs.Reads.{Place, Holds, count_at, named, start, NamesRoom}
use Rattle.seg_spec.specs.Sound.{times, positions}
use Rattle.seg_spec.specs.Demand.{after_gives}
use Rattle.seg_spec.specs.Parts.{PersistEach, persist_none, KeepsAllParts}
use Rattle.seg_spec.specs.Cells.{IsWithin}
use Rattle.seg_spec.specs.Owning.{Stands, StandsBeside}
use Rattle.seg_spec.specs.Spending.{item_size}
use Rattle.seg_spec.specs.Growing.{HasRoomFor, MovesBuffer}
use Rattle.seg_spec.proofs.BytesLaws.{number-set_other}
use Rattle.seg_spec.proofs.SliceLaws.{IsSame-part}
use Rattle.seg_spec.proofs.PointerLaws.{target-set_same}
use Rattle.seg_spec.proofs.Values.PlaceFrameLaws.{IsBlock-kept, cell-target, cell-count, all_parts_kept}
use Rattle.seg_spec.proofs.Tables.TypeSizeLaws.{size_large}
use Rattle.seg_spec.proofs.Images.RootWriteLaws.{set_number-changes}
use Rattle.seg_spec.proofs.Heap.LiveBlockLaws.{times-same, times-other, times-append, times-more, times-without, there, each_there, LiesIn, live-lie, live-once}
use Rattle.seg_spec.proofs.Heap.NewBlockLaws.{was_free}
use Rattle.seg_spec.proofs.Deallocation.BlockFreeLaws.{found}
use Rattle.seg_spec.proofs.Values.CellChangeLaws.{ChangesOnly-none, ChangesOnly-wider}
use Rattle.seg_spec.proofs.Values.PlaceWriteLaws.{home_live, owned_live, owned_other, place_within, live_then, whole_then}
use Rattle.seg_spec.proofs.Values.CallPlaceLaws.{Frames, same_place, marked_home, beside_home, written_home, marked_kept, frames_twice, marked_live, marked_counts, marked_block, marked_stands, marked_frames, unowned}
use Rattle.seg_spec.proofs.Values.CallPlaceLaws.{beside_live, beside_stands, beside_place, beside_frames, beside_block, written_stands, written_frames, left_stands, left_place, left_frames, left_kept, changes_of}
use Rattle.seg_spec.proofs.Values.BufferLaws.{HoldsEntries, Buffered, buffered, holds_buffered, MovesEntries, entry_places, entries_moved}
use Rattle.seg_spec.proofs.Values.BufferLaws.{entries_persist, entries_changes, entries_stay, entries_kept, entries_none, no_places, all_entries_stay, each_entry_persists}
use Rattle.seg_spec.proofs.Values.PersistenceLaws.{persist_then}

smaller_block : (bytes : List ℕ) (p tag n m : ℕ) → m ≤ n → IsBlock bytes p tag n → IsBlock bytes p tag m
smaller_block bytes p tag n m l b = record { after_header = b.after_header; live = b.live; has_tag = b.has_tag; room = omega (arith, b.room) }

pub less_room : (bytes : List ℕ) (at n m : ℕ) → m ≤ n → HasRoomFor bytes at n → HasRoomFor bytes at m
less_room bytes at n m l h = go (target bytes at) h
  where
    go : (o : Option ℕ) → MatchOption o (n ≡ 0) (λ p. n ≤ payload_size bytes (block_of p)) → MatchOption o (m ≡ 0) (λ p. m ≤ payload_size bytes (block_of p))
    go None e = omega arith
    go (Some p) e = omega arith

-- the entries move; if there was no buffer, nothing is written
abbrev pub MovesFrom : Option ℕ → List ℕ → List ℕ → Table → Form → ℕ → ℕ → Type 0
MovesFrom None old new table form to n = new ≡ old
MovesFrom (Some from) old new table form to n = MovesEntries old new table form from to n

module _ (allocator : ℕ) (old taken : List ℕ) (table : Table) (place : Place) (v : Value) (blocks : List ℕ) (form : Form) (s : Stands allocator old table place v blocks) (f : form_at table place.type ≡ Some form)
    (b : has_buffer (Some form) ≡ true) (u g : ℕ) (t : Takes allocator old taken u (Some g)) (two : 2 ≤ u) (small : tag_of Kind.buffer place.type < 2 ^ 32) where
  allowed : has_buffer (form_at table place.type) ≡ true
  allowed = ap has_buffer f ∙ b

  abbrev pub tagged : List ℕ
  tagged = set_word taken (g + 8) (tag_of Kind.buffer place.type)

  pub tagged_stands : Stands allocator tagged table place v blocks
  tagged_stands = marked_stands allocator old table place v blocks s u g place.type taken t two small allowed

  g_live : 1 ≤ times g (positions (live tagged))
  g_live = omega (arith, marked_counts allocator old table place v blocks s u g place.type taken t two small allowed g, times-same g (positions (live old)))

  g_block : IsBlock tagged (g + 16) (tag_of Kind.buffer place.type) (16 * u - 16)
  g_block = marked_block allocator old table place v blocks s u g place.type taken t two small allowed

  tagged_home : tagged_stands.home ≡ s.home
  unfolding tagged_stands
  tagged_home = marked_home allocator old table place v blocks s u g place.type taken t two small allowed

  g_apart : times g (s.home ∷ blocks) ≡ 0
  g_apart = unowned allocator old table place v blocks s u g place.type taken t two small allowed

  g_beside : times g (tagged_stands.home ∷ blocks) ≡ 0
  g_beside = rw tagged_home g_apart

  own : g + 16 - 16 ≡ g
  own = omega arith

  g_lies : LiesIn tagged heap_start (length tagged) g
  g_lies = there (LiesIn tagged heap_start (length tagged)) g (positions (live tagged)) (live-lie tagged allocator tagged_stands.heap) g_live

  -- the cell still has its old target
  pub old_target : target tagged place.at ≡ target old place.at
  old_target =
      let large = size_large table s.is_table place.type in
      let kept = (marked_kept allocator old table place v blocks s u g place.type taken t two small allowed s.home (home_live allocator old table place v blocks s)).whole.kept in
      cell-target old tagged place.at (IsSame-part old tagged place.at (size table place.type) place.at 8 (omega arith) (omega arith) (same_place allocator old table place v blocks s tagged kept))

  pub old_count : count_at tagged place.at ≡ count_at old place.at
  old_count =
      let large = size_large table s.is_table place.type in
      let kept = (marked_kept allocator old table place v blocks s u g place.type taken t two small allowed s.home (home_live allocator old table place v blocks s)).whole.kept in
      cell-count old tagged place.at (IsSame-part old tagged place.at (size table place.type) place.at 8 (omega arith) (omega arith) (same_place allocator old table place v blocks s tagged kept))

  -- the block's payload begins below 2^32
  pub block_small : g + 16 < 2 ^ 32
  block_small = omega (arith, g_lies.high, g_lies.size, tagged_stands.heap.small)

  pub its : Buffered tagged table place form v blocks
  its = buffered tagged table place form v blocks f b tagged_stands.holds_it

  abbrev n : ℕ
  n = count_at tagged place.at

  abbrev each : ℕ
  each = item_size table form

  tagged_persist : PersistEach old tagged table (entry_places table form (start old place.at) (count_at old place.at)) (entry_places table form (start tagged place.at) n)
  tagged_persist =
      let kept = (marked_kept allocator old table place v blocks s u g place.type taken t two small allowed s.home (home_live allocator old table place v blocks s)).whole.kept in
      each_entry_persists old tagged table place form v v blocks blocks f b s.holds_it tagged_stands.holds_it
      (all_parts_kept old tagged table s.is_table s.holds_it (same_place allocator old table place v blocks s tagged kept)
      (each_there (KeepsBlock old tagged) blocks (λ h some. (marked_kept allocator old table place v blocks s u g place.type taken t two small allowed h (owned_live allocator old table place v blocks s h some)).whole.kept)))

  units : u ≤ units_at tagged g
  units = let r = rw own at g_block.room in omega arith

  owned_too : (h : ℕ) → 1 ≤ times h its.owned → 1 ≤ times h blocks
  owned_too h some = rw its.blocks_are (omega (arith, times-append h (named tagged place.at) its.owned))

  -- the entries lie in the segment, at their old and new positions
  pub from_within : (p : ℕ) → target tagged place.at ≡ Some p → IsWithin tagged p (n * each)
  from_within p e =
      let room : IsBlock tagged p (tag_of Kind.buffer place.type) (n * each) = rw e at its.room in
      let mine : 1 ≤ times (block_of p) blocks = rw (its.blocks_are, e) (omega (arith, times-same (block_of p) its.owned)) in
      let l = there (LiesIn tagged heap_start (length tagged)) (block_of p) (positions (live tagged)) (live-lie tagged allocator tagged_stands.heap) (owned_live allocator tagged table place v blocks tagged_stands (block_of p) mine) in
      record { fits = omega (arith, room.room, room.after_header, l.high, l.size); small = tagged_stands.heap.small }

  pub to_within : n * each + 16 ≤ 16 * u → IsWithin tagged (g + 16) (n * each)
  to_within fits = record { fits = omega (arith, g_lies.high, units); small = tagged_stands.heap.small }

  module _ (moved : List ℕ) (fits : n * each + 16 ≤ 16 * u) (m : MovesFrom (target tagged place.at) tagged moved table form (g + 16) n) where
    inside : IsInside tagged g (g + 16) (n * each)
    inside = record { low = omega arith; high = omega (arith, units) }

    beside : StandsBeside tagged g (g + 16) (n * each) its.owned
    beside = record {
      inside = inside;
      home_live = g_live;
      others = λ h some. (owned_live allocator tagged table place v blocks tagged_stands h (owned_too h some), apart h some);
    }
      where
        apart : (h : ℕ) → 1 ≤ times h its.owned → h ≢ g
        apart h some e = let one : 1 ≤ times g blocks = subst (λ x. 1 ≤ times x blocks) e (owned_too h some) in omega (arith, g_apart, times-more g s.home blocks)

    record Moved : Type 0 where
      changes : ChangesOnly tagged moved (g + 16) (n * each)
      entries : HoldsEntries moved table form (g + 16) n v its.owned
      persist : PersistEach tagged moved table (entry_places table form (start tagged place.at) n) (entry_places table form (g + 16) n)

    moved_by : (o : Option ℕ) → target tagged place.at ≡ o → MovesFrom o tagged moved table form (g + 16) n → Moved
    moved_by None e k =
        let room : n ≡ 0 = rw e at its.room in
        let held : HoldsEntries tagged table form 0 n v its.owned = rw e at its.entries in
        let here : HoldsEntries tagged table form (g + 16) n v its.owned = rw room (entries_none tagged table form 0 (g + 16) v its.owned (rw room at held)) in
        let places : (at : ℕ) → entry_places table form at n ≡ [] = λ at. ap (entry_places table form at) room ∙ no_places table form at in
        record {
          changes = rw k (ChangesOnly-none tagged (g + 16) (n * each));
          entries = rw k here;
          persist = subst (λ ps. PersistEach tagged moved table ps (entry_places table form (g + 16) n)) (sym (places (start tagged place.at)))
              (subst (λ ps. PersistEach tagged moved table [] ps) (sym (places (g + 16))) persist_none);
        }
    moved_by (Some p) e k =
        let held : HoldsEntries tagged table form p n v its.owned = rw e at its.entries in
        let from_in = from_within p e in
        let to_in = (to_within fits).fits in
        let even : (g + 16) % 8 ≡ 0 = omega (arith, g_lies.aligned) in
        record {
          changes = entries_changes tagged moved table s.is_table p (g + 16) n allocator g tagged_stands.heap even form from_in k;
          entries = entries_moved tagged moved table s.is_table p (g + 16) n allocator g tagged_stands.heap even form v its.owned from_in to_in beside k held;
          persist = rw e (entries_persist tagged moved table s.is_table p (g + 16) n allocator g tagged_stands.heap even form v its.owned from_in beside k held);
        }

    done : Moved
    done = moved_by (target tagged place.at) refl m

    pub moved_stands : Stands allocator moved table place v blocks
    moved_stands = beside_stands allocator tagged table place v blocks tagged_stands moved g (g + 16) (n * each) done.changes inside g_live g_beside

    moved_home : moved_stands.home ≡ s.home
    unfolding moved_stands
    moved_home = beside_home allocator tagged table place v blocks tagged_stands moved g (g + 16) (n * each) done.changes inside g_live g_beside ∙ tagged_home

    moved_live : live moved ≡ live tagged
    moved_live = beside_live allocator tagged table place v blocks tagged_stands moved g (g + 16) (n * each) done.changes inside g_live g_beside

    moved_block : IsBlock moved (g + 16) (tag_of Kind.buffer place.type) (16 * u - 16)
    moved_block = beside_block allocator tagged table place v blocks tagged_stands moved g (g + 16) (n * each) done.changes inside g_live g_beside (g + 16) (tag_of Kind.buffer place.type) (16 * u - 16) refl g_block

    moved_place : IsSame tagged moved place.at (size table place.type)
    moved_place = beside_place allocator tagged table place v blocks tagged_stands moved g (g + 16) (n * each) done.changes inside g_live g_beside

    cell_same : IsSame tagged moved place.at 8
    cell_same = let large = size_large table s.is_table place.type in IsSame-part tagged moved place.at (size table place.type) place.at 8 (omega arith) (omega arith) moved_place

    -- ---- the cell points to the new block

    abbrev pub pointed : List ℕ
    pointed = set_pointer moved place.at (Some (g + 16))

    cell_changes : ChangesOnly moved pointed place.at (size table place.type)
    cell_changes =
        let large = size_large table s.is_table place.type in
        ChangesOnly-wider moved pointed place.at 4 place.at (size table place.type) (omega arith) (omega arith) (set_number-changes 4 moved place.at (distance place.at (Some (g + 16))))

    pointed_target : target pointed place.at ≡ Some (g + 16)
    pointed_target =
        let large = size_large table s.is_table place.type in
        let within = place_within allocator moved table place v blocks moved_stands in
        let tiny = moved_stands.heap.small in
        let l = there (LiesIn moved heap_start (length moved)) g (positions (live moved)) (live-lie moved allocator moved_stands.heap) (rw moved_live g_live) in
        target-set_same moved place.at (Some (g + 16)) (omega arith) (omega arith) (λ t e. fine t e (omega (arith, l.high, l.size)) l.aligned)
      where
        fine : (t : ℕ) → Some (g + 16) ≡ Some t → g + 16 < 2 ^ 32 → g % 16 ≡ 0 → (t < 2 ^ 32) × (t ≢ place.at + 1)
        fine t e less even =
            let same : g + 16 ≡ t = cc in
            let eight = s.aligned in
            (omega arith, λ k. omega arith)

    pointed_count : count_at pointed place.at ≡ n
    pointed_count = number-set_other 4 4 moved place.at (distance place.at (Some (g + 16))) (place.at + 4) (inr (omega arith)) ∙ cell-count tagged moved place.at cell_same

    g_moved : 1 ≤ times g (positions (live moved))
    g_moved = rw moved_live g_live

    g_other : g ≢ moved_stands.home
    g_other k =
        let e : g ≡ s.home = k ∙ moved_home in
        let none : times s.home (s.home ∷ blocks) ≡ 0 = subst (λ x. times x (s.home ∷ blocks) ≡ 0) e g_apart in omega (arith, times-same s.home blocks)

    g_whole : KeepsBlock moved pointed g
    g_whole = whole_then allocator moved table place v blocks moved_stands pointed cell_changes g g_moved g_other

    pointed_block : IsBlock pointed (g + 16) (tag_of Kind.buffer place.type) (16 * u - 16)
    pointed_block = IsBlock-kept moved pointed (g + 16) (tag_of Kind.buffer place.type) (16 * u - 16) (rw own g_whole) moved_block

    pointed_same : IsSame moved pointed (g + 16) (n * each)
    pointed_same =
        let r = rw own at moved_block.room in
        IsSame-part moved pointed (g + 16) (payload_size moved g) (g + 16) (n * each) (omega arith) (omega arith) g_whole.payload

    pointed_kept : AllByRecursion (KeepsBlock moved pointed) its.owned
    pointed_kept = each_there (KeepsBlock moved pointed) its.owned (λ h some. whole_then allocator moved table place v blocks moved_stands pointed cell_changes h
        (owned_live allocator moved table place v blocks moved_stands h (owned_too h some)) (owned_other allocator moved table place v blocks moved_stands h (owned_too h some)))

    pointed_entries : HoldsEntries pointed table form (g + 16) n v its.owned
    pointed_entries = entries_kept moved pointed table s.is_table form (g + 16) n v its.owned pointed_same pointed_kept done.entries

    -- the values in the entries persist up to here
    pointed_persist : PersistEach old pointed table (entry_places table form (start old place.at) (count_at old place.at)) (entry_places table form (g + 16) n)
    pointed_persist =
        persist_then old tagged pointed table tagged_persist
        (persist_then tagged moved pointed table done.persist (entries_stay moved pointed table s.is_table form (g + 16) n v its.owned pointed_same pointed_kept done.entries))

    pointed_holds : Holds pointed table place v (g ∷ its.owned)
    pointed_holds =
        let block = smaller_block pointed (g + 16) (tag_of Kind.buffer place.type) (16 * u - 16) (n * each) (omega arith) pointed_block in
        let r : NamesRoom pointed place.at (tag_of Kind.buffer place.type) each = rw (pointed_target, pointed_count) block in
        let e : HoldsEntries pointed table form (start pointed place.at) (count_at pointed place.at) v its.owned = rw (pointed_target, pointed_count) pointed_entries in
        let named_is : named pointed place.at ≡ g ∷ [] = ap (λ o. option_to_list (option_map block_of o)) pointed_target ∙ ap (λ x. x ∷ []) own in
        subst (λ bs. Holds pointed table place v bs) (ap (λ bs. bs ++ its.owned) named_is) (holds_buffered pointed table place form v its.owned f b r e)

    g_new : (h : ℕ) → 1 ≤ times h (positions (live old)) → g ≢ h
    g_new h some e =
        let none = was_free allocator u g (tag_of Kind.buffer place.type) old taken taken s.heap t in
        let one : 1 ≤ times g (positions (live old)) = subst (λ x. 1 ≤ times x (positions (live old))) (sym e) some in
        omega arith

    counts : (h : ℕ) → times h (positions (live moved)) ≡ times h (g ∷ positions (live old))
    counts h = ap (λ bs. times h (positions bs)) moved_live ∙ marked_counts allocator old table place v blocks s u g place.type taken t two small allowed h

    blocks_count : (h : ℕ) → times h blocks ≡ times h (named tagged place.at) + times h its.owned
    blocks_count h = ap (times h) its.blocks_are ∙ times-append h (named tagged place.at) its.owned

    pointed_owned : (h : ℕ) → times h (moved_stands.home ∷ g ∷ its.owned) ≤ times h (positions (live moved))
    pointed_owned h = rw moved_home (omega (arith, counts h, s.owned h, blocks_count h))

    pub pointed_stands : Stands allocator pointed table place v (g ∷ its.owned)
    pointed_stands = written_stands allocator moved table place v blocks moved_stands pointed cell_changes v (g ∷ its.owned) pointed_holds pointed_owned

    pointed_home : pointed_stands.home ≡ s.home
    unfolding pointed_stands
    pointed_home = written_home allocator moved table place v blocks moved_stands pointed cell_changes v (g ∷ its.owned) pointed_holds pointed_owned ∙ moved_home

    pointed_live : live pointed ≡ live taken
    pointed_live = live_then allocator moved table place v blocks moved_stands pointed cell_changes ∙ moved_live ∙ marked_live allocator old table place v blocks s u g place.type taken t two small allowed

    pointed_frames : Frames old pointed place.at (size table place.type) blocks
    pointed_frames =
        frames_twice old tagged pointed place.at (size table place.type) blocks (g ∷ []) (marked_frames allocator old table place v blocks s u g place.type taken t two small allowed (size table place.type) blocks)
        (frames_twice tagged moved pointed place.at (size table place.type) (g ∷ []) []
        (beside_frames allocator tagged table place v blocks tagged_stands moved g (g + 16) (n * each) done.changes inside g_live g_beside (size table place.type))
        (written_frames allocator moved table place v blocks moved_stands pointed cell_changes v (g ∷ its.owned) pointed_holds pointed_owned) (λ h some none. refl))
        (λ h some none. times-other h g [] (g_new h some))

    -- ---- the old block is freed

    old_named : named tagged place.at ≡ named old place.at
    old_named = ap (λ o. option_to_list (option_map block_of o)) old_target

    after_counts : (h : ℕ) → times h (positions (live taken)) + times h blocks ≡ times h (named tagged place.at) + (times h (positions (live old)) + times h (g ∷ its.owned))
    after_counts h =
        let e = ap (λ bs. times h (positions bs)) (marked_live allocator old table place v blocks s u g place.type taken t two small allowed) in
        omega (arith, marked_counts allocator old table place v blocks s u g place.type taken t two small allowed h, blocks_count h)

    pointed_room : HasRoomFor pointed place.at (16 * u - 16)
    pointed_room = rw pointed_target pointed_block.room

    pub old_live : (p : ℕ) → target tagged place.at ≡ Some p → IsLive pointed (block_of p)
    old_live p e =
        let named_tagged : named tagged place.at ≡ block_of p ∷ [] = ap (λ o. option_to_list (option_map block_of o)) e in
        let named_one : times (block_of p) (named tagged place.at) ≡ 1 = ap (times (block_of p)) named_tagged ∙ times-same (block_of p) [] in
        let counted = blocks_count (block_of p) in
        let was_live = owned_live allocator old table place v blocks s (block_of p) (omega arith) in
        let f = found (block_of p) (live pointed) (rw pointed_live (omega (arith, after_counts (block_of p)))) in
        (f.block.units, subst (λ x. Contains (live pointed) (record { at = x; units = f.block.units })) f.at_is f.among)

    -- each part is where the cell now points to
    parts_there : (new : List ℕ) → Holds new table place v (g ∷ its.owned) → target new place.at ≡ Some (g + 16) → count_at new place.at ≡ n
        → PersistEach old new table (entry_places table form (start old place.at) (count_at old place.at)) (entry_places table form (g + 16) n) → KeepsAllParts old new table place
    parts_there new now there_is counted each_stays =
        all_entries_stay old new table place form v v blocks (g ∷ its.owned) f b s.holds_it now (rw (there_is, counted) each_stays)

    module _ (new : List ℕ) (gives : MatchOption (target tagged place.at) (new ≡ pointed) (λ p. Gives allocator pointed new (block_of p))) where
      moves_none : target tagged place.at ≡ None → new ≡ pointed → MovesBuffer allocator old taken new table place v blocks u
      moves_none e same =
          let none : named old place.at ≡ [] = sym old_named ∙ ap (λ o. option_to_list (option_map block_of o)) e in
          let nothing : (h : ℕ) → times h (named tagged place.at) ≡ 0 = λ h. ap (λ o. times h (option_to_list (option_map block_of o))) e in
          let c = changes_of allocator old pointed table place v (g ∷ its.owned) blocks (live taken) s.allocator_is pointed_stands pointed_frames pointed_live (λ h. omega (arith, after_counts h, nothing h)) in
          record {
            others = g ∷ its.owned;
            changes = rw (same, none) c;
            parts = rw same (parts_there pointed pointed_stands.holds_it pointed_target pointed_count pointed_persist);
            room = rw same pointed_room;
          }

      moves_some : (p : ℕ) → target tagged place.at ≡ Some p → Gives allocator pointed new (block_of p) → MovesBuffer allocator old taken new table place v blocks u
      moves_some p e given =
          let named_is : named old place.at ≡ block_of p ∷ [] = sym old_named ∙ ap (λ o. option_to_list (option_map block_of o)) e in
          let named_tagged : named tagged place.at ≡ block_of p ∷ [] = ap (λ o. option_to_list (option_map block_of o)) e in
          let mine : times (block_of p) (block_of p ∷ []) ≡ 1 = times-same (block_of p) [] in
          let counted = blocks_count (block_of p) in
          let named_one : times (block_of p) (named tagged place.at) ≡ 1 = ap (times (block_of p)) named_tagged ∙ mine in
          let some : 1 ≤ times (block_of p) blocks = omega arith in
          let was_live = owned_live allocator old table place v blocks s (block_of p) some in
          let once = live-once old allocator s.heap (block_of p) in
          let not_home = owned_other allocator old table place v blocks s (block_of p) some in
          let none_owned : times (block_of p) its.owned ≡ 0 = omega (arith, s.owned (block_of p), times-more (block_of p) s.home blocks) in
          let away : times (block_of p) (pointed_stands.home ∷ g ∷ its.owned) ≡ 0 =
          rw pointed_home (times-other (block_of p) s.home (g ∷ its.owned) (λ k. not_home (sym k)) ∙ times-other (block_of p) g its.owned (g_new (block_of p) was_live) ∙ none_owned) in
          let live_there : 1 ≤ times (block_of p) (positions (live pointed)) = rw pointed_live (omega (arith, after_counts (block_of p))) in
          let frames = left_frames allocator pointed table place v (g ∷ its.owned) pointed_stands new (block_of p) given live_there away (size table place.type) in
          let stands = left_stands allocator pointed table place v (g ∷ its.owned) pointed_stands new (block_of p) given live_there away in
          let same = left_place allocator pointed table place v (g ∷ its.owned) pointed_stands new (block_of p) given live_there away in
          let g_there : 1 ≤ times g (positions (live pointed)) = omega (arith, pointed_stands.owned g, times-same g its.owned, times-more g pointed_stands.home (g ∷ its.owned)) in
          let whole = (left_kept allocator pointed table place v (g ∷ its.owned) pointed_stands new (block_of p) given live_there away g g_there (λ k. g_new (block_of p) was_live (sym k))).whole.kept in
          let block = IsBlock-kept pointed new (g + 16) (tag_of Kind.buffer place.type) (16 * u - 16) (rw own whole) pointed_block in
          let large = size_large table s.is_table place.type in
          let there_is : target new place.at ≡ Some (g + 16) = cell-target pointed new place.at (IsSame-part pointed new place.at (size table place.type) place.at 8 (omega arith) (omega arith) same) ∙ pointed_target in
          let count_there : count_at new place.at ≡ n = cell-count pointed new place.at (IsSame-part pointed new place.at (size table place.type) place.at 8 (omega arith) (omega arith) same) ∙ pointed_count in
          let units_room = rw own at pointed_block.room in
          let entries_same : IsSame pointed new (g + 16) (n * each) = IsSame-part pointed new (g + 16) (payload_size pointed g) (g + 16) (n * each) (omega arith) (omega arith) whole.payload in
          let owned_kept : AllByRecursion (KeepsBlock pointed new) its.owned = each_there (KeepsBlock pointed new) its.owned (λ h some.
          (left_kept allocator pointed table place v (g ∷ its.owned) pointed_stands new (block_of p) given live_there away h
          (owned_live allocator pointed table place v (g ∷ its.owned) pointed_stands h (omega (arith, times-more h g its.owned)))
          (λ k. let mine_too : 1 ≤ times (block_of p) its.owned = subst (λ x. 1 ≤ times x its.owned) (sym k) some in omega (arith, none_owned))).whole.kept) in
          let left : live new ≡ after_gives (live taken) (block_of p ∷ []) = given.given ∙ ap (without (block_of p)) pointed_live in
          let c = changes_of allocator old new table place v (g ∷ its.owned) blocks (after_gives (live taken) (block_of p ∷ [])) s.allocator_is stands
          (frames_twice old pointed new place.at (size table place.type) blocks (block_of p ∷ []) pointed_frames frames (λ h here none. omega (arith, blocks_count h, ap (times h) named_tagged)))
          left (λ h. omega (arith, after_counts h, ap (times h) named_tagged, times-without h (block_of p) (live taken) (rw (← pointed_live) live_there))) in
          record {
            others = g ∷ its.owned;
            changes = rw named_is c;
            parts = parts_there new stands.holds_it there_is count_there (persist_then old pointed new table pointed_persist
                (entries_stay pointed new table s.is_table form (g + 16) n v its.owned entries_same owned_kept pointed_entries));
            room = rw there_is block.room;
          }

      pub moves : MovesBuffer allocator old taken new table place v blocks u
      moves = go (target tagged place.at) refl gives
        where
          go : (o : Option ℕ) → target tagged place.at ≡ o → MatchOption o (new ≡ pointed) (λ p. Gives allocator pointed new (block_of p)) → MovesBuffer allocator old taken new table place v blocks u
          go None e k = moves_none e k
          go (Some p) e k = moves_some p e k
