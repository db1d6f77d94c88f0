-- The buffer of the flat index, where it grows in place and where it moves.
use Rattle.std.proofs.Common.{◌≡◌, ◌≢◌, ℕ, ◌+◌, ◌-◌, ◌*◌, ◌%◌, ◌^◌, ◌<◌, ◌≤◌, ◌⊎◌, inl, inr, List, [], ◌∷◌, length, Option, Some, None, unwrap_or, option_to_list, option_map, refl, sym, ap, ◌∙◌, subst, arith, add-zero}
use Rattle.std.specs.Prelude.{Contains}
use Rattle.std.proofs.lemmas.Bool.{cases_eq}
use Rattle.std.specs.List.{AllByRecursion}
use Rattle.seg_spec.specs.Bytes.{set_word, IsSame, ChangesOnly}
use Rattle.seg_spec.specs.Header.{KeepsFront, KeepsBack}
use Rattle.seg_spec.specs.Pointer.{target, set_pointer, distance}
use Rattle.seg_spec.specs.Types.{Table}
use Rattle.seg_spec.specs.Heap.{Span, span, units_at, IsHeap, live, heap_start, resized, Keeps, Takes, Gives, IsLive}
use Rattle.seg_spec.specs.Block.{Kind, tag_of, block_of, IsBlock, IsInside, IsOwnable, KeepsBlock, payload_size}
use Rattle.seg_spec.specs.Reads.{named, start, count_at, NamesRoom}
use Rattle.seg_spec.specs.Cells.{IsWithin}
use Rattle.seg_spec.specs.Sound.{times, positions}
use Rattle.seg_spec.specs.Owing.{KeepsLinked}
use Rattle.seg_spec.specs.Demand.{after_gives}
use Rattle.seg_spec.proofs.BytesLaws.{number-set_other}
use Rattle.seg_spec.proofs.SliceLaws.{IsSame-part, IsSame-trans}
use Rattle.seg_spec.proofs.PointerLaws.{target-set_same}
use Rattle.seg_spec.proofs.Values.PlaceFrameLaws.{cell-target, cell-count, IsBlock-kept, NamesRoom-kept, payload-same}
use Rattle.seg_spec.proofs.Images.RootWriteLaws.{set_number-changes}
use Rattle.seg_spec.proofs.Heap.BlockFrameLaws.{kept_twice}
use Rattle.seg_spec.proofs.Values.CellChangeLaws.{ChangesOnly-none}
use Rattle.seg_spec.proofs.Heap.LiveBlockLaws.{times-append, times-same, times-other, times-with_block, there, each_there, LiesIn, live-lie, positions-resized}
use Rattle.seg_spec.proofs.Heap.KeptBlockLaws.{each_contained, StatesSpan, live_stated, block_kept, block_ownable, front_kept}
use Rattle.seg_spec.proofs.Deallocation.BlockFreeLaws.{found}
use Rattle.seg_spec.proofs.Values.CallPlaceLaws.{each_live_at, live_at, ownable_linked}
use Rattle.seg_spec.proofs.Heap.NewBlockLaws.{took, was_free, block_fits, new_heap, new_live, all_kept, is_block, new_length, new_front, new_back, new_link}
use Rattle.seg_value.specs.Names.{index_cell, name_entry, FindsNames, ChangesIndex, IsSameEntry, KeepsNames, MovesIndex}
use Rattle.seg_cells.specs.Pointers.{MovesPointers}
use Rattle.seg_spec.proofs.Heap.BlockSizeLaws.{resized_here, resized_other}
use Rattle.seg_value.proofs.Inside.{given_counts, given_linked, given_ownable, given_front, wrote_heap, wrote_live, wrote_ownable, wrote_other, wrote_block}
use Rattle.seg_value.proofs.HeaderLaws.{header_fits, header_heap, header_live, header_ownable, header_kept}
use Rattle.seg_value.proofs.IndexEntryLaws.{same_entry, name_block, name_room}

-- entries stay if the cell and the buffer are kept
pub names_kept : (old new : List ℕ) → IsSame old new index_cell 8 → ((h : ℕ) → 1 ≤ times h (named old index_cell) → KeepsBlock old new h) → NamesRoom old index_cell (tag_of Kind.index_buffer 0) 8 → KeepsNames old new
names_kept old new same kept room = record { counted = cell-count old new index_cell same; entries = go (target old index_cell) refl }
  where
    go : (o : Option ℕ) → target old index_cell ≡ o → (i : ℕ) → i < count_at old index_cell → IsSameEntry old new (name_entry old i) (name_entry new i)
    go None e i l = let none : count_at old index_cell ≡ 0 = rw e at room in absurd (omega arith)
    go (Some p) e i l =
        let b : IsBlock old p (tag_of Kind.index_buffer 0) (count_at old index_cell * 8) = rw e at room in
        let k = kept (block_of p) (rw e (omega (arith, times-same (block_of p) []))) in
        let all = payload-same old new p (tag_of Kind.index_buffer 0) (count_at old index_cell * 8) k b in
        let start_old : start old index_cell ≡ p = ap (λ o. unwrap_or o 0) e in
        let start_new : start new index_cell ≡ p = ap (λ o. unwrap_or o 0) (cell-target old new index_cell same ∙ e) in
        rw (start_old, start_new) (same_entry old new (p + i * 8) (IsSame-part old new p (count_at old index_cell * 8) (p + i * 8) 8 (omega arith) (omega arith) all))

-- ---- the buffer grows in place

module _ (allocator : ℕ) (old : List ℕ) (table : Table) (s : FindsNames allocator old table) (new : List ℕ) (heap : IsHeap allocator new) (keeps : Keeps old new)
    (at x n : ℕ) (it : Contains (live old) (span at x)) (more : x ≤ n) (live_is : live new ≡ resized at n (live old)) where
  states : (b : Span) → Contains (live old) b → StatesSpan old (length old) b
  states b c = each_contained (StatesSpan old (length old)) (live old) b (live_stated old allocator s.heap) c

  one_size : (b : Span) → Contains (live old) b → b.at ≡ at → b.units ≡ x
  one_size b c e = sym (states b c).units_is ∙ ap (units_at old) e ∙ (states (span at x) it).units_is

  record Again (h : ℕ) : Type 0 where
    whole : KeepsBlock old new h
    ownable : IsOwnable new table h

  again : (h : ℕ) → 1 ≤ times h (positions (live old)) → Again h
  again h some =
      let f = found h (live old) some in
      let mine : IsOwnable old table f.block.at = rw f.at_is (live_at (IsOwnable old table) (live old) h s.ownable some) in
      subst Again f.at_is (go f.block f.among mine (cases_eq f.block.at at))
    where
      go : (b : Span) → Contains (live old) b → IsOwnable old table b.at → (b.at ≡ at) ⊎ (b.at ≢ at) → Again b.at
      go b c o (inl e) =
          let there_is : Contains (live new) (span at n) = rw live_is (resized_here at n (live old) b c e) in
          let same_units = one_size b c e in
          record { whole = block_kept old new allocator allocator b (span at n) s.heap heap keeps c there_is e (omega arith); ownable = block_ownable old new allocator allocator table b (span at n) s.heap heap keeps c there_is e o }
      go b c o (inr ne) =
          let there_is : Contains (live new) b = rw live_is (resized_other at n (live old) b c ne) in
          record { whole = block_kept old new allocator allocator b b s.heap heap keeps c there_is refl (omega arith); ownable = block_ownable old new allocator allocator table b b s.heap heap keeps c there_is refl o }

  counts : (h : ℕ) → times h (positions (live new)) ≡ times h (positions (live old))
  counts h = ap (λ bs. times h (positions bs)) live_is ∙ ap (times h) (positions-resized at n (live old))

  front : KeepsFront old new × KeepsBack old new
  front = front_kept old new keeps (header_fits allocator old s.heap)

  cell : IsSame old new index_cell 8
  cell = IsSame-part old new 28 676 index_cell 8 (omega arith) (omega arith) front.1

  pub grown_names : KeepsNames old new
  grown_names = names_kept old new cell (λ h some. (again h (s.is_live h some)).whole) s.room

  pub grown_target : target new index_cell ≡ target old index_cell
  grown_target = cell-target old new index_cell cell

  pub grown_index_units : units_at new at ≡ n
  grown_index_units =
      let there_is : Contains (live new) (span at n) = rw live_is (resized_here at n (live old) (span at x) it refl) in
      (each_contained (StatesSpan new (length new)) (live new) (span at n) (live_stated new allocator heap) there_is).units_is

  pub grown_index : ChangesIndex old new table (live new)
  grown_index = record {
    length_kept = keeps.front_kept.length_kept;
    front_kept = front.0;
    middle_kept = IsSame-part old new 28 676 28 4 (omega arith) (omega arith) front.1;
    back_kept = IsSame-part old new 28 676 40 664 (omega arith) (omega arith) front.1;
    heap = subst (λ a. IsHeap a new) (sym s.allocator_is) heap;
    ownable = each_live_at (IsOwnable new table) (live new) (λ h some. (again h (omega (arith, counts h))).ownable);
    live_is = refl;
    live_are = λ h. rw grown_target (omega (arith, counts h));
    kept = λ h some none. (again h some).whole;
    room = NamesRoom-kept old new index_cell (tag_of Kind.index_buffer 0) 8 cell (each_there (KeepsBlock old new) (named old index_cell) (λ h some. (again h (s.is_live h some)).whole)) s.room;
  }

-- ---- the buffer moves

module _ (allocator : ℕ) (before taken : List ℕ) (table : Table) (s : FindsNames allocator before table) (u g : ℕ) (t : Takes allocator before taken u (Some g)) (two : 2 ≤ u) where
  abbrev tag : ℕ
  tag = tag_of Kind.index_buffer 0

  abbrev pub tagged_index : List ℕ
  tagged_index = set_word taken (g + 8) (tag_of Kind.index_buffer 0)

  low : g + 16 ≤ g + 16
  low = omega arith

  high : g + 16 + 0 ≤ g + 16 * u
  high = omega arith

  none : ChangesOnly tagged_index tagged_index (g + 16) 0
  none = ChangesOnly-none tagged_index (g + 16) 0

  marked_heap : IsHeap allocator tagged_index
  marked_heap = new_heap allocator u g tag before taken tagged_index s.heap t (g + 16) 0 low high none

  marked_live : live tagged_index ≡ live taken
  marked_live = new_live allocator u g tag before taken tagged_index s.heap t (g + 16) 0 low high none

  marked_kept : (h : ℕ) → 1 ≤ times h (positions (live before)) → KeepsLinked before tagged_index h
  marked_kept h some = all_kept allocator u g tag before taken tagged_index s.heap t (g + 16) 0 low high none h some

  marked_block : IsBlock tagged_index (g + 16) (tag_of Kind.index_buffer 0) (16 * u - 16)
  marked_block =
      let fits = block_fits allocator u g tag before taken taken s.heap t in
      is_block allocator u g tag before taken tagged_index s.heap t (g + 16) 0 low high none (16 * u - 16) (omega arith) (omega arith) (omega arith)

  marked_counts : (h : ℕ) → times h (positions (live tagged_index)) ≡ times h (g ∷ positions (live before))
  marked_counts h =
      let w = took allocator before taken u g t in
      ap (λ bs. times h (positions bs)) (marked_live ∙ w.live_are) ∙ times-with_block h (record { at = g; units = w.units }) (live before)

  is_new : times g (positions (live before)) ≡ 0
  is_new = was_free allocator u g tag before taken taken s.heap t

  not_new : (h : ℕ) → 1 ≤ times h (positions (live before)) → h ≢ g
  not_new h some e = let one : 1 ≤ times g (positions (live before)) = subst (λ x. 1 ≤ times x (positions (live before))) e some in omega (arith, is_new)

  g_live : 1 ≤ times g (positions (live tagged_index))
  g_live = omega (arith, marked_counts g, times-same g (positions (live before)))

  own : g + 16 - 16 ≡ g
  own = omega arith

  marked_ownable : AllByRecursion (λ b. IsOwnable tagged_index table b.at) (live tagged_index)
  marked_ownable = each_live_at (IsOwnable tagged_index table) (live tagged_index) (λ h some. go h some (cases_eq g h))
    where
      go : (h : ℕ) → 1 ≤ times h (positions (live tagged_index)) → (g ≡ h) ⊎ (g ≢ h) → IsOwnable tagged_index table h
      go h some (inl e) = subst (λ x. IsOwnable tagged_index table x) e (record {
        kind = Kind.index_buffer;
        type = 0;
        allowed = refl;
        tag_is = rw own at marked_block.has_tag;
        link_is = new_link allocator u g tag before taken tagged_index s.heap t (g + 16) 0 low high none;
      })
      go h some (inr other) =
          let some_old : 1 ≤ times h (positions (live before)) = omega (arith, marked_counts h, times-other h g (positions (live before)) other) in
          ownable_linked before tagged_index table h (marked_kept h some_old) (live_at (IsOwnable before table) (live before) h s.ownable some_old)

  marked_front : KeepsFront before tagged_index
  marked_front = new_front allocator u g tag before taken tagged_index s.heap t (g + 16) 0 low high none

  marked_back : KeepsBack before tagged_index
  marked_back = new_back allocator u g tag before taken tagged_index s.heap t (g + 16) 0 low high none

  marked_cell : IsSame before tagged_index index_cell 8
  marked_cell = IsSame-part before tagged_index 28 676 index_cell 8 (omega arith) (omega arith) marked_back

  pub tagged_target : target tagged_index index_cell ≡ target before index_cell
  tagged_target = cell-target before tagged_index index_cell marked_cell

  pub tagged_count : count_at tagged_index index_cell ≡ count_at before index_cell
  tagged_count = cell-count before tagged_index index_cell marked_cell

  g_lies : LiesIn tagged_index heap_start (length tagged_index) g
  g_lies = there (LiesIn tagged_index heap_start (length tagged_index)) g (positions (live tagged_index)) (live-lie tagged_index allocator marked_heap) g_live

  pub new_small : g + 16 < 2 ^ 32
  new_small = omega (arith, g_lies.high, g_lies.size, marked_heap.small)

  pub new_even : g % 16 ≡ 0
  new_even = g_lies.aligned

  units : u ≤ units_at tagged_index g
  units = let r = rw own at marked_block.room in omega arith

  pub new_index_within : (m : ℕ) → m + 16 ≤ 16 * u → IsWithin tagged_index (g + 16) m
  new_index_within m fits = record { fits = omega (arith, g_lies.high, units); small = marked_heap.small }

  pub tagged_length : length tagged_index ≡ length before
  tagged_length = new_length allocator u g tag before taken tagged_index s.heap t (g + 16) 0 low high none

  pub tagged_names : KeepsNames before tagged_index
  tagged_names = names_kept before tagged_index marked_cell (λ h some. (marked_kept h (s.is_live h some)).whole.kept) s.room

  module _ (moved : List ℕ) (m : ℕ) (changes : ChangesOnly tagged_index moved (g + 16) m) (fits : m + 16 ≤ 16 * u) where
    inside : IsInside tagged_index g (g + 16) m
    inside = record { low = omega arith; high = omega (arith, units) }

    moved_heap : IsHeap allocator moved
    moved_heap = wrote_heap allocator tagged_index moved table g (g + 16) m marked_heap changes inside g_live

    moved_live : live moved ≡ live tagged_index
    moved_live = wrote_live allocator tagged_index moved table g (g + 16) m marked_heap changes inside g_live

    moved_low : (q n : ℕ) → q + n ≤ heap_start → IsSame tagged_index moved q n
    moved_low q n l = changes.others q n (inl (omega (arith, g_lies.low)))

    abbrev pub pointed_index : List ℕ
    pointed_index = set_pointer moved index_cell (Some (g + 16))

    points : ChangesOnly moved pointed_index index_cell 4
    points = set_number-changes 4 moved index_cell (distance index_cell (Some (g + 16)))

    below : index_cell + 4 ≤ heap_start
    below = omega arith

    past_root : 28 ≤ index_cell
    past_root = omega arith

    pub pointed_heap : IsHeap allocator pointed_index
    pointed_heap = header_heap allocator moved pointed_index index_cell 4 moved_heap points below past_root

    pub pointed_live : live pointed_index ≡ live taken
    pointed_live = header_live allocator moved pointed_index index_cell 4 moved_heap points below past_root ∙ moved_live ∙ marked_live

    pub pointed_counts : (h : ℕ) → times h (positions (live pointed_index)) ≡ times h (g ∷ positions (live before))
    pointed_counts h = ap (λ bs. times h (positions bs)) (pointed_live ∙ sym marked_live) ∙ marked_counts h

    pub pointed_ownable : AllByRecursion (λ b. IsOwnable pointed_index table b.at) (live pointed_index)
    pointed_ownable = header_ownable allocator moved pointed_index index_cell 4 moved_heap points below past_root table (wrote_ownable allocator tagged_index moved table g (g + 16) m marked_heap changes inside g_live marked_ownable)

    marked_there : (h : ℕ) → 1 ≤ times h (positions (live before)) → 1 ≤ times h (positions (live tagged_index))
    marked_there h some = omega (arith, marked_counts h, times-append h (g ∷ []) (positions (live before)))

    pub pointed_kept : (h : ℕ) → 1 ≤ times h (positions (live before)) → KeepsBlock before pointed_index h
    pointed_kept h some =
        let in_marked = marked_there h some in
        let in_moved : 1 ≤ times h (positions (live moved)) = subst (λ bs. 1 ≤ times h (positions bs)) (sym moved_live) in_marked in
        kept_twice before tagged_index pointed_index h (marked_kept h some).whole.kept
        (kept_twice tagged_index moved pointed_index h (wrote_other allocator tagged_index moved table g (g + 16) m marked_heap changes inside g_live h in_marked (not_new h some))
        (header_kept allocator moved pointed_index index_cell 4 moved_heap points below past_root h in_moved))

    g_moved : 1 ≤ times g (positions (live moved))
    g_moved = subst (λ bs. 1 ≤ times g (positions bs)) (sym moved_live) g_live

    pub pointed_block : IsBlock pointed_index (g + 16) (tag_of Kind.index_buffer 0) (16 * u - 16)
    pointed_block =
        let k = header_kept allocator moved pointed_index index_cell 4 moved_heap points below past_root g g_moved in
        IsBlock-kept moved pointed_index (g + 16) tag (16 * u - 16) (rw own k) (wrote_block allocator tagged_index moved table g (g + 16) m marked_heap changes inside g_live (g + 16) tag (16 * u - 16) refl marked_block)

    pub pointed_target : target pointed_index index_cell ≡ Some (g + 16)
    pointed_target =
        let long = header_fits allocator moved moved_heap in
        target-set_same moved index_cell (Some (g + 16)) (omega arith) (omega arith) (λ k e. fine k e new_small new_even)
      where
        fine : (k : ℕ) → Some (g + 16) ≡ Some k → g + 16 < 2 ^ 32 → g % 16 ≡ 0 → (k < 2 ^ 32) × (k ≢ index_cell + 1)
        fine k e small even = let same : g + 16 ≡ k = cc in (omega arith, λ bad. omega arith)

    pub pointed_count : count_at pointed_index index_cell ≡ count_at before index_cell
    pointed_count =
        number-set_other 4 4 moved index_cell (distance index_cell (Some (g + 16))) (index_cell + 4) (inr (omega arith))
        ∙ cell-count tagged_index moved index_cell (moved_low index_cell 8 (omega arith)) ∙ tagged_count

    -- the bytes before the heap are kept, except the cell
    pub pointed_low : (q n : ℕ) → (q + n ≤ 24) ⊎ (28 ≤ q) → q + n ≤ heap_start → (q + n ≤ index_cell) ⊎ (index_cell + 4 ≤ q) → IsSame before pointed_index q n
    pointed_low q n (inl root) high beside = IsSame-trans before tagged_index pointed_index q n (IsSame-part before tagged_index 0 24 q n (omega arith) (omega arith) marked_front)
        (IsSame-trans tagged_index moved pointed_index q n (moved_low q n high) (points.others q n beside))
    pointed_low q n (inr root) high beside = IsSame-trans before tagged_index pointed_index q n (IsSame-part before tagged_index 28 676 q n (omega arith) (omega arith) marked_back)
        (IsSame-trans tagged_index moved pointed_index q n (moved_low q n high) (points.others q n beside))

    pub pointed_same : (q n : ℕ) → heap_start ≤ q → IsSame moved pointed_index q n
    pointed_same q n l = points.others q n (inr (omega arith))

    pub pointed_length : length pointed_index ≡ length before
    pointed_length = points.length_kept ∙ changes.length_kept ∙ new_length allocator u g tag before taken tagged_index s.heap t (g + 16) 0 low high none

    -- ---- the old buffer is freed, if there is one

    module _ (entries : (i : ℕ) → i < count_at before index_cell → IsSameEntry before moved (name_entry before i) (g + 16 + i * 8)) (enough : count_at before index_cell * 8 + 16 ≤ 16 * u) where
      entry_pointed : (i : ℕ) → i < count_at before index_cell → IsSameEntry before pointed_index (name_entry before i) (g + 16 + i * 8)
      entry_pointed i l =
          let low = g_lies.low in
          let e = entries i l in
          let k = same_entry moved pointed_index (g + 16 + i * 8) (pointed_same (g + 16 + i * 8) 8 (omega arith)) in
          (k.0 ∙ e.0, k.1 ∙ e.1)

      count_room : IsBlock pointed_index (g + 16) tag (count_at before index_cell * 8)
      count_room = record { after_header = pointed_block.after_header; live = pointed_block.live; has_tag = pointed_block.has_tag; room = omega (arith, pointed_block.room) }

      names_new : named pointed_index index_cell ≡ g ∷ []
      names_new = ap (λ o. option_to_list (option_map block_of o)) pointed_target ∙ ap (λ x. x ∷ []) own

      pub first_moves : target before index_cell ≡ None → MovesIndex before taken pointed_index table u
      first_moves e = record {
        changes = record {
          length_kept = pointed_length;
          front_kept = pointed_low 0 24 (inl (omega arith)) (omega arith) (inl (omega arith));
          middle_kept = pointed_low 28 4 (inr (omega arith)) (omega arith) (inl (omega arith));
          back_kept = pointed_low 40 664 (inr (omega arith)) (omega arith) (inr (omega arith));
          heap = subst (λ a. IsHeap a pointed_index) (sym s.allocator_is) pointed_heap;
          ownable = pointed_ownable;
          live_is = rw e pointed_live;
          live_are = λ h. rw (e, names_new) (omega (arith, pointed_counts h, times-append h (g ∷ []) (positions (live before))));
          kept = λ h some away. pointed_kept h some;
          room = rw (pointed_target, pointed_count) count_room;
        };
        names = record { counted = pointed_count; entries = λ i l. rw pointed_target (entry_pointed i l) };
        room = rw pointed_target pointed_block.room;
      }

      module _ (p : ℕ) (named_is : target before index_cell ≡ Some p) where
        names : named before index_cell ≡ block_of p ∷ []
        names = ap (λ o. option_to_list (option_map block_of o)) named_is

        p_live : 1 ≤ times (block_of p) (positions (live before))
        p_live = s.is_live (block_of p) (rw names (omega (arith, times-same (block_of p) [])))

        p_there : 1 ≤ times (block_of p) (positions (live pointed_index))
        p_there = omega (arith, p_live, pointed_counts (block_of p), times-append (block_of p) (g ∷ []) (positions (live before)))

        pub old_index_live : IsLive pointed_index (block_of p)
        old_index_live =
            let f = found (block_of p) (live pointed_index) p_there in
            (f.block.units, subst (λ x. Contains (live pointed_index) (record { at = x; units = f.block.units })) f.at_is f.among)

        pub next_moves : (new : List ℕ) → Gives allocator pointed_index new (block_of p) → MovesIndex before taken new table u
        next_moves new gives =
            let front = given_front allocator pointed_index new table (block_of p) pointed_heap gives p_there in
            let cell = IsSame-part pointed_index new 28 676 index_cell 8 (omega arith) (omega arith) front.1 in
            let names_then : target new index_cell ≡ Some (g + 16) = cell-target pointed_index new index_cell cell ∙ pointed_target in
            let counts_then : count_at new index_cell ≡ count_at before index_cell = cell-count pointed_index new index_cell cell ∙ pointed_count in
            let names_there : named new index_cell ≡ g ∷ [] = ap (λ o. option_to_list (option_map block_of o)) names_then ∙ ap (λ x. x ∷ []) own in
            let g_there : 1 ≤ times g (positions (live pointed_index)) = omega (arith, pointed_counts g, times-same g (positions (live before))) in
            let g_kept = (given_linked allocator pointed_index new table (block_of p) pointed_heap gives p_there g g_there (λ e. not_new (block_of p) p_live (sym e))).whole.kept in
            let kept_there : KeepsBlock pointed_index new (g + 16 - 16) = rw own g_kept in
            record {
              changes = record {
                length_kept = gives.kept.front_kept.length_kept ∙ pointed_length;
                front_kept = IsSame-trans before pointed_index new 0 24 (pointed_low 0 24 (inl (omega arith)) (omega arith) (inl (omega arith))) front.0;
                middle_kept = IsSame-trans before pointed_index new 28 4 (pointed_low 28 4 (inr (omega arith)) (omega arith) (inl (omega arith))) (IsSame-part pointed_index new 28 676 28 4 (omega arith) (omega arith) front.1);
                back_kept = IsSame-trans before pointed_index new 40 664 (pointed_low 40 664 (inr (omega arith)) (omega arith) (inr (omega arith))) (IsSame-part pointed_index new 28 676 40 664 (omega arith) (omega arith) front.1);
                heap = subst (λ a. IsHeap a new) (sym s.allocator_is) gives.heap;
                ownable = given_ownable allocator pointed_index new table (block_of p) pointed_heap gives p_there pointed_ownable;
                live_is = rw names (gives.given ∙ ap (λ bs. after_gives bs (block_of p ∷ [])) pointed_live);
                live_are = λ h. rw (names, names_there) (omega (
                  arith,
                  given_counts allocator pointed_index new table (block_of p) pointed_heap gives p_there h,
                  pointed_counts h,
                  times-append h (g ∷ []) (positions (live before)),
                  times-append h (block_of p ∷ []) (positions (live new)),
                ));
                kept = λ h some away. kept_twice before pointed_index new h (pointed_kept h some)
                    (given_linked allocator pointed_index new table (block_of p) pointed_heap gives p_there h (omega (arith, pointed_counts h, times-append h (g ∷ []) (positions (live before)))) (not_it h (rw names at away))).whole.kept;
                room = rw (names_then, counts_then) (IsBlock-kept pointed_index new (g + 16) tag (count_at before index_cell * 8) kept_there count_room);
              };
              names = record { counted = counts_then; entries = λ i l. rw names_then (later new i l g_kept) };
              room = rw names_then (IsBlock-kept pointed_index new (g + 16) tag (16 * u - 16) kept_there pointed_block).room;
            }
          where
            not_it : (h : ℕ) → times h (block_of p ∷ []) ≡ 0 → h ≢ block_of p
            not_it h away e =
                let one : times (block_of p) (block_of p ∷ []) ≡ 0 = subst (λ x. times x (block_of p ∷ []) ≡ 0) e away in
                omega (arith, times-same (block_of p) [])

            later : (new : List ℕ) (i : ℕ) → i < count_at before index_cell → KeepsBlock pointed_index new g → IsSameEntry before new (name_entry before i) (g + 16 + i * 8)
            later new i l k =
                let room : 16 * u - 16 ≤ payload_size pointed_index g = rw own at pointed_block.room in
                let e = entry_pointed i l in
                let then = same_entry pointed_index new (g + 16 + i * 8) (IsSame-part pointed_index new (g + 16) (payload_size pointed_index g) (g + 16 + i * 8) 8 (omega arith) (omega arith) k.payload) in
                (then.0 ∙ e.0, then.1 ∙ e.1)

-- ---- from the steps of the call

pub moved_entry : (old moved : List ℕ) (from to k i : ℕ) → MovesPointers old moved 8 0 from to k → i < k → target old (from + i * 8) ≢ Some (to + i * 8 + 1) → IsSameEntry old moved (from + i * 8) (to + i * 8)
moved_entry old moved from to k i shifts l apart =
    let e1 = add-zero (from + i * 8) in
    let e2 = add-zero (to + i * 8) in
    let first : target moved (to + i * 8) ≡ target old (from + i * 8) = rw (e1, e2) at (shifts.named i l (rw (e1, e2) apart)) in
    (first, shifts.beside i 4 4 l (omega arith) (inr (omega arith)))

module _ (allocator : ℕ) (before taken marked : List ℕ) (table : Table) (s : FindsNames allocator before table) (u g payload : ℕ)
    (t : Takes allocator before taken u (Some g)) (two : 2 ≤ u) (enough : count_at before index_cell * 8 + 16 ≤ 16 * u)
    (marked_is : marked ≡ set_word taken (g + 8) (tag_of Kind.index_buffer 0)) (payload_by : payload ≡ (g + 16) % 2 ^ 32) where
  payload_is : payload ≡ g + 16
  payload_is = let l = new_small allocator before taken table s u g t two in omega arith

  no_entries : target before index_cell ≡ None → count_at before index_cell ≡ 0
  no_entries e = rw e at s.room

  pub first_index : (pointed : List ℕ) → target marked index_cell ≡ None → pointed ≡ set_pointer marked index_cell (Some payload) → MovesIndex before taken pointed table u
  first_index pointed none pointed_by =
      let unnamed : target before index_cell ≡ None = sym (tagged_target allocator before taken table s u g t two) ∙ sym (ap (λ b. target b index_cell) marked_is) ∙ none in
      let zero_count = no_entries unnamed in
      let here : pointed ≡ set_pointer (tagged_index allocator before taken table s u g t two) index_cell (Some (g + 16)) = rw (marked_is, payload_is) at pointed_by in
      rw here (first_moves allocator before taken table s u g t two (tagged_index allocator before taken table s u g t two) 0 (ChangesOnly-none (tagged_index allocator before taken table s u g t two) (g + 16) 0) (omega arith)
      (λ i l. absurd (omega arith)) enough unnamed)

  pub next_index : (p kept size rest : ℕ) (moved pointed after : List ℕ) → target marked index_cell ≡ Some p → kept ≡ count_at marked index_cell → size ≡ 8 → rest ≡ 0
      → (rest + 4 ≤ size → IsWithin marked p (kept * size) → IsWithin marked payload (kept * size) → MovesPointers marked moved size rest p payload kept)
      → pointed ≡ set_pointer moved index_cell (Some payload) → (IsHeap allocator pointed → IsLive pointed (p - 16) → Gives allocator pointed after (p - 16)) → MovesIndex before taken after table u
  next_index p kept size rest moved pointed after some kept_by size_is rest_is shifts pointed_by gives =
      let named_is : target before index_cell ≡ Some p = sym (tagged_target allocator before taken table s u g t two) ∙ sym (ap (λ b. target b index_cell) marked_is) ∙ some in
      let kept_is : kept ≡ count_at before index_cell = rw marked_is at kept_by ∙ tagged_count allocator before taken table s u g t two in
      let block = name_block allocator before table s p named_is in
      let fits = name_room allocator before table s p named_is (count_at before index_cell * 8) block.room in
      let to_in = new_index_within allocator before taken table s u g t two (count_at before index_cell * 8) enough in
      let long : length (tagged_index allocator before taken table s u g t two) ≡ length before = tagged_length allocator before taken table s u g t two in
      let from_in : IsWithin (tagged_index allocator before taken table s u g t two) p (count_at before index_cell * 8) = record { fits = omega arith; small = to_in.small } in
      let moves : MovesPointers (tagged_index allocator before taken table s u g t two) moved 8 0 p (g + 16) (count_at before index_cell) =
      rw (marked_is, payload_is, kept_is, size_is, rest_is) at (shifts (rw (size_is, rest_is) (omega arith)) (rw (marked_is, kept_is, size_is) from_in) (rw (marked_is, payload_is, kept_is, size_is) to_in)) in
      let entries = moved_names p named_is moved moves in
      let pointed_is : pointed ≡ set_pointer moved index_cell (Some (g + 16)) = rw payload_is at pointed_by in
      let heap = pointed_heap allocator before taken table s u g t two moved (count_at before index_cell * 8) moves.changes enough in
      let is_live = old_index_live allocator before taken table s u g t two moved (count_at before index_cell * 8) moves.changes enough entries enough p named_is in
      let given = gives (rw pointed_is heap) (rw pointed_is is_live) in
      next_moves allocator before taken table s u g t two moved (count_at before index_cell * 8) moves.changes enough entries enough p named_is after (rw pointed_is at given)
    where
      moved_names : (p : ℕ) → target before index_cell ≡ Some p → (moved : List ℕ) → MovesPointers (tagged_index allocator before taken table s u g t two) moved 8 0 p (g + 16) (count_at before index_cell)
          → (i : ℕ) → i < count_at before index_cell → IsSameEntry before moved (name_entry before i) (g + 16 + i * 8)
      moved_names p named_is moved moves i l =
          let start_before : start before index_cell ≡ p = ap (λ o. unwrap_or o 0) named_is in
          let start_tagged : start (tagged_index allocator before taken table s u g t two) index_cell ≡ p = ap (λ o. unwrap_or o 0) (tagged_target allocator before taken table s u g t two ∙ named_is) in
          let e : IsSameEntry before (tagged_index allocator before taken table s u g t two) (p + i * 8) (p + i * 8) = rw (start_before, start_tagged) at ((tagged_names allocator before taken table s u g t two).entries i l) in
          let m = moved_entry (tagged_index allocator before taken table s u g t two) moved p (g + 16) (count_at before index_cell) i moves l (λ bad.
          let a = s.aligned i (g + 16 + i * 8 + 1) l (rw start_before (sym e.0 ∙ bad)) in
          let even = new_even allocator before taken table s u g t two in
          omega arith) in
          rw start_before (m.0 ∙ e.0, m.1 ∙ e.1)
