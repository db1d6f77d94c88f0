-- Entries of a flat map: moving them, and inserting and removing one.
use Rattle.std.proofs.Common.{◌≡◌, ◌≢◌, ℕ, zero, suc, ◌+◌, ◌-◌, ◌*◌, ◌%◌, ◌^◌, ◌<◌, ◌≤◌, inl, inr, ℤ, List, [], ◌∷◌, ◌++◌, length, map, Option, Some, None, unwrap_or, min, MatchOption, refl, sym, ap, ◌∙◌, subst, arith}
use Rattle.std.specs.Prelude.{insert, remove}
use Rattle.std.proofs.Math.Nat.{mul-le-mul_left}
use Rattle.std.specs.List.{AllByRecursion}
use Rattle.seg_spec.specs.Bytes.{set_word, signed_long, IsSame, ChangesOnly}
use Rattle.seg_spec.specs.Pointer.{target}
use Rattle.seg_spec.specs.Types.{Form, Table, form_at, size}
use Rattle.seg_spec.specs.Value.{Value, Values, nil, cons, count, append, Map, IsAscending}
use Rattle.seg_spec.specs.Heap.{IsHeap, live, heap_start}
use Rattle.seg_spec.specs.Block.{Kind, tag_of, block_of, IsBlock, IsInside, IsOwnable, KeepsBlock, payload_size}
use Rattle.seg_spec.specs.Reads.{Place, named, start, count_at, spaced, keys_at, NamesRoom, Holds, HoldsEach, places_of}
use Rattle.seg_spec.specs.Apart.{Separate}
use Rattle.seg_spec.specs.Cells.{IsWithin, Shifts}
use Rattle.seg_spec.specs.Sound.{times, positions}
use Rattle.seg_spec.specs.Roots.{ChangesPlace}
use Rattle.seg_spec.specs.Parts.{PersistEach, PartsStay, KeepsParts}
use Rattle.seg_spec.specs.Owning.{Stands, StandsBeside}
use Rattle.seg_spec.specs.Growing.{Reserves}
use Rattle.seg_spec.specs.Items.{insert_nth, remove_nth, without_entry}
use Rattle.seg_spec.specs.Spending.{PlaceBlocks}
use Rattle.seg_value.specs.Entries.{flat_value, flat_asks, OpensEntry, ClosesEntry}
use Rattle.seg_spec.specs.Shrinking.{KeepsPathsInside}
use Rattle.seg_spec.proofs.BytesLaws.{number-set_same}
use Rattle.seg_spec.proofs.SliceLaws.{IsSame-part}
use Rattle.seg_spec.proofs.Values.OneValueLaws.{Holds-one}
use Rattle.seg_spec.proofs.Values.PlaceFrameLaws.{cell-target, cell-count, target-same, IsBlock-kept}
use Rattle.seg_spec.proofs.Tables.TypeSizeLaws.{size_large}
use Rattle.seg_spec.proofs.Values.CellChangeLaws.{size_aligned}
use Rattle.seg_spec.proofs.Images.RootWriteLaws.{set_number-changes}
use Rattle.seg_spec.proofs.Heap.LiveBlockLaws.{times-same, times-other, times-more, times-append, there, each_there, LiesIn, live-lie, live-apart, OneOrApart, live-once}
use Rattle.seg_spec.proofs.Values.PlaceWriteLaws.{home_live, owned_live, owned_other, place_within}
use Rattle.seg_spec.proofs.Values.CallPlaceLaws.{Frames, frames_twice, stands_after}
use Rattle.seg_spec.proofs.Values.BufferLaws.{HoldsEntries, Buffered, buffered, holds_buffered, parts_stay}
use Rattle.seg_spec.proofs.Values.PersistenceLaws.{persist_then, parts_around, parts_first}
use Rattle.seg_value.proofs.Inside.{changes_twice, wrote_heap, wrote_live, wrote_ownable, wrote_other, wrote_block, frames_beside, frames_around}
use Rattle.seg_value.proofs.Runs.{Run, run_values, run_long, runs_joined, run_kept, run_stays, run_persists, run_paths, run_moved, parts}
use Rattle.seg_value.proofs.Runs.{joined, alone, keys_long, the_one, insert_between, remove_between, insert_key, remove_key, ascending_after, ascending_without}
use Rattle.seg_cells.proofs.Shifts.{moved_changes}

both : (ks ls : List ℤ) (us ws : Values) → Map ks us ≡ Map ls ws → (ks ≡ ls) × (us ≡ ws)
both ks ls us ws e = (cc, cc)

-- products with a multiple of 8 are multiples of 8
even_times : (i each : ℕ) → each % 8 ≡ 0 → (i * each) % 8 ≡ 0
even_times zero each e = omega arith
even_times (suc i) each e =
    let all : suc i * each ≡ each + i * each = grind arith in
    let rest = even_times i each e in
    omega arith

module _ (allocator : ℕ) (old : List ℕ) (table : Table) (place : Place) (U : ℕ) (keys : List ℤ) (vs : Values) (blocks : List ℕ) (s : Stands allocator old table place (Map keys vs) blocks)
    (f : form_at table place.type ≡ Some (Form.flat_map U)) (p : ℕ) (named_is : target old place.at ≡ Some p) where
  abbrev each : ℕ
  each = 8 + size table U

  abbrev tag : ℕ
  tag = tag_of Kind.buffer place.type

  its : Buffered old table place (Form.flat_map U) (Map keys vs) blocks
  its = buffered old table place (Form.flat_map U) (Map keys vs) blocks f refl s.holds_it

  pub the_block : IsBlock old p (tag_of Kind.buffer place.type) (count_at old place.at * (8 + size table U))
  the_block = rw named_is at its.room

  pub owned : List ℕ
  owned = its.owned

  blocks_are : blocks ≡ block_of p ∷ owned
  unfolding owned
  blocks_are = rw named_is at its.blocks_are

  own_block : block_of p + 16 ≡ p
  own_block = omega (arith, the_block.after_header)

  mine : 1 ≤ times (block_of p) blocks
  mine = rw blocks_are (omega (arith, times-same (block_of p) owned))

  g_live : 1 ≤ times (block_of p) (positions (live old))
  g_live = owned_live allocator old table place (Map keys vs) blocks s (block_of p) mine

  pub g_other : block_of p ≢ s.home
  g_other = owned_other allocator old table place (Map keys vs) blocks s (block_of p) mine

  lies : (h : ℕ) → 1 ≤ times h (positions (live old)) → LiesIn old heap_start (length old) h
  lies h some = there (LiesIn old heap_start (length old)) h (positions (live old)) (live-lie old allocator s.heap) some

  -- a block that a value owns is allocated, and is neither the buffer nor the place's block
  record Inner (h : ℕ) : Type 0 where
    is_live : 1 ≤ times h (positions (live old))
    not_buffer : h ≢ block_of p
    not_home : h ≢ s.home

  inner : (h : ℕ) → 1 ≤ times h owned → Inner h
  inner h some =
      let m = times-more h (block_of p) owned in
      let some_block : 1 ≤ times h blocks = rw blocks_are (omega arith) in
      record {
        is_live = owned_live allocator old table place (Map keys vs) blocks s h some_block;
        not_buffer = λ e. twice (subst (λ x. 1 ≤ times x owned) e some);
        not_home = owned_other allocator old table place (Map keys vs) blocks s h some_block;
      }
    where
      twice : 1 ≤ times (block_of p) owned → ⊥
      twice l =
          let n1 : times (block_of p) blocks ≡ times (block_of p) (block_of p ∷ owned) = ap (times (block_of p)) blocks_are in
          omega (arith, s.owned (block_of p), times-more (block_of p) s.home blocks, times-same (block_of p) owned, live-once old allocator s.heap (block_of p))

  -- the entries of the map
  pub all_entries : Run old table U p (count_at old place.at) keys vs owned
  unfolding owned
  all_entries =
      let start_is : start old place.at ≡ p = ap (λ o. unwrap_or o 0) named_is in
      let e : HoldsEntries old table (Form.flat_map U) p (count_at old place.at) (Map keys vs) its.owned = rw start_is at its.entries in
      let same = both keys (keys_at old (spaced p each (count_at old place.at))) vs e.0 e.1 in
      record { keys_are = same.0; values = subst (λ us. HoldsEach old table (places_of U (map (λ x. x + 8) (spaced p each (count_at old place.at)))) us its.owned) (sym same.1) e.3 }

  pub keys_ascend : IsAscending keys
  keys_ascend =
      let e = its.entries in
      let same = both keys (keys_at old (spaced (start old place.at) each (count_at old place.at))) vs e.0 e.1 in
      rw same.0 e.2

  -- ---- the place after the writes of a call

  pub finished : (fin : List ℕ) (n : ℕ) (more : List ℤ) (ws : Values) → IsHeap allocator fin → live fin ≡ live old
      → AllByRecursion (λ b. IsOwnable fin table b.at) (live fin) → Frames old fin place.at (size table place.type) (block_of p ∷ [])
      → target fin place.at ≡ Some p → count_at fin place.at ≡ n → IsBlock fin p (tag_of Kind.buffer place.type) (n * (8 + size table U)) → Run fin table U p n more ws owned → IsAscending more
      → ChangesPlace old fin table place (Map more ws) blocks (live old) blocks blocks
  finished fin n more ws heap live_is ownable frames named_then counted block run ascending =
      let room : NamesRoom fin place.at tag each = rw (named_then, counted) block in
      let start_is : start fin place.at ≡ p = ap (λ o. unwrap_or o 0) named_then in
      let entries : HoldsEntries fin table (Form.flat_map U) (start fin place.at) (count_at fin place.at) (Map more ws) owned =
      rw (start_is, counted) (ws, ap (λ ks. Map ks ws) run.keys_are, subst IsAscending run.keys_are ascending, run.values) in
      let blocks_then : named fin place.at ++ owned ≡ blocks = rw named_then (sym blocks_are) in
      let holding = subst (λ xs. Holds fin table place (Map more ws) xs) blocks_then (holds_buffered fin table place (Form.flat_map U) (Map more ws) owned f refl room entries) in
      record {
        length_kept = frames.length_kept;
        front_kept = frames.front_kept;
        back_kept = frames.back_kept;
        heap = subst (λ a. IsHeap a fin) (sym s.allocator_is) heap;
        ownable = ownable;
        holds_it = holding;
        live_is = live_is;
        live_are = λ h. ap (λ bs. times h (positions bs) + times h blocks) live_is;
        kept = λ h some none. frames.kept h some (only h none);
      }
    where
      only : (h : ℕ) → times h blocks ≡ 0 → times h (block_of p ∷ []) ≡ 0
      only h none =
          let all : times h (block_of p ∷ owned) ≡ 0 = rw blocks_are at none in
          let n = times-append h (block_of p ∷ []) owned in
          omega arith

  -- ---- entries move in the buffer, and the cell's count changes

  -- the first a entries stay, k entries were moved, and the cell now counts c
  pub record Moved (new : List ℕ) (a from to k c : ℕ) (k1 k2 : List ℤ) (v1 v2 : Values) (o1 o2 : List ℕ) : Type 0 where
    pub heap : IsHeap allocator new
    pub live_is : live new ≡ live old
    pub ownable : AllByRecursion (λ b. IsOwnable new table b.at) (live new)
    pub frames : Frames old new place.at (size table place.type) (block_of p ∷ [])
    pub named_then : target new place.at ≡ Some p
    pub counted : count_at new place.at ≡ c
    pub block : (n : ℕ) → n ≤ payload_size old (block_of p) → IsBlock new p (tag_of Kind.buffer place.type) n
    pub first : Run new table U p a k1 v1 o1
    pub next : Run new table U to k k2 v2 o2
    pub first_stays : PersistEach old new table (run_values table U p a) (run_values table U p a)
    pub next_stays : PersistEach old new table (run_values table U from k) (run_values table U to k)
    pub paths : (i : ℕ) → i < a → KeepsPathsInside old new table (record { at = p + i * (8 + size table U) + 8; type = U })

  module _ (a k from to c : ℕ) (moved new : List ℕ) (shifts : Shifts old moved table 8 U (8 + size table U) from to k) (new_is : new ≡ set_word moved (place.at + 4) c) (c_small : c < 2 ^ 32) (even : to % 8 ≡ 0)
      (k1 k2 : List ℤ) (v1 v2 : Values) (o1 o2 : List ℕ) (first : Run old table U p a k1 v1 o1) (next : Run old table U from k k2 v2 o2) (ascending : IsAscending k2)
      (before : p + a * (8 + size table U) ≤ to) (to_high : to + k * (8 + size table U) ≤ p + payload_size old (block_of p)) (from_low : p ≤ from) (from_high : from + k * (8 + size table U) ≤ p + payload_size old (block_of p))
      (ours_first : (h : ℕ) → 1 ≤ times h o1 → 1 ≤ times h owned) (ours_next : (h : ℕ) → 1 ≤ times h o2 → 1 ≤ times h owned) where
    inside : IsInside old (block_of p) to (k * each)
    inside = let l = lies (block_of p) g_live in let o = own_block in record { low = omega arith; high = omega (arith, l.size) }

    from_in : IsWithin old from (k * each)
    from_in = let l = lies (block_of p) g_live in let o = own_block in record { fits = omega (arith, l.size, l.high); small = s.heap.small }

    to_in : to + k * each ≤ length old
    to_in = let l = lies (block_of p) g_live in let o = own_block in omega (arith, l.size, l.high)

    moves : ChangesOnly old moved to (k * each)
    moves = moved_changes old moved table s.is_table 8 U each from to k shifts from_in

    moved_heap : IsHeap allocator moved
    moved_heap = wrote_heap allocator old moved table (block_of p) to (k * each) s.heap moves inside g_live

    moved_live : live moved ≡ live old
    moved_live = wrote_live allocator old moved table (block_of p) to (k * each) s.heap moves inside g_live

    moved_other : (h : ℕ) → 1 ≤ times h (positions (live old)) → h ≢ block_of p → KeepsBlock old moved h
    moved_other h some other = wrote_other allocator old moved table (block_of p) to (k * each) s.heap moves inside g_live h some other

    first_moved : Run moved table U p a k1 v1 o1
    first_moved = run_kept old moved table s.is_table U p a k1 v1 o1 (moves.others p (a * each) (inl before))
        (each_there (KeepsBlock old moved) o1 (λ h some. let i = inner h (ours_first h some) in moved_other h i.is_live i.not_buffer)) first

    next_beside : StandsBeside old (block_of p) to (k * each) o2
    next_beside = record { inside = inside; home_live = g_live; others = λ h some. let i = inner h (ours_next h some) in (i.is_live, i.not_buffer) }

    next_moved : Run moved table U to k k2 v2 o2
    next_moved = run_moved old moved table s.is_table U allocator (block_of p) from to k k2 v2 o2 s.heap even from_in to_in next_beside shifts ascending next

    -- the cell is in a block that is still allocated

    still_live : (h : ℕ) → 1 ≤ times h (positions (live old)) → 1 ≤ times h (positions (live moved))
    still_live h some = subst (λ bs. 1 ≤ times h (positions bs)) (sym moved_live) some

    home_there : 1 ≤ times s.home (positions (live old))
    home_there = home_live allocator old table place (Map keys vs) blocks s

    cell_inside : IsInside moved s.home (place.at + 4) 4
    cell_inside =
        let large = size_large table s.is_table place.type in
        let l = lies s.home home_there in
        let k = moved_other s.home home_there (λ e. g_other (sym e)) in
        record { low = omega (arith, s.inside.low); high = omega (arith, s.inside.high, k.room, l.size) }

    counts : ChangesOnly moved new (place.at + 4) 4
    counts = rw new_is (set_number-changes 4 moved (place.at + 4) c)

    new_other : (h : ℕ) → 1 ≤ times h (positions (live old)) → h ≢ s.home → KeepsBlock moved new h
    new_other h some other = wrote_other allocator moved new table s.home (place.at + 4) 4 moved_heap counts cell_inside (still_live s.home home_there) h (still_live h some) other

    new_heap : IsHeap allocator new
    new_heap = wrote_heap allocator moved new table s.home (place.at + 4) 4 moved_heap counts cell_inside (still_live s.home home_there)

    new_live : live new ≡ live old
    new_live = wrote_live allocator moved new table s.home (place.at + 4) 4 moved_heap counts cell_inside (still_live s.home home_there) ∙ moved_live

    new_ownable : AllByRecursion (λ b. IsOwnable new table b.at) (live new)
    new_ownable = wrote_ownable allocator moved new table s.home (place.at + 4) 4 moved_heap counts cell_inside (still_live s.home home_there)
        (wrote_ownable allocator old moved table (block_of p) to (k * each) s.heap moves inside g_live s.ownable)

    new_frames : Frames old new place.at (size table place.type) (block_of p ∷ [])
    new_frames =
        let large = size_large table s.is_table place.type in
        frames_twice old moved new place.at (size table place.type) (block_of p ∷ []) [] (frames_beside allocator old moved table (block_of p) to (k * each) s.heap moves inside g_live place.at (size table place.type))
        (frames_around allocator moved new table s.home (place.at + 4) 4 moved_heap counts cell_inside (still_live s.home home_there) place.at (size table place.type) (omega arith) (omega arith)) (λ h some none. refl)

    -- the buffer's block keeps its size
    payload_moved : payload_size old (block_of p) ≤ payload_size moved (block_of p)
    payload_moved =
        let whole : IsBlock old p tag (payload_size old (block_of p)) = record { after_header = the_block.after_header; live = the_block.live; has_tag = the_block.has_tag; room = omega arith } in
        let then = wrote_block allocator old moved table (block_of p) to (k * each) s.heap moves inside g_live p tag (payload_size old (block_of p)) (sym own_block) whole in
        then.room

    buffer_same : (q m : ℕ) → p ≤ q → q + m ≤ p + payload_size old (block_of p) → IsSame moved new q m
    buffer_same q m low high =
        let o = own_block in
        let more = payload_moved in
        IsSame-part moved new (block_of p + 16) (payload_size moved (block_of p)) q m (omega arith) (omega arith) (new_other (block_of p) g_live g_other).payload

    new_block : (n : ℕ) → n ≤ payload_size old (block_of p) → IsBlock new p (tag_of Kind.buffer place.type) n
    new_block n fits =
        let whole : IsBlock old p tag n = record { after_header = the_block.after_header; live = the_block.live; has_tag = the_block.has_tag; room = fits } in
        let then = wrote_block allocator old moved table (block_of p) to (k * each) s.heap moves inside g_live p tag n (sym own_block) whole in
        IsBlock-kept moved new p tag n (new_other (block_of p) g_live g_other) then

    new_inner : (xs : List ℕ) → ((h : ℕ) → 1 ≤ times h xs → 1 ≤ times h owned) → AllByRecursion (KeepsBlock moved new) xs
    new_inner xs ours = each_there (KeepsBlock moved new) xs (λ h some. let i = inner h (ours h some) in new_other h i.is_live i.not_home)

    first_new : Run new table U p a k1 v1 o1
    first_new = run_kept moved new table s.is_table U p a k1 v1 o1 (buffer_same p (a * each) (omega arith) (omega arith)) (new_inner o1 ours_first) first_moved

    next_new : Run new table U to k k2 v2 o2
    next_new = run_kept moved new table s.is_table U to k k2 v2 o2 (buffer_same to (k * each) (omega arith) (omega arith)) (new_inner o2 ours_next) next_moved

    -- the cell still points to the buffer
    new_target : target new place.at ≡ Some p
    new_target =
        let large = size_large table s.is_table place.type in
        let l = lies s.home home_there in
        let same = (moved_other s.home home_there (λ e. g_other (sym e))).payload in
        target-same moved new place.at (counts.others place.at 4 (inl (omega arith)))
        ∙ cell-target old moved place.at (IsSame-part old moved (s.home + 16) (payload_size old s.home) place.at 8 s.inside.low (omega (arith, s.inside.high, l.size)) same) ∙ named_is

    new_count : count_at new place.at ≡ c
    new_count =
        let large = size_large table s.is_table place.type in
        let within = place_within allocator old table place (Map keys vs) blocks s in
        let long = moves.length_kept in
        ap (λ b. count_at b place.at) new_is ∙ number-set_same 4 moved (place.at + 4) c (omega arith) (omega arith)

    pub moved_entries : Moved new a from to k c k1 k2 v1 v2 o1 o2
    moved_entries = record {
      heap = new_heap;
      live_is = new_live;
      ownable = new_ownable;
      frames = new_frames;
      named_then = new_target;
      counted = new_count;
      block = new_block;
      first = first_new;
      next = next_new;
      first_stays = persist_then old moved new table
          (run_stays old moved table s.is_table U p a k1 v1 o1 (moves.others p (a * each) (inl before))
          (each_there (KeepsBlock old moved) o1 (λ h some. let i = inner h (ours_first h some) in moved_other h i.is_live i.not_buffer)) first)
          (run_stays moved new table s.is_table U p a k1 v1 o1 (buffer_same p (a * each) (omega arith) (omega arith)) (new_inner o1 ours_first) first_moved);
      next_stays = persist_then old moved new table
          (run_persists old moved table s.is_table U allocator (block_of p) from to k k2 v2 o2 s.heap even from_in next_beside shifts ascending next)
          (run_stays moved new table s.is_table U to k k2 v2 o2 (buffer_same to (k * each) (omega arith) (omega arith)) (new_inner o2 ours_next) next_moved);
      paths = λ i below path goal way. run_paths moved new table s.is_table U p a k1 v1 o1 (buffer_same p (a * each) (omega arith) (omega arith)) (new_inner o1 ours_first) first_moved i below path goal
          (run_paths old moved table s.is_table U p a k1 v1 o1 (moves.others p (a * each) (inl before))
          (each_there (KeepsBlock old moved) o1 (λ h some. let j = inner h (ours_first h some) in moved_other h j.is_live j.not_buffer)) first i below path goal way);
    }

  -- ---- the position of an entry

  pub even_entry : (index : ℕ) → (p + index * each) % 8 ≡ 0
  even_entry index =
      let o = own_block in
      let l = lies (block_of p) g_live in
      let e8 = size_aligned table s.is_table U in
      let t = even_times index each (omega arith) in
      omega (arith, l.aligned)

  pub small_count : (n : ℕ) → n * each ≤ 2 ^ 30 → n < 2 ^ 32
  small_count n l = let e8 : 1 ≤ each = omega arith in let m = mul-le-mul_left n e8 in omega arith

  -- ---- an entry is removed

  module _ (index k : ℕ) (counted : count_at old place.at ≡ index + (1 + k)) (moved new : List ℕ)
      (shifts : Shifts old moved table 8 U (8 + size table U) (p + index * (8 + size table U) + (8 + size table U)) (p + index * (8 + size table U)) k)
      (new_is : new ≡ set_word moved (place.at + 4) (index + k)) (nothing : PlaceBlocks old table (record { at = p + index * (8 + size table U) + 8; type = U }) []) where
    q : ℕ
    q = p + index * (8 + size table U)

    -- the values of the other entries stay
    entry_gone : (w : Value) (new : List ℕ) → Holds new table place w blocks → start new place.at ≡ p → count_at new place.at ≡ index + k → PersistEach old new table (run_values table U p index) (run_values table U p index)
        → PersistEach old new table (run_values table U (p + index * (8 + size table U) + (8 + size table U)) k) (run_values table U (p + index * (8 + size table U)) k) → KeepsParts old new table place index 1 0
    entry_gone w new holding starts counts first next =
        let spot = p + index * (8 + size table U) in
        let one = run_values table U spot 1 in
        let start_is : start old place.at ≡ p = ap (λ o. unwrap_or o 0) named_is in
        let before : run_values table U (start old place.at) (count_at old place.at) ≡ run_values table U p index ++ (one ++ run_values table U (spot + (8 + size table U)) k) =
        rw (start_is, counted) (runs_joined table U p index (1 + k) spot refl ∙ ap (λ ps. run_values table U p index ++ ps) (runs_joined table U spot 1 k (spot + (8 + size table U)) (omega arith))) in
        let after : run_values table U (start new place.at) (count_at new place.at) ≡ run_values table U p index ++ ([] ++ run_values table U spot k) = rw (starts, counts) (runs_joined table U p index k spot refl) in
        let around = parts_around old new table (Form.flat_map U) (run_values table U p index) one (run_values table U (spot + (8 + size table U)) k) (run_values table U p index) [] (run_values table U spot k)
        (λ e. absurd (cc)) first next in
        parts_stay old new table place (Form.flat_map U) (Map keys vs) w blocks blocks f refl s.holds_it holding index 1 0
        (subst (λ n. PartsStay old new table (Form.flat_map U) (run_values table U (start old place.at) (count_at old place.at)) (run_values table U (start new place.at) (count_at new place.at)) n 1 0) (run_long table U p index)
        (subst (λ ps. PartsStay old new table (Form.flat_map U) ps (run_values table U (start new place.at) (count_at new place.at)) (length (run_values table U p index)) 1 0) (sym before)
        (subst (λ ps. PartsStay old new table (Form.flat_map U) (run_values table U p index ++ (one ++ run_values table U (spot + (8 + size table U)) k)) ps (length (run_values table U p index)) 1 0) (sym after) around)))

    pub closed : ClosesEntry old new table place U keys vs blocks index
    unfolding q
    closed =
        let r : Run old table U p (index + (1 + k)) keys vs owned = rw counted at all_entries in
        let a = parts old table U p index (1 + k) q keys vs owned refl r in
        let b = parts old table U q 1 k (q + each) a.next_keys a.next_values a.next_owned (omega arith) a.next in
        let one = the_one old table U q b.first_keys b.first_values b.first_owned b.first in
        let none : b.first_owned ≡ [] = (Holds-one old table one.holds_it nothing.1).1 in
        let key = signed_long old q in
        let keys_are : keys ≡ a.first_keys ++ (key ∷ b.next_keys) = a.keys_are ∙ ap (λ ks. a.first_keys ++ ks) (b.keys_are ∙ ap (λ ks. ks ++ b.next_keys) one.keys_are) in
        let values_are : vs ≡ append a.first_values (cons one.value b.next_values) = a.values_are ∙ ap (λ us. append a.first_values us) (b.values_are ∙ ap (λ us. append us b.next_values) one.values_are) in
        let owned_are : owned ≡ a.first_owned ++ b.next_owned = a.owned_are ∙ ap (λ xs. a.first_owned ++ xs) (b.owned_are ∙ ap (λ xs. xs ++ b.next_owned) none) in
        let ascend : IsAscending (a.first_keys ++ (key ∷ b.next_keys)) = rw keys_are at keys_ascend in
        let after = ascending_after (key ∷ []) b.next_keys (ascending_after a.first_keys (key ∷ b.next_keys) ascend) in
        let size_is : (index + (1 + k)) * each ≡ index * each + each + k * each = grind arith in
        let less : (index + k) * each ≡ index * each + k * each = grind arith in
        let room : (index + (1 + k)) * each ≤ payload_size old (block_of p) = rw counted at the_block.room in
        let small = lies (block_of p) g_live in
        let e8 : 1 ≤ each = omega arith in
        let few : index + k < 2 ^ 32 = small_count (index + k) (omega (arith, small.high, small.size, s.heap.small)) in
        let m = moved_entries index k (q + each) q (index + k) moved new shifts new_is few (even_entry index) a.first_keys b.next_keys a.first_values b.next_values a.first_owned b.next_owned a.first b.next after
        (omega arith) (omega arith) (omega arith) (omega arith) (λ h some. rw owned_are (omega (arith, times-append h a.first_owned b.next_owned))) (λ h some. rw owned_are (omega (arith, times-append h a.first_owned b.next_owned))) in
        let run = joined new table U p index k q a.first_keys b.next_keys a.first_values b.next_values a.first_owned b.next_owned refl m.first m.next in
        let done = finished new (index + k) (a.first_keys ++ b.next_keys) (append a.first_values b.next_values) m.heap m.live_is m.ownable m.frames m.named_then m.counted (m.block ((index + k) * each) (omega arith))
        (subst (λ xs. Run new table U p (index + k) (a.first_keys ++ b.next_keys) (append a.first_values b.next_values) xs) (sym owned_are) run) (ascending_without a.first_keys b.next_keys key ascend) in
        let new_keys : remove keys index ≡ a.first_keys ++ b.next_keys = ap (λ ks. remove ks index) keys_are ∙ remove_key a.first_keys b.next_keys key index a.keys_count in
        let new_values : remove_nth vs index ≡ append a.first_values b.next_values = ap (λ us. remove_nth us index) values_are ∙ remove_between a.first_values b.next_values one.value index a.values_count in
        let changes : ChangesPlace old new table place (without_entry (keys, vs) index) blocks (live old) blocks blocks = rw (new_keys, new_values) done in
        let start_is : start old place.at ≡ p = ap (λ o. unwrap_or o 0) named_is in
        record {
          changes = changes;
          start_kept = ap (λ o. unwrap_or o 0) m.named_then ∙ sym start_is;
          parts = entry_gone (without_entry (keys, vs) index) new changes.holds_it (ap (λ o. unwrap_or o 0) m.named_then) m.counted m.first_stays m.next_stays;
          paths = λ i below. subst (λ x. KeepsPathsInside old new table (record { at = x + i * (8 + size table U) + 8; type = U })) (sym start_is) (m.paths i below);
        }

  -- ---- an entry is inserted

  module _ (index k : ℕ) (counted : count_at old place.at ≡ index + k) (room : (index + (1 + k)) * (8 + size table U) ≤ payload_size old (block_of p)) (moved new : List ℕ)
      (shifts : Shifts old moved table 8 U (8 + size table U) (p + index * (8 + size table U)) (p + index * (8 + size table U) + (8 + size table U)) k) (new_is : new ≡ set_word moved (place.at + 4) (index + (1 + k))) where
    abbrev spot : ℕ
    spot = p + index * (8 + size table U)

    size_is : (index + (1 + k)) * each ≡ index * each + each + k * each
    size_is = grind arith

    less : (index + k) * each ≡ index * each + k * each
    less = grind arith

    few : index + (1 + k) < 2 ^ 32
    few = let l = lies (block_of p) g_live in small_count (index + (1 + k)) (omega (arith, l.high, l.size, s.heap.small))

    pub is_new : (new ≡ set_word moved (place.at + 4) (index + (1 + k))) × IsWithin old spot each × IsInside old (block_of p) spot each
    is_new =
        let l = lies (block_of p) g_live in
        let o = own_block in
        let all = size_is in
        (new_is, record { fits = omega (arith, l.high, l.size); small = s.heap.small }, record { low = omega arith; high = omega (arith, l.size) })

    abbrev r : Run old table U p (index + k) keys vs owned
    r = rw counted at all_entries

    record Came : Type 0 where
      k1 : List ℤ
      k2 : List ℤ
      v1 : Values
      v2 : Values
      o1 : List ℕ
      o2 : List ℕ
      keys_are : keys ≡ k1 ++ k2
      values_are : vs ≡ append v1 v2
      owned_are : owned ≡ o1 ++ o2
      keys_count : index ≡ length k1
      values_count : index ≡ count v1
      moved_to : Moved new index (p + index * each) (p + index * each + each) k (index + (1 + k)) k1 k2 v1 v2 o1 o2

    came : Came
    came =
        let a = parts old table U p index k spot keys vs owned refl r in
        let ascend : IsAscending (a.first_keys ++ a.next_keys) = rw a.keys_are at keys_ascend in
        let all = size_is in
        let both_sizes = less in
        let e8 = size_aligned table s.is_table U in
        let m = moved_entries index k spot (spot + each) (index + (1 + k)) moved new shifts new_is few (omega (arith, even_entry index)) a.first_keys a.next_keys a.first_values a.next_values a.first_owned a.next_owned a.first a.next
        (ascending_after a.first_keys a.next_keys ascend) (omega arith) (omega arith) (omega arith) (omega arith)
        (λ h some. rw a.owned_are (omega (arith, times-append h a.first_owned a.next_owned))) (λ h some. rw a.owned_are (omega (arith, times-append h a.first_owned a.next_owned))) in
        record {
          k1 = a.first_keys;
          k2 = a.next_keys;
          v1 = a.first_values;
          v2 = a.next_values;
          o1 = a.first_owned;
          o2 = a.next_owned;
          keys_are = a.keys_are;
          values_are = a.values_are;
          owned_are = a.owned_are;
          keys_count = a.keys_count;
          values_count = a.values_count;
          moved_to = m;
        }

    then : Moved new index (p + index * each) (p + index * each + each) k (index + (1 + k)) came.k1 came.k2 came.v1 came.v2 came.o1 came.o2
    then = came.moved_to

    pub g_there : 1 ≤ times (block_of p) (positions (live new))
    g_there = subst (λ bs. 1 ≤ times (block_of p) (positions bs)) (sym then.live_is) g_live

    room_then : payload_size old (block_of p) ≤ payload_size new (block_of p)
    room_then = (then.block (payload_size old (block_of p)) (omega arith)).room

    pub new_inside : IsInside new (block_of p) spot each
    new_inside =
        let o = own_block in
        let l = lies (block_of p) g_live in
        let all = size_is in
        let more = room_then in
        record { low = omega arith; high = omega (arith, l.size) }

    pub new_within : IsWithin new spot each
    new_within = record { fits = rw then.frames.length_kept is_new.1.fits; small = then.heap.small }

    pub new_start : start new place.at ≡ p
    new_start = ap (λ o. unwrap_or o 0) then.named_then

    pub home_new : IsInside new s.home place.at (size table place.type)
    home_new =
        let there_is = home_live allocator old table place (Map keys vs) blocks s in
        let l = lies s.home there_is in
        let k = then.frames.kept s.home there_is (times-other s.home (block_of p) [] g_other) in
        record { low = s.inside.low; high = omega (arith, s.inside.high, k.header.room, l.size) }

    pub home_there_new : 1 ≤ times s.home (positions (live new))
    home_there_new = subst (λ bs. 1 ≤ times s.home (positions bs)) (sym then.live_is) (home_live allocator old table place (Map keys vs) blocks s)

    -- the new entry lies in the buffer, and doesn't overlap the place
    pub new_apart : Separate (p + index * (8 + size table U)) (8 + size table U) place.at (size table place.type)
    new_apart =
        let mine = there (λ t. AllByRecursion (OneOrApart new t) (positions (live new))) s.home (positions (live new)) (live-apart new allocator then.heap) home_there_new in
        go (there (OneOrApart new s.home) (block_of p) (positions (live new)) mine g_there)
      where
        go : OneOrApart new s.home (block_of p) → Separate (p + index * (8 + size table U)) (8 + size table U) place.at (size table place.type)
        go (inl e) = absurd (g_other e)
        go (inr (inl l)) = inr (omega (arith, home_new.high, new_inside.low))
        go (inr (inr l)) = inl (omega (arith, home_new.low, new_inside.high))

    module _ (written : List ℕ) (w : Value) (writes : ChangesOnly new written (p + index * (8 + size table U)) (8 + size table U)) (ascending : IsAscending (insert keys index (signed_long written (p + index * (8 + size table U)))))
        (holding : Holds written table (record { at = p + index * (8 + size table U) + 8; type = U }) w []) where
      other_written : (h : ℕ) → 1 ≤ times h (positions (live old)) → h ≢ block_of p → KeepsBlock new written h
      other_written h some other = wrote_other allocator new written table (block_of p) spot each then.heap writes new_inside g_there h (subst (λ bs. 1 ≤ times h (positions bs)) (sym then.live_is) some) other

      inner_written : (xs : List ℕ) → ((h : ℕ) → 1 ≤ times h xs → 1 ≤ times h owned) → AllByRecursion (KeepsBlock new written) xs
      inner_written xs ours = each_there (KeepsBlock new written) xs (λ h some. let i = inner h (ours h some) in other_written h i.is_live i.not_buffer)

      place_written : IsSame new written place.at 8
      place_written =
          let large = size_large table s.is_table place.type in
          let there_is = home_live allocator old table place (Map keys vs) blocks s in
          let two = (there (LiesIn new heap_start (length new)) s.home (positions (live new)) (live-lie new allocator then.heap) home_there_new).size in
          IsSame-part new written (s.home + 16) (payload_size new s.home) place.at 8 home_new.low (omega (arith, home_new.high)) (other_written s.home there_is (λ e. g_other (sym e))).payload

      key : ℤ
      key = signed_long written spot

      run : Run written table U p (index + (1 + k)) (came.k1 ++ (key ∷ came.k2)) (append came.v1 (cons w came.v2)) owned
      unfolding key
      run =
          let c = came in
          let first = run_kept new written table s.is_table U p index c.k1 c.v1 c.o1 (writes.others p (index * each) (inl (omega arith)))
          (inner_written c.o1 (λ h some. rw c.owned_are (omega (arith, times-append h c.o1 c.o2)))) then.first in
          let next = run_kept new written table s.is_table U (spot + each) k c.k2 c.v2 c.o2 (writes.others (spot + each) (k * each) (inr (omega arith)))
          (inner_written c.o2 (λ h some. rw c.owned_are (omega (arith, times-append h c.o1 c.o2)))) then.next in
          let one = alone written table U spot w holding in
          let rest = joined written table U spot 1 k (spot + each) (signed_long written spot ∷ []) c.k2 (cons w nil) c.v2 [] c.o2 (omega arith) one next in
          let whole = joined written table U p index (1 + k) spot c.k1 (signed_long written spot ∷ c.k2) c.v1 (cons w c.v2) c.o1 c.o2 refl first rest in
          subst (λ xs. Run written table U p (index + (1 + k)) (c.k1 ++ (signed_long written spot ∷ c.k2)) (append c.v1 (cons w c.v2)) xs) (sym c.owned_are) whole

      pub opened : ChangesPlace old written table place (Map (insert keys index (signed_long written (p + index * (8 + size table U)))) (insert_nth vs index w)) blocks (live old) blocks blocks
      unfolding key
      opened =
          let c = came in
          let new_keys : insert keys index (signed_long written spot) ≡ c.k1 ++ (signed_long written spot ∷ c.k2) = ap (λ ks. insert ks index (signed_long written spot)) c.keys_are
          ∙ insert_key c.k1 c.k2 (signed_long written spot) index c.keys_count in
          let new_values : insert_nth vs index w ≡ append c.v1 (cons w c.v2) = ap (λ us. insert_nth us index w) c.values_are ∙ insert_between c.v1 c.v2 w index c.values_count in
          let ascend : IsAscending (c.k1 ++ (signed_long written spot ∷ c.k2)) = rw new_keys at ascending in
          let frames = frames_twice old new written place.at (size table place.type) (block_of p ∷ []) (block_of p ∷ []) then.frames
          (frames_beside allocator new written table (block_of p) spot each then.heap writes new_inside g_there place.at (size table place.type)) (λ h some none. none) in
          let block = wrote_block allocator new written table (block_of p) spot each then.heap writes new_inside g_there p tag ((index + (1 + k)) * each) (sym own_block) (then.block ((index + (1 + k)) * each) room) in
          let done = finished written (index + (1 + k)) (c.k1 ++ (signed_long written spot ∷ c.k2)) (append c.v1 (cons w c.v2)) (wrote_heap allocator new written table (block_of p) spot each then.heap writes new_inside g_there)
          (wrote_live allocator new written table (block_of p) spot each then.heap writes new_inside g_there ∙ then.live_is)
          (wrote_ownable allocator new written table (block_of p) spot each then.heap writes new_inside g_there then.ownable) frames
          (cell-target new written place.at place_written ∙ then.named_then) (cell-count new written place.at place_written ∙ then.counted) block run ascend in
          rw (new_keys, new_values) done

      -- the values of the other entries stay
      pub opened_parts : KeepsParts old written table place index 0 1
      opened_parts =
          let c = came in
          let first = persist_then old new written table then.first_stays (run_stays new written table s.is_table U p index c.k1 c.v1 c.o1 (writes.others p (index * each) (inl (omega arith)))
          (inner_written c.o1 (λ h some. rw c.owned_are (omega (arith, times-append h c.o1 c.o2)))) then.first) in
          let next = persist_then old new written table then.next_stays (run_stays new written table s.is_table U (spot + each) k c.k2 c.v2 c.o2 (writes.others (spot + each) (k * each) (inr (omega arith)))
          (inner_written c.o2 (λ h some. rw c.owned_are (omega (arith, times-append h c.o1 c.o2)))) then.next) in
          let starts : start written place.at ≡ p = ap (λ o. unwrap_or o 0) (cell-target new written place.at place_written ∙ then.named_then) in
          let counts : count_at written place.at ≡ index + (1 + k) = cell-count new written place.at place_written ∙ then.counted in
          let start_is : start old place.at ≡ p = ap (λ o. unwrap_or o 0) named_is in
          let one = run_values table U spot 1 in
          let before : run_values table U (start old place.at) (count_at old place.at) ≡ run_values table U p index ++ ([] ++ run_values table U spot k) = rw (start_is, counted) (runs_joined table U p index k spot refl) in
          let after : run_values table U (start written place.at) (count_at written place.at) ≡ run_values table U p index ++ (one ++ run_values table U (spot + each) k) =
          rw (starts, counts) (runs_joined table U p index (1 + k) spot refl ∙ ap (λ ps. run_values table U p index ++ ps) (runs_joined table U spot 1 k (spot + each) (omega arith))) in
          let around = parts_around old written table (Form.flat_map U) (run_values table U p index) [] (run_values table U spot k) (run_values table U p index) one (run_values table U (spot + each) k) (λ e. absurd (cc)) first next in
          parts_stay old written table place (Form.flat_map U) (Map keys vs) (Map (insert keys index (signed_long written (p + index * (8 + size table U)))) (insert_nth vs index w)) blocks blocks f refl s.holds_it opened.holds_it index 0 1
          (subst (λ n. PartsStay old written table (Form.flat_map U) (run_values table U (start old place.at) (count_at old place.at)) (run_values table U (start written place.at) (count_at written place.at)) n 0 1)
          (run_long table U p index)
          (subst (λ ps. PartsStay old written table (Form.flat_map U) ps (run_values table U (start written place.at) (count_at written place.at)) (length (run_values table U p index)) 0 1) (sym before)
          (subst (λ ps. PartsStay old written table (Form.flat_map U) (run_values table U p index ++ ([] ++ run_values table U spot k)) ps (length (run_values table U p index)) 0 1) (sym after) around)))

  -- ---- from the steps of the calls

  pub each_room : (n : ℕ) → n * each ≤ payload_size old (block_of p) → p + n * each ≤ length old
  each_room n l = let b = lies (block_of p) g_live in let o = own_block in omega (arith, b.high, b.size)

pub few_keys : (bytes : List ℕ) (table : Table) (place : Place) (U : ℕ) (keys : List ℤ) (vs : Values) (blocks : List ℕ)
    → form_at table place.type ≡ Some (Form.flat_map U) → Holds bytes table place (Map keys vs) blocks → count_at bytes place.at ≡ length keys
few_keys bytes table place U keys vs blocks f h =
    let b = buffered bytes table place (Form.flat_map U) (Map keys vs) blocks f refl h in
    let same = both keys (keys_at bytes (spaced (start bytes place.at) (8 + size table U) (count_at bytes place.at))) vs b.entries.0 b.entries.1 in
    sym (keys_long bytes table U (start bytes place.at) (count_at bytes place.at)) ∙ ap (λ ks. length ks) (sym same.0)

module _ (allocator : ℕ) (old : List ℕ) (table : Table) (place : Place) (U : ℕ) (keys : List ℤ) (vs : Values) (blocks : List ℕ) (s : Stands allocator old table place (Map keys vs) blocks)
    (f : form_at table place.type ≡ Some (Form.flat_map U)) where
  pub closed_by : (index each at next last k step begin : ℕ) (moved new : List ℕ) → index < count_at old place.at → each ≡ 8 + size table U → begin ≡ start old place.at
      → last ≡ count_at old place.at - 1 → k ≡ last - index → step ≡ min (index + 1) 4294967295
      → at ≡ (begin + index * each) % 2 ^ 32 → next ≡ (begin + step * each) % 2 ^ 32 → (IsWithin old next (k * each) → IsWithin old at (k * each) → Shifts old moved table 8 U each next at k) → new ≡ set_word moved (place.at + 4) last
      → PlaceBlocks old table (flat_value old table place.at U index) [] → ClosesEntry old new table place U keys vs blocks index
  closed_by index each at next last k step begin moved new below each_is begin_is last_is k_is step_is at_by next_by shifts new_is nothing = go (target old place.at) refl
    where
      go : (o : Option ℕ) → target old place.at ≡ o → ClosesEntry old new table place U keys vs blocks index
      go None e =
          let none : count_at old place.at ≡ 0 = rw e at (buffered old table place (Form.flat_map U) (Map keys vs) blocks f refl s.holds_it).room in
          absurd (omega arith)
      go (Some p) e =
          let start_is : start old place.at ≡ p = ap (λ o. unwrap_or o 0) e in
          let begins : begin ≡ p = begin_is ∙ start_is in
          let counted : count_at old place.at ≡ index + (1 + k) = omega arith in
          let room = rw counted at (the_block allocator old table place U keys vs blocks s f p e).room in
          let fits = each_room allocator old table place U keys vs blocks s f p e (index + (1 + k)) room in
          let small = small_count allocator old table place U keys vs blocks s f p e (index + (1 + k)) (omega (arith, s.heap.small)) in
          let sizes : (index + (1 + k)) * (8 + size table U) ≡ index * (8 + size table U) + (8 + size table U) + k * (8 + size table U) = grind arith in
          let step_by : step ≡ index + 1 = omega arith in
          let more : (index + 1) * (8 + size table U) ≡ index * (8 + size table U) + (8 + size table U) = grind arith in
          let low = s.heap.small in
          let at_is : at ≡ p + index * (8 + size table U) = rw (begins, each_is) at at_by ∙ omega arith in
          let next_is : next ≡ p + index * (8 + size table U) + (8 + size table U) = rw (begins, each_is, step_by) at next_by ∙ omega arith in
          let next_in : IsWithin old next (k * each) = rw (next_is, each_is) (record { fits = omega arith; small = low }) in
          let at_in : IsWithin old at (k * each) = rw (at_is, each_is) (record { fits = omega arith; small = low }) in
          let shifted = rw (at_is, next_is, each_is) at (shifts next_in at_in) in
          let last_by : last ≡ index + k = omega arith in
          closed allocator old table place U keys vs blocks s f p e index k counted moved new shifted (rw last_by at new_is) (rw start_is at nothing)

  pub opened_by : (mid : List ℕ) (index each at next kept len k step begin : ℕ) (moved new : List ℕ)
      → Reserves allocator old mid table place (Map keys vs) blocks (flat_asks old table place.at U) ((count_at old place.at + 1) * (8 + size table U))
      → index ≤ count_at old place.at → each ≡ 8 + size table U → kept ≡ count_at old place.at → len ≡ kept + 1 → begin ≡ start mid place.at → k ≡ kept - index → step ≡ min (index + 1) 4294967295
      → at ≡ (begin + index * each) % 2 ^ 32 → next ≡ (begin + step * each) % 2 ^ 32 → (IsWithin mid at (k * each) → IsWithin mid next (k * each) → Shifts mid moved table 8 U each at next k) → new ≡ set_word moved (place.at + 4) len
      → OpensEntry allocator old new table place U keys vs blocks index at
  opened_by mid index each at next kept len k step begin moved new r below each_is kept_is len_is begin_is k_is step_is at_by next_by shifts new_is = go (target mid place.at) refl
    where
      there_then : Stands allocator mid table place (Map keys vs) r.others
      there_then = stands_after allocator old mid table place (Map keys vs) (Map keys vs) blocks r.others r.succeeds.left s r.succeeds.changes

      same_count : count_at mid place.at ≡ count_at old place.at
      same_count = few_keys mid table place U keys vs r.others f there_then.holds_it ∙ sym (few_keys old table place U keys vs blocks f s.holds_it)

      has_room : (o : Option ℕ) → target mid place.at ≡ o → MatchOption o ((count_at old place.at + 1) * (8 + size table U) ≡ 0) (λ p. (count_at old place.at + 1) * (8 + size table U) ≤ payload_size mid (block_of p))
      has_room o e = subst (λ t. MatchOption t ((count_at old place.at + 1) * (8 + size table U) ≡ 0) (λ p. (count_at old place.at + 1) * (8 + size table U) ≤ payload_size mid (block_of p))) e r.room

      go : (o : Option ℕ) → target mid place.at ≡ o → OpensEntry allocator old new table place U keys vs blocks index at
      go None e = let none : (count_at old place.at + 1) * (8 + size table U) ≡ 0 = has_room None e in absurd (omega arith)
      go (Some p) e =
          let start_is : start mid place.at ≡ p = ap (λ o. unwrap_or o 0) e in
          let begins : begin ≡ p = begin_is ∙ start_is in
          let counts : count_at old place.at + 1 ≡ index + (1 + k) = omega arith in
          let counted : count_at mid place.at ≡ index + k = omega (arith, same_count) in
          let room : (index + (1 + k)) * (8 + size table U) ≤ payload_size mid (block_of p) = rw counts at (has_room (Some p) e) in
          let fits = each_room allocator mid table place U keys vs r.others there_then f p e (index + (1 + k)) room in
          let low = there_then.heap.small in
          let small = small_count allocator mid table place U keys vs r.others there_then f p e (index + (1 + k)) (omega arith) in
          let sizes : (index + (1 + k)) * (8 + size table U) ≡ index * (8 + size table U) + (8 + size table U) + k * (8 + size table U) = grind arith in
          let step_by : step ≡ index + 1 = omega arith in
          let more : (index + 1) * (8 + size table U) ≡ index * (8 + size table U) + (8 + size table U) = grind arith in
          let at_is : at ≡ p + index * (8 + size table U) = rw (begins, each_is) at at_by ∙ omega arith in
          let next_is : next ≡ p + index * (8 + size table U) + (8 + size table U) = rw (begins, each_is, step_by) at next_by ∙ omega arith in
          let next_in : IsWithin mid next (k * each) = rw (next_is, each_is) (record { fits = omega arith; small = low }) in
          let at_in : IsWithin mid at (k * each) = rw (at_is, each_is) (record { fits = omega arith; small = low }) in
          let shifted = rw (at_is, next_is, each_is) at (shifts at_in next_in) in
          let len_by : len ≡ index + (1 + k) = omega arith in
          let set : new ≡ set_word moved (place.at + 4) (index + (1 + k)) = rw len_by at new_is in
          let starts = new_start allocator mid table place U keys vs r.others there_then f p e index k counted room moved new shifted set in
          record {
            at_is = at_is ∙ rw starts refl;
            aligned = rw at_is (even_entry allocator mid table place U keys vs r.others there_then f p e index);
            within = rw at_is (new_within allocator mid table place U keys vs r.others there_then f p e index k counted room moved new shifted set);
            apart = rw at_is (new_apart allocator mid table place U keys vs r.others there_then f p e index k counted room moved new shifted set);
            others = r.others;
            becomes = λ written w writes ascending holding. record {
              left = r.succeeds.left;
              left_is = r.succeeds.left_is;
              changes = subst (λ bs. ChangesPlace old written table place (Map (insert keys index (signed_long written at)) (insert_nth vs index w)) r.others bs blocks r.others) r.succeeds.changes.live_is
                  (changes_twice allocator old mid written table place (Map keys vs) (Map (insert keys index (signed_long written at)) (insert_nth vs index w)) r.others r.others blocks r.succeeds.left (live mid)
                  (there_then.allocator_is ∙ sym s.allocator_is) there_then.heap r.succeeds.changes
                  (rw at_is (opened allocator mid table place U keys vs r.others there_then f p e index k counted room moved new shifted set written w (rw at_is at writes) (rw at_is at ascending) (rw starts at holding))));
            };
            parts = λ written w writes ascending holding. parts_first old mid written table place index 0 1 r.parts
                (opened_parts allocator mid table place U keys vs r.others there_then f p e index k counted room moved new shifted set written w (rw at_is at writes) (rw at_is at ascending) (rw starts at holding));
          }

  count_fits : count_at old place.at * (8 + size table U) ≤ 2 ^ 30
  count_fits = go (target old place.at) refl
    where
      go : (o : Option ℕ) → target old place.at ≡ o → count_at old place.at * (8 + size table U) ≤ 2 ^ 30
      go None e =
          let none : count_at old place.at ≡ 0 = rw e at (buffered old table place (Form.flat_map U) (Map keys vs) blocks f refl s.holds_it).room in
          rw none (omega arith)
      go (Some p) e =
          let room = (the_block allocator old table place U keys vs blocks s f p e).room in
          omega (arith, each_room allocator old table place U keys vs blocks s f p e (count_at old place.at) room, s.heap.small)

  -- the count has room for one entry more
  pub one_more : (kept len : ℕ) → kept ≡ count_at old place.at → len ≡ min (kept + 1) 4294967295 → len ≡ kept + 1
  one_more kept len kept_is len_is =
      let few = count_fits in
      let least : 1 ≤ 8 + size table U = omega arith in
      let m = mul-le-mul_left (count_at old place.at) least in
      omega arith
