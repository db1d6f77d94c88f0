-- The buffer of the flat index: moving its entries, and inserting and removing one.
use Rattle.std.proofs.Common.{◌≡◌, ◌≢◌, ℕ, ◌+◌, ◌-◌, ◌*◌, ◌%◌, ◌^◌, ◌<◌, ◌≤◌, ◌⊎◌, inl, inr, min, MatchOption, List, [], ◌∷◌, length, Option, Some, None, unwrap_or, option_to_list, option_map, refl, sym, ap, ◌∙◌, subst, arith, add-zero}
use Rattle.std.specs.Prelude.{Contains}
use Rattle.std.proofs.lemmas.Bool.{cases_eq}
use Rattle.std.specs.List.{AllByRecursion}
use Rattle.seg_spec.specs.Bytes.{set_word, IsSame, ChangesOnly}
use Rattle.seg_spec.specs.Header.{KeepsFront}
use Rattle.seg_spec.specs.Pointer.{target, set_pointer, distance}
use Rattle.seg_spec.specs.Types.{Table}
use Rattle.seg_spec.specs.Heap.{Span, Gives, IsLive, IsHeap, live, heap_start}
use Rattle.seg_spec.specs.Block.{Kind, tag_of, block_of, IsBlock, IsInside, IsOwnable, KeepsBlock, payload_size}
use Rattle.seg_spec.specs.Reads.{named, start, count_at}
use Rattle.seg_spec.specs.Demand.{after_gives}
use Rattle.seg_spec.specs.Spending.{entry_asks}
use Rattle.seg_spec.specs.Cells.{IsWithin}
use Rattle.seg_spec.specs.Sound.{times, positions}
use Rattle.seg_spec.proofs.BytesLaws.{number-set_same, number-set_other}
use Rattle.seg_spec.proofs.SliceLaws.{IsSame-part, IsSame-trans}
use Rattle.seg_spec.proofs.PointerLaws.{target-set_same}
use Rattle.seg_spec.proofs.Deallocation.BlockFreeLaws.{found}
use Rattle.seg_spec.proofs.Values.PlaceFrameLaws.{word-same, cell-target, cell-count, target-same, IsBlock-kept}
use Rattle.seg_spec.proofs.Images.RootWriteLaws.{set_number-changes}
use Rattle.seg_spec.proofs.Heap.BlockFrameLaws.{kept_twice}
use Rattle.seg_spec.proofs.Heap.LiveBlockLaws.{live-once, times-append, times-same, times-other, there, LiesIn, live-lie}
use Rattle.seg_spec.proofs.Heap.BlockWriteLaws.{low_kept}
use Rattle.seg_value.specs.Names.{index_cell, FindsNames, ChangesIndex, IsSameEntry, KeepsNames, ReservesIndex, AddsName, OpensName, ClosesName, EmptiesIndex}
use Rattle.seg_cells.specs.Pointers.{MovesPointers}
use Rattle.seg_value.proofs.Inside.{given_counts, given_linked, given_ownable, given_front, wrote_heap, wrote_live, wrote_ownable, wrote_other, wrote_block}
use Rattle.seg_value.proofs.HeaderLaws.{header_fits, header_heap, header_live, header_ownable, header_kept}

pub same_entry : (old new : List ℕ) (q : ℕ) → IsSame old new q 8 → IsSameEntry old new q q
same_entry old new q s = (target-same old new q (IsSame-part old new q 8 q 4 (omega arith) (omega arith) s), IsSame-part old new q 8 (q + 4) 4 (omega arith) (omega arith) s)

module _ (allocator : ℕ) (old : List ℕ) (table : Table) (s : FindsNames allocator old table) (p : ℕ) (named_is : target old index_cell ≡ Some p) where
  abbrev tag : ℕ
  tag = tag_of Kind.index_buffer 0

  names_one : named old index_cell ≡ block_of p ∷ []
  names_one = ap (λ o. option_to_list (option_map block_of o)) named_is

  pub name_block : IsBlock old p (tag_of Kind.index_buffer 0) (count_at old index_cell * 8)
  name_block = rw named_is at s.room

  own_block : block_of p + 16 ≡ p
  own_block = omega (arith, name_block.after_header)

  pub name_live : 1 ≤ times (block_of p) (positions (live old))
  name_live = s.is_live (block_of p) (rw names_one (omega (arith, times-same (block_of p) [])))

  lies : (h : ℕ) → 1 ≤ times h (positions (live old)) → LiesIn old heap_start (length old) h
  lies h some = there (LiesIn old heap_start (length old)) h (positions (live old)) (live-lie old allocator s.heap) some

  pub name_room : (n : ℕ) → n ≤ payload_size old (block_of p) → p + n ≤ length old
  name_room n l = let b = lies (block_of p) name_live in let o = own_block in omega (arith, b.high, b.size)

  pub name_low : heap_start + 16 ≤ p
  name_low = let b = lies (block_of p) name_live in let o = own_block in omega (arith, b.low)

  pub name_even : p % 16 ≡ 0
  name_even = let b = lies (block_of p) name_live in let o = own_block in omega (arith, b.aligned)

  -- k entries were moved, and the cell now counts c
  pub record Shifted (new : List ℕ) (k from to c : ℕ) : Type 0 where
    pub length_kept : length new ≡ length old
    pub front_kept : KeepsFront old new
    pub middle_kept : IsSame old new 28 4
    pub back_kept : IsSame old new 40 664
    pub heap : IsHeap allocator new
    pub live_is : live new ≡ live old
    pub ownable : AllByRecursion (λ b. IsOwnable new table b.at) (live new)
    pub kept : (h : ℕ) → 1 ≤ times h (positions (live old)) → h ≢ block_of p → KeepsBlock old new h
    pub named_then : target new index_cell ≡ Some p
    pub counted : count_at new index_cell ≡ c
    pub block : (n : ℕ) → n ≤ payload_size old (block_of p) → IsBlock new p (tag_of Kind.index_buffer 0) n
    pub before : (q m : ℕ) → p ≤ q → q + m ≤ to → IsSame old new q m
    pub entries : (i : ℕ) → i < k → (target old (from + i * 8) ≢ Some (to + i * 8 + 1)) → IsSameEntry old new (from + i * 8) (to + i * 8)

  module _ (k from to c : ℕ) (moved new : List ℕ) (shifts : MovesPointers old moved 8 0 from to k) (new_is : new ≡ set_word moved (index_cell + 4) c) (c_small : c < 2 ^ 32)
      (low : p ≤ to) (high : to + k * 8 ≤ p + payload_size old (block_of p)) where
    inside : IsInside old (block_of p) to (k * 8)
    inside = let l = lies (block_of p) name_live in let o = own_block in record { low = omega arith; high = omega (arith, l.size) }

    moved_heap : IsHeap allocator moved
    moved_heap = wrote_heap allocator old moved table (block_of p) to (k * 8) s.heap shifts.changes inside name_live

    moved_live : live moved ≡ live old
    moved_live = wrote_live allocator old moved table (block_of p) to (k * 8) s.heap shifts.changes inside name_live

    still_live : (h : ℕ) → 1 ≤ times h (positions (live old)) → 1 ≤ times h (positions (live moved))
    still_live h some = subst (λ bs. 1 ≤ times h (positions bs)) (sym moved_live) some

    counts : ChangesOnly moved new (index_cell + 4) 4
    counts = rw new_is (set_number-changes 4 moved (index_cell + 4) c)

    fits : index_cell + 4 + 4 ≤ heap_start
    fits = omega arith

    after_root : 28 ≤ index_cell + 4
    after_root = omega arith

    low_same : (q m : ℕ) → q + m ≤ heap_start → IsSame old moved q m
    low_same q m l = low_kept old moved to (k * 8) shifts.changes allocator s.heap (block_of p) inside name_live q m l

    new_kept : (h : ℕ) → 1 ≤ times h (positions (live old)) → KeepsBlock moved new h
    new_kept h some = header_kept allocator moved new (index_cell + 4) 4 moved_heap counts fits after_root h (still_live h some)

    pub names_shifted : Shifted new k from to c
    names_shifted = record {
      length_kept = counts.length_kept ∙ shifts.changes.length_kept;
      front_kept = IsSame-trans old moved new 0 24 (low_same 0 24 (omega arith)) (counts.others 0 24 (inl (omega arith)));
      middle_kept = IsSame-trans old moved new 28 4 (low_same 28 4 (omega arith)) (counts.others 28 4 (inl (omega arith)));
      back_kept = IsSame-trans old moved new 40 664 (low_same 40 664 (omega arith)) (counts.others 40 664 (inr (omega arith)));
      heap = header_heap allocator moved new (index_cell + 4) 4 moved_heap counts fits after_root;
      live_is = header_live allocator moved new (index_cell + 4) 4 moved_heap counts fits after_root ∙ moved_live;
      ownable = header_ownable allocator moved new (index_cell + 4) 4 moved_heap counts fits after_root table (wrote_ownable allocator old moved table (block_of p) to (k * 8) s.heap shifts.changes inside name_live s.ownable);
      kept = λ h some other. kept_twice old moved new h (wrote_other allocator old moved table (block_of p) to (k * 8) s.heap shifts.changes inside name_live h some other) (new_kept h some);
      named_then = target-same moved new index_cell (counts.others index_cell 4 (inl (omega arith))) ∙ target-same old moved index_cell (low_same index_cell 4 (omega arith)) ∙ named_is;
      counted =
          let long = header_fits allocator moved moved_heap in
          ap (λ b. count_at b index_cell) new_is ∙ number-set_same 4 moved (index_cell + 4) c (omega arith) (omega arith);
      block = λ n l. IsBlock-kept moved new p tag n (new_kept (block_of p) name_live)
          (wrote_block allocator old moved table (block_of p) to (k * 8) s.heap shifts.changes inside name_live p tag n (sym own_block)
          (record { after_header = name_block.after_header; live = name_block.live; has_tag = name_block.has_tag; room = l }));
      before = λ q m l h. let b = name_low in IsSame-trans old moved new q m (shifts.changes.others q m (inl h)) (counts.others q m (inr (omega arith)));
      entries = λ i l apart.
          let b = name_low in
          let e1 = add-zero (from + i * 8) in
          let e2 = add-zero (to + i * 8) in
          let first : target moved (to + i * 8) ≡ target old (from + i * 8) = rw (e1, e2) at (shifts.named i l (rw (e1, e2) apart)) in
          let next = shifts.beside i 4 4 l (omega arith) (inr (omega arith)) in
          let same = same_entry moved new (to + i * 8) (counts.others (to + i * 8) 8 (inr (omega arith))) in
          (same.0 ∙ first, same.1 ∙ next);
    }

  -- only the index changed after all writes
  pub index_changes : (new : List ℕ) (n : ℕ) → length new ≡ length old → KeepsFront old new → IsSame old new 28 4 → IsSame old new 40 664
      → IsHeap allocator new → live new ≡ live old → AllByRecursion (λ b. IsOwnable new table b.at) (live new)
      → ((h : ℕ) → 1 ≤ times h (positions (live old)) → h ≢ block_of p → KeepsBlock old new h) → target new index_cell ≡ Some p
      → count_at new index_cell ≡ n → IsBlock new p (tag_of Kind.index_buffer 0) (n * 8) → ChangesIndex old new table (live old)
  index_changes new n long front middle back heap live_is ownable kept named_then counted block = record {
    length_kept = long;
    front_kept = front;
    middle_kept = middle;
    back_kept = back;
    heap = subst (λ a. IsHeap a new) (sym s.allocator_is) heap;
    ownable = ownable;
    live_is = live_is;
    live_are = λ h. rw (live_is, named_then, named_is) refl;
    kept = λ h some none. kept h some (not_it h none);
    room = rw (named_then, counted) block;
  }
    where
      not_it : (h : ℕ) → times h (named old index_cell) ≡ 0 → h ≢ block_of p
      not_it h none e =
          let none' : times h (block_of p ∷ []) ≡ 0 = rw names_one at none in
          let one : times (block_of p) (block_of p ∷ []) ≡ 0 = subst (λ x. times x (block_of p ∷ []) ≡ 0) e none' in
          omega (arith, times-same (block_of p) [])

  pub name_closed : (index k : ℕ) → count_at old index_cell ≡ index + (1 + k) → (moved new : List ℕ) → MovesPointers old moved 8 0 (p + index * 8 + 8) (p + index * 8) k
      → new ≡ set_word moved (index_cell + 4) (index + k) → ClosesName old new table index
  name_closed index k counted moved new shifts new_is =
      let room : (index + (1 + k)) * 8 ≤ payload_size old (block_of p) = rw counted at name_block.room in
      let in_heap = name_room ((index + (1 + k)) * 8) room in
      let small = s.heap.small in
      let m = names_shifted k (p + index * 8 + 8) (p + index * 8) (index + k) moved new shifts new_is (omega arith) (omega arith) (omega arith) in
      let start_old : start old index_cell ≡ p = ap (λ o. unwrap_or o 0) named_is in
      let start_new : start new index_cell ≡ p = ap (λ o. unwrap_or o 0) m.named_then in
      record {
        changes = index_changes new (index + k) m.length_kept m.front_kept m.middle_kept m.back_kept m.heap m.live_is m.ownable m.kept m.named_then m.counted (m.block ((index + k) * 8) (omega arith));
        counted = omega (arith, counted, m.counted);
        before = λ i below. rw (start_old, start_new) (same_entry old new (p + i * 8) (m.before (p + i * 8) 8 (omega arith) (omega arith)));
        after = λ i low below. rw (start_old, start_new) (next i (i - index) low (omega (arith, m.counted)) (omega arith) m);
      }
    where
      next : (i j : ℕ) → index ≤ i → i < index + k → i ≡ index + j → Shifted new k (p + index * 8 + 8) (p + index * 8) (index + k) → IsSameEntry old new (p + (i + 1) * 8) (p + i * 8)
      next i j low below e m =
          let from_is : p + index * 8 + 8 + j * 8 ≡ p + (i + 1) * 8 = omega arith in
          let to_is : p + index * 8 + j * 8 ≡ p + i * 8 = omega arith in
          let start_old : start old index_cell ≡ p = ap (λ o. unwrap_or o 0) named_is in
          let even = name_even in
          rw (from_is, to_is) at (m.entries j (omega arith) (λ t.
          let t' : target old (p + (i + 1) * 8) ≡ Some (p + i * 8 + 1) = rw (from_is, to_is) at t in
          let a = s.aligned (i + 1) (p + i * 8 + 1) (omega (arith, counted)) (rw start_old t') in
          omega arith))

module _ (allocator : ℕ) (old : List ℕ) (table : Table) (s : FindsNames allocator old table) where
  -- an entry was removed, as the code computes its positions
  pub name_closed_by : (index each before at next last k step begin : ℕ) (moved new : List ℕ) → index < count_at old index_cell → each ≡ 8 → before ≡ 0 → begin ≡ start old index_cell → last ≡ count_at old index_cell - 1 → k ≡ last - index
      → step ≡ min (index + 1) 4294967295 → at ≡ (begin + index * each) % 2 ^ 32 → next ≡ (begin + step * each) % 2 ^ 32
      → (before + 4 ≤ each → IsWithin old next (k * each) → IsWithin old at (k * each) → MovesPointers old moved each before next at k) → new ≡ set_word moved (index_cell + 4) last → ClosesName old new table index
  name_closed_by index each before at next last k step begin moved new below each_is before_is begin_is last_is k_is step_is at_by next_by shifts new_is = go (target old index_cell) refl
    where
      go : (o : Option ℕ) → target old index_cell ≡ o → ClosesName old new table index
      go None e = let none : count_at old index_cell ≡ 0 = rw e at s.room in absurd (omega arith)
      go (Some p) e =
          let begins : begin ≡ p = begin_is ∙ ap (λ o. unwrap_or o 0) e in
          let counted : count_at old index_cell ≡ index + (1 + k) = omega arith in
          let room : (index + (1 + k)) * 8 ≤ payload_size old (block_of p) = rw counted at (name_block allocator old table s p e).room in
          let fits = name_room allocator old table s p e ((index + (1 + k)) * 8) room in
          let low = s.heap.small in
          let step_by : step ≡ index + 1 = omega arith in
          let at_is : at ≡ p + index * 8 = rw (begins, each_is) at at_by ∙ omega arith in
          let next_is : next ≡ p + index * 8 + 8 = rw (begins, each_is, step_by) at next_by ∙ omega arith in
          let next_in : IsWithin old next (k * each) = rw (next_is, each_is) (record { fits = omega arith; small = low }) in
          let at_in : IsWithin old at (k * each) = rw (at_is, each_is) (record { fits = omega arith; small = low }) in
          let shifted = rw (at_is, next_is, each_is, before_is) at (shifts (omega arith) next_in at_in) in
          let last_by : last ≡ index + k = omega arith in
          name_closed allocator old table s p e index k counted moved new shifted (rw last_by at new_is)

  -- ---- a buffer without entries is freed

  pub index_empty : target old index_cell ≡ None → count_at old index_cell ≡ 0 → EmptiesIndex old old table
  index_empty e none = record {
    changes = record {
      length_kept = refl;
      front_kept = refl;
      middle_kept = refl;
      back_kept = refl;
      heap = subst (λ a. IsHeap a old) (sym s.allocator_is) s.heap;
      ownable = s.ownable;
      live_is = rw e refl;
      live_are = λ h. refl;
      kept = λ h some away. record { live = refl; has_tag = refl; room = omega arith; payload = refl };
      room = s.room;
    };
    names_none = e;
    counts_none = none;
  }

  module _ (p : ℕ) (named_is : target old index_cell ≡ Some p) (none : count_at old index_cell ≡ 0) where
    abbrev pointed : List ℕ
    pointed = set_pointer old index_cell None

    points : ChangesOnly old pointed index_cell 4
    points = set_number-changes 4 old index_cell (distance index_cell None)

    below : index_cell + 4 ≤ heap_start
    below = omega arith

    past_root : 28 ≤ index_cell
    past_root = omega arith

    pub unnamed_index_heap : IsHeap allocator (set_pointer old index_cell None)
    unnamed_index_heap = header_heap allocator old pointed index_cell 4 s.heap points below past_root

    pointed_live : live pointed ≡ live old
    pointed_live = header_live allocator old pointed index_cell 4 s.heap points below past_root

    g_live : 1 ≤ times (block_of p) (positions (live pointed))
    g_live = subst (λ bs. 1 ≤ times (block_of p) (positions bs)) (sym pointed_live) (name_live allocator old table s p named_is)

    pub unnamed_index_live : IsLive (set_pointer old index_cell None) (block_of p)
    unnamed_index_live =
        let f = found (block_of p) (live pointed) g_live in
        (f.block.units, subst (λ x. Contains (live pointed) (record { at = x; units = f.block.units })) f.at_is f.among)

    pub index_given_up : (new : List ℕ) → Gives allocator (set_pointer old index_cell None) new (block_of p) → EmptiesIndex old new table
    index_given_up new gives =
        let front = given_front allocator pointed new table (block_of p) unnamed_index_heap gives g_live in
        let long = header_fits allocator old s.heap in
        let names : named old index_cell ≡ block_of p ∷ [] = ap (λ o. option_to_list (option_map block_of o)) named_is in
        let cell = IsSame-part pointed new 28 676 index_cell 8 (omega arith) (omega arith) front.1 in
        let unnamed : target pointed index_cell ≡ None = target-set_same old index_cell None (omega arith) (omega arith) (λ t e. absurd (cc)) in
        let names_then : target new index_cell ≡ None = cell-target pointed new index_cell cell ∙ unnamed in
        let counts_then : count_at new index_cell ≡ 0 = cell-count pointed new index_cell cell ∙ number-set_other 4 4 old index_cell (distance index_cell None) (index_cell + 4) (inr (omega arith)) ∙ none in
        record {
          changes = record {
            length_kept = gives.kept.front_kept.length_kept ∙ points.length_kept;
            front_kept = IsSame-trans old pointed new 0 24 (points.others 0 24 (inl (omega arith))) front.0;
            middle_kept = IsSame-trans old pointed new 28 4 (points.others 28 4 (inl (omega arith))) (IsSame-part pointed new 28 676 28 4 (omega arith) (omega arith) front.1);
            back_kept = IsSame-trans old pointed new 40 664 (points.others 40 664 (inr (omega arith))) (IsSame-part pointed new 28 676 40 664 (omega arith) (omega arith) front.1);
            heap = subst (λ a. IsHeap a new) (sym s.allocator_is) gives.heap;
            ownable = given_ownable allocator pointed new table (block_of p) unnamed_index_heap gives g_live (header_ownable allocator old pointed index_cell 4 s.heap points below past_root table s.ownable);
            live_is = rw names (gives.given ∙ ap (λ bs. after_gives bs (block_of p ∷ [])) pointed_live);
            live_are = λ h. rw (names, names_then) (omega (
              arith,
              given_counts allocator pointed new table (block_of p) unnamed_index_heap gives g_live h,
              times-append h (block_of p ∷ []) (positions (live new)),
              ap (λ bs. times h (positions bs)) pointed_live,
            ));
            kept = λ h some away. kept_twice old pointed new h (header_kept allocator old pointed index_cell 4 s.heap points below past_root h some)
                (given_linked allocator pointed new table (block_of p) unnamed_index_heap gives g_live h (subst (λ bs. 1 ≤ times h (positions bs)) (sym pointed_live) some) (not_it h (rw names at away))).whole.kept;
            room = rw names_then counts_then;
          };
          names_none = names_then;
          counts_none = counts_then;
        }
      where
        not_it : (h : ℕ) → times h (block_of p ∷ []) ≡ 0 → h ≢ block_of p
        not_it h away e =
            let one : times (block_of p) (block_of p ∷ []) ≡ 0 = subst (λ x. times x (block_of p ∷ []) ≡ 0) e away in
            omega (arith, times-same (block_of p) [])

-- ---- two calls on the index, one after the other

named_once : (bytes : List ℕ) (h : ℕ) → times h (named bytes index_cell) ≤ 1
named_once bytes h = go (target bytes index_cell)
  where
    go : (o : Option ℕ) → times h (option_to_list (option_map block_of o)) ≤ 1
    go None = omega arith
    go (Some p) = one (cases_eq (block_of p) h)
      where
        one : (block_of p ≡ h) ⊎ (block_of p ≢ h) → times h (block_of p ∷ []) ≤ 1
        one (inl e) = subst (λ x. times x (block_of p ∷ []) ≤ 1) e (omega (arith, times-same (block_of p) []))
        one (inr other) = omega (arith, times-other h (block_of p) [] other)

pub finds_after : (allocator : ℕ) (old mid : List ℕ) (table : Table) (left : List Span) → FindsNames allocator old table → ChangesIndex old mid table left → KeepsNames old mid → FindsNames allocator mid table
finds_after allocator old mid table left s c k = record {
  heap = subst (λ a. IsHeap a mid) s.allocator_is c.heap;
  allocator_is = word-same old mid 16 (IsSame-part old mid 0 24 16 4 (omega arith) (omega arith) c.front_kept) ∙ s.allocator_is;
  ownable = c.ownable;
  room = c.room;
  is_live = λ h some. there_now h some (cases_zero (times h (named old index_cell)));
  aligned = λ i t l e. let below : i < count_at old index_cell = omega (arith, k.counted) in s.aligned i t below (sym (k.entries i below).0 ∙ e);
}
  where
    cases_zero : (n : ℕ) → (n ≡ 0) ⊎ (1 ≤ n)
    cases_zero n = cases_one (cases_eq n 0)
      where
        cases_one : (n ≡ 0) ⊎ (n ≢ 0) → (n ≡ 0) ⊎ (1 ≤ n)
        cases_one (inl e) = inl e
        cases_one (inr ne) = inr (omega arith)

    there_now : (h : ℕ) → 1 ≤ times h (named mid index_cell) → (times h (named old index_cell) ≡ 0) ⊎ (1 ≤ times h (named old index_cell)) → 1 ≤ times h (positions (live mid))
    there_now h some (inl none) = omega (arith, c.live_are h)
    there_now h some (inr one) = omega (arith, c.live_are h, s.is_live h one, named_once old h)

pub index_twice : (allocator : ℕ) (a b c : List ℕ) (table : Table) (left more : List Span)
    → FindsNames allocator a table → FindsNames allocator b table → ChangesIndex a b table left → ChangesIndex b c table more → ChangesIndex a c table more
index_twice allocator a b c table left more s t x y = record {
  length_kept = y.length_kept ∙ x.length_kept;
  front_kept = IsSame-trans a b c 0 24 x.front_kept y.front_kept;
  middle_kept = IsSame-trans a b c 28 4 x.middle_kept y.middle_kept;
  back_kept = IsSame-trans a b c 40 664 x.back_kept y.back_kept;
  heap = subst (λ k. IsHeap k c) (t.allocator_is ∙ sym s.allocator_is) y.heap;
  ownable = y.ownable;
  live_is = y.live_is;
  live_are = λ h. omega (arith, x.live_are h, y.live_are h);
  kept = λ h some none. kept_twice a b c h (x.kept h some none) (y.kept h (omega (arith, x.live_are h)) (omega (arith, x.live_are h, live-once b allocator t.heap h)));
  room = y.room;
}

-- ---- an entry is inserted

module _ (allocator : ℕ) (mid : List ℕ) (table : Table) (s : FindsNames allocator mid table) (p : ℕ) (named_is : target mid index_cell ≡ Some p) (index k : ℕ) (counted : count_at mid index_cell ≡ index + k)
    (room : (index + (1 + k)) * 8 ≤ payload_size mid (block_of p)) (moved new : List ℕ) (shifts : MovesPointers mid moved 8 0 (p + index * 8) (p + index * 8 + 8) k) (new_is : new ≡ set_word moved (index_cell + 4) (index + (1 + k))) where
  then : Shifted allocator mid table s p named_is new k (p + index * 8) (p + index * 8 + 8) (index + (1 + k))
  then =
      let in_heap = name_room allocator mid table s p named_is ((index + (1 + k)) * 8) room in
      let small = s.heap.small in
      names_shifted allocator mid table s p named_is k (p + index * 8) (p + index * 8 + 8) (index + (1 + k)) moved new shifts new_is (omega arith) (omega arith) (omega arith)

  p_is : block_of p + 16 ≡ p
  p_is = let b = name_block allocator mid table s p named_is in omega (arith, b.after_header)

  p_there : 1 ≤ times (block_of p) (positions (live new))
  p_there = subst (λ bs. 1 ≤ times (block_of p) (positions bs)) (sym then.live_is) (name_live allocator mid table s p named_is)

  spot_inside : IsInside new (block_of p) (p + index * 8) 8
  spot_inside =
      let whole = then.block (payload_size mid (block_of p)) (omega arith) in
      let o = p_is in
      record { low = omega arith; high = omega (arith, whole.room) }

  pub spot_within : IsWithin new (p + index * 8) 8
  spot_within =
      let in_heap = name_room allocator mid table s p named_is ((index + (1 + k)) * 8) room in
      record { fits = omega (arith, then.length_kept); small = then.heap.small }

  module _ (written : List ℕ) (writes : ChangesOnly new written (p + index * 8) 8) where
    header_same : (q m : ℕ) → q + m ≤ heap_start → IsSame new written q m
    header_same q m l = low_kept new written (p + index * 8) 8 writes allocator then.heap (block_of p) spot_inside p_there q m l

    still : (h : ℕ) → 1 ≤ times h (positions (live mid)) → 1 ≤ times h (positions (live new))
    still h some = subst (λ bs. 1 ≤ times h (positions bs)) (sym then.live_is) some

    names_then : target written index_cell ≡ Some p
    names_then = target-same new written index_cell (header_same index_cell 4 (omega arith)) ∙ then.named_then

    counts_then : count_at written index_cell ≡ index + (1 + k)
    counts_then = cell-count new written index_cell (header_same index_cell 8 (omega arith)) ∙ then.counted

    pub name_added : AddsName mid written table (live mid) index (p + index * 8)
    name_added =
        let start_old : start mid index_cell ≡ p = ap (λ o. unwrap_or o 0) named_is in
        let start_new : start written index_cell ≡ p = ap (λ o. unwrap_or o 0) names_then in
        record {
          changes = index_changes allocator mid table s p named_is written (index + (1 + k)) (writes.length_kept ∙ then.length_kept) (IsSame-trans mid new written 0 24 then.front_kept (header_same 0 24 (omega arith)))
              (IsSame-trans mid new written 28 4 then.middle_kept (header_same 28 4 (omega arith))) (IsSame-trans mid new written 40 664 then.back_kept (header_same 40 664 (omega arith)))
              (wrote_heap allocator new written table (block_of p) (p + index * 8) 8 then.heap writes spot_inside p_there)
              (wrote_live allocator new written table (block_of p) (p + index * 8) 8 then.heap writes spot_inside p_there ∙ then.live_is)
              (wrote_ownable allocator new written table (block_of p) (p + index * 8) 8 then.heap writes spot_inside p_there then.ownable)
              (λ h some other. kept_twice mid new written h (then.kept h some other) (wrote_other allocator new written table (block_of p) (p + index * 8) 8 then.heap writes spot_inside p_there h (still h some) other))
              names_then counts_then (wrote_block allocator new written table (block_of p) (p + index * 8) 8 then.heap writes spot_inside p_there p (tag_of Kind.index_buffer 0) ((index + (1 + k)) * 8)
              (sym p_is) (then.block ((index + (1 + k)) * 8) room));
          at_is = rw start_new refl;
          counted = omega (arith, counted, counts_then);
          before = λ i below. rw (start_old, start_new) (same_entry mid written (p + i * 8) (IsSame-trans mid new written (p + i * 8) 8 (then.before (p + i * 8) 8 (omega arith) (omega arith))
              (writes.others (p + i * 8) 8 (inl (omega arith)))));
          after = λ i low below. rw (start_old, start_new) (next i (i - index) low (omega (arith, counted)) (omega arith));
        }
      where
        next : (i j : ℕ) → index ≤ i → i < index + k → i ≡ index + j → IsSameEntry mid written (p + i * 8) (p + (i + 1) * 8)
        next i j low below e =
            let from_is : p + index * 8 + j * 8 ≡ p + i * 8 = omega arith in
            let to_is : p + index * 8 + 8 + j * 8 ≡ p + (i + 1) * 8 = omega arith in
            let start_old : start mid index_cell ≡ p = ap (λ o. unwrap_or o 0) named_is in
            let even = name_even allocator mid table s p named_is in
            let m = rw (from_is, to_is) at (then.entries j (omega arith) (λ t.
            let t' : target mid (p + i * 8) ≡ Some (p + (i + 1) * 8 + 1) = rw (from_is, to_is) at t in
            let a = s.aligned i (p + (i + 1) * 8 + 1) (omega (arith, counted)) (rw start_old t') in
            omega arith)) in
            let w = same_entry new written (p + (i + 1) * 8) (writes.others (p + (i + 1) * 8) 8 (inr (omega arith))) in
            (w.0 ∙ m.0, w.1 ∙ m.1)

module _ (allocator : ℕ) (old : List ℕ) (table : Table) (s : FindsNames allocator old table) where
  pub name_opened_by : (mid : List ℕ) (index each before at next kept len k step begin : ℕ) (moved new : List ℕ) → ReservesIndex allocator old mid table (entry_asks 0 old) ((count_at old index_cell + 1) * 8)
      → index ≤ count_at old index_cell → each ≡ 8 → before ≡ 0 → kept ≡ count_at old index_cell → len ≡ kept + 1 → begin ≡ start mid index_cell → k ≡ kept - index → step ≡ min (index + 1) 4294967295
      → at ≡ (begin + index * each) % 2 ^ 32 → next ≡ (begin + step * each) % 2 ^ 32
      → (before + 4 ≤ each → IsWithin mid at (k * each) → IsWithin mid next (k * each) → MovesPointers mid moved each before at next k) → new ≡ set_word moved (index_cell + 4) len → OpensName allocator old new table index at
  name_opened_by mid index each before at next kept len k step begin moved new r below each_is before_is kept_is len_is begin_is k_is step_is at_by next_by shifts new_is = go (target mid index_cell) refl
    where
      t : FindsNames allocator mid table
      t = finds_after allocator old mid table r.left s r.changes r.names

      has_room : (o : Option ℕ) → target mid index_cell ≡ o → MatchOption o ((count_at old index_cell + 1) * 8 ≡ 0) (λ p. (count_at old index_cell + 1) * 8 ≤ payload_size mid (block_of p))
      has_room o e = subst (λ x. MatchOption x ((count_at old index_cell + 1) * 8 ≡ 0) (λ p. (count_at old index_cell + 1) * 8 ≤ payload_size mid (block_of p))) e r.room

      go : (o : Option ℕ) → target mid index_cell ≡ o → OpensName allocator old new table index at
      go None e = let none : (count_at old index_cell + 1) * 8 ≡ 0 = has_room None e in absurd (omega arith)
      go (Some p) e =
          let begins : begin ≡ p = begin_is ∙ ap (λ o. unwrap_or o 0) e in
          let counts : count_at old index_cell + 1 ≡ index + (1 + k) = omega arith in
          let counted : count_at mid index_cell ≡ index + k = omega (arith, r.names.counted) in
          let room : (index + (1 + k)) * 8 ≤ payload_size mid (block_of p) = rw counts at (has_room (Some p) e) in
          let fits = name_room allocator mid table t p e ((index + (1 + k)) * 8) room in
          let low = t.heap.small in
          let even = name_even allocator mid table t p e in
          let step_by : step ≡ index + 1 = omega arith in
          let at_is : at ≡ p + index * 8 = rw (begins, each_is) at at_by ∙ omega arith in
          let next_is : next ≡ p + index * 8 + 8 = rw (begins, each_is, step_by) at next_by ∙ omega arith in
          let next_in : IsWithin mid next (k * each) = rw (next_is, each_is) (record { fits = omega arith; small = low }) in
          let at_in : IsWithin mid at (k * each) = rw (at_is, each_is) (record { fits = omega arith; small = low }) in
          let shifted = rw (at_is, next_is, each_is, before_is) at (shifts (omega arith) at_in next_in) in
          let len_by : len ≡ index + (1 + k) = omega arith in
          let set : new ≡ set_word moved (index_cell + 4) (index + (1 + k)) = rw len_by at new_is in
          record {
            left = r.left;
            left_is = r.left_is;
            aligned = rw at_is (omega arith);
            within = rw at_is (spot_within allocator mid table t p e index k counted room moved new shifted set);
            becomes = λ written writes. added p at_is (r.changes.live_is) written (name_added allocator mid table t p e index k counted room moved new shifted set written (rw at_is at writes));
          }
        where
          added : (p : ℕ) → at ≡ p + index * 8 → live mid ≡ r.left → (written : List ℕ) → AddsName mid written table (live mid) index (p + index * 8) → AddsName old written table r.left index at
          added p at_is left_is written a = record {
            changes = subst (λ bs. ChangesIndex old written table bs) left_is (index_twice allocator old mid written table r.left (live mid) s t r.changes a.changes);
            at_is = a.at_is ∙ sym at_is;
            counted = omega (arith, a.counted, r.names.counted);
            before = λ i l. let f = r.names.entries i (omega arith) in let n = a.before i l in (n.0 ∙ f.0, n.1 ∙ f.1);
            after = λ i low l. let f = r.names.entries i l in let n = a.after i low (omega (arith, r.names.counted)) in (n.0 ∙ f.0, n.1 ∙ f.1);
          }
