-- A root is added to a flat index, or removed.
use Rattle.std.proofs.Common.{◌≡◌, ◌≢◌, ℕ, zero, suc, ◌+◌, ◌-◌, ◌*◌, ◌<◌, ◌≤◌, inl, inr, true, false, List, [], ◌∷◌, ◌++◌, length, Option, Some, None, option_to_list, option_map, refl, sym, ap, ◌∙◌, subst, arith, length-append}
use Rattle.std.specs.Prelude.{◌==◌, slice_get}
use Rattle.std.proofs.lemmas.Bool.{cases_lt, cases_eq}
use Rattle.std.proofs.lemmas.Bool.Decides.{nat_tests}
use Rattle.seg_spec.specs.Bytes.{word, IsSame}
use Rattle.seg_spec.specs.Header.{index_kind_word, index_cell}
use Rattle.seg_spec.specs.Pointer.{target}
use Rattle.seg_spec.specs.Types.{Table}
use Rattle.seg_spec.specs.Heap.{Span, live}
use Rattle.seg_spec.specs.Block.{Kind, tag_of, block_of}
use Rattle.seg_spec.specs.Demand.{after_gives}
use Rattle.seg_spec.specs.Reads.{count_at, named, start, spaced, NamesRoom}
use Rattle.seg_spec.specs.Index.{Root, OpensIndex, IsEntry, ListsNames}
use Rattle.seg_spec.specs.Sound.{times, positions}
use Rattle.seg_spec.specs.Spending.{EntryBlocks, entry_asks, spent}
use Rattle.seg_spec.proofs.SliceLaws.{IsSame-part, IsSame-trans}
use Rattle.seg_spec.proofs.Values.PlaceFrameLaws.{word-same}
use Rattle.seg_spec.proofs.Heap.LiveBlockLaws.{times-same, times-other}
use Rattle.seg_spec.proofs.Heap.BlockFrameLaws.{kept_twice}
use Rattle.seg_value.specs.Names.{FindsNames, ChangesIndex, AddsName, OpensName, ClosesName, EmptiesIndex}
use Rattle.seg_cells.specs.NameEntries.{write_entry}
use Rattle.seg_index.specs.Lists.{entry_of, PartedNames, FindsNamesOf, MayEnter, ChangesNames, EntersName, LeavesName}
use Rattle.seg_index.proofs.EntryLaws.{entry_moved, entry_written, write_entry-changes}
use Rattle.seg_index.proofs.RootOrder.{InOrder, order_with, order_without, get_append, get_front, get_below, missing_within}
use Rattle.seg_index.proofs.FlatEntries.{Indexed, entries_of, flat_blocks, flat_length, flat_entry, flat_live, flat_order, object_lies}

-- ---- lists with one root more or less, by indices

-- each root of a list with one root more is before the new root, after it, or is the new root
pub with_at : (P : ℕ → Root → Type 0) (before : List Root) (root : Root) (after : List Root)
    → ((i : ℕ) (r : Root) → i < length before → slice_get (before ++ after) i ≡ Some r → P i r) → P (length before) root
    → ((i : ℕ) (r : Root) → length before ≤ i → slice_get (before ++ after) i ≡ Some r → P (i + 1) r)
    → (i : ℕ) (r : Root) → slice_get (before ++ root ∷ after) i ≡ Some r → P i r
with_at P before root after low here high i r e = elim (cases_lt i (length before)) [
  | inl h ↦ low i r h (get_front before after (root ∷ after) i h ∙ e)
  | inr h ↦ past h (i - length before) refl
]
  where
    past : length before ≤ i → (k : ℕ) → i - length before ≡ k → P i r
    past above zero d =
        let is : i ≡ length before + 0 = omega arith in
        let at : slice_get (root ∷ after) 0 ≡ Some r = sym (get_append before (root ∷ after) 0) ∙ ap (slice_get (before ++ root ∷ after)) (sym is) ∙ e in
        let same : root ≡ r = cc in
        let there : length before ≡ i = omega arith in
        subst (λ (s : Root). P i s) same (subst (λ j. P j root) there here)
    past above (suc k) d =
        let is : i ≡ length before + suc k = omega arith in
        let at : slice_get after k ≡ Some r = sym (get_append before (root ∷ after) (suc k)) ∙ ap (slice_get (before ++ root ∷ after)) (sym is) ∙ e in
        let next : length before + k + 1 ≡ i = omega arith in
        subst (λ j. P j r) next (high (length before + k) r (omega arith) (get_append before after k ∙ at))

-- each root of a list with one root less is before or after the removed root
pub without_at : (P : ℕ → Root → Type 0) (before : List Root) (root : Root) (after : List Root)
    → ((i : ℕ) (r : Root) → i < length before → slice_get (before ++ root ∷ after) i ≡ Some r → P i r)
    → ((i : ℕ) (r : Root) → length before ≤ i → slice_get (before ++ root ∷ after) (i + 1) ≡ Some r → P i r)
    → (i : ℕ) (r : Root) → slice_get (before ++ after) i ≡ Some r → P i r
without_at P before root after low high i r e = elim (cases_lt i (length before)) [
  | inl h ↦ low i r h (get_front before (root ∷ after) after i h ∙ e)
  | inr h ↦
      let is : length before + (i - length before) ≡ i = omega arith in
      let next : i + 1 ≡ length before + suc (i - length before) = omega arith in
      high i r h (ap (slice_get (before ++ root ∷ after)) next ∙ get_append before (root ∷ after) (suc (i - length before)) ∙ sym (get_append before after (i - length before)) ∙ ap (slice_get (before ++ after)) is ∙ e)
]

-- ---- the index after the change

module _ (old : List ℕ) (flat : word old index_kind_word ≡ 0) (new : List ℕ) (front : IsSame old new 0 24) where
  pub still_flat : word new index_kind_word ≡ 0
  still_flat = word-same old new index_kind_word (IsSame-part old new 0 24 index_kind_word 4 (omega arith) (omega arith) front) ∙ flat

  pub lists_then : (names : List Root) → NamesRoom new index_cell (tag_of Kind.index_buffer 0) 8 → (count_at new index_cell ≡ 0 → target new index_cell ≡ None) → length names ≡ count_at new index_cell
      → Indexed new (start new index_cell) names → InOrder names → ListsNames new names (named new index_cell)
  lists_then names room none long entries in_order = record {
    index = record { blocks = named new index_cell; entries = spaced (start new index_cell) 8 (count_at new index_cell) };
    opens = subst (λ kind. OpensIndex new kind (record { blocks = named new index_cell; entries = spaced (start new index_cell) 8 (count_at new index_cell) })) (sym still_flat)
        (record { named_room = room; none_if_empty = none; index_is = refl });
    entries = entries_of new (start new index_cell) (count_at new index_cell) names long entries;
    ascending = in_order;
    blocks_are = refl;
  }

-- a change of the flat index as a change of the index
pub index_names : (old new : List ℕ) (table : Table) (spans : List Span) (blocks : List ℕ) (names : List Root) → word old index_kind_word ≡ 0 → blocks ≡ named old index_cell → ChangesIndex old new table spans
    → ListsNames new names (named new index_cell)
    → ChangesNames old new table spans blocks names (named new index_cell)
index_names old new table spans blocks names flat is c lists = record {
  length_kept = c.length_kept;
  front_kept = c.front_kept;
  middle_kept = c.middle_kept;
  back_kept = c.back_kept;
  heap = c.heap;
  ownable = c.ownable;
  live_is = c.live_is;
  live_are = subst (λ bs. (h : ℕ) → times h (positions (live new)) + times h bs ≡ times h (positions (live old)) + times h (named new index_cell)) (sym is) c.live_are;
  kept = λ h some none. c.kept h some (subst (λ bs. times h bs ≡ 0) is none);
  nodes_kept = λ tree h own some. absurd (let e : 0 ≡ 1 = sym flat ∙ tree in cc);
  lists = lists;
}

-- ---- a root is added

module _ (allocator : ℕ) (old : List ℕ) (table : Table) (names : List Root) (blocks : List ℕ) (f : FindsNamesOf allocator old table names blocks) (flat : word old index_kind_word ≡ 0)
    (root : Root) where
  module _ (index : ℕ) (s : PartedNames names root.name index []) where
    pub index_within : index ≤ count_at old index_cell
    index_within = subst (λ k. index ≤ k) (flat_length allocator old table names blocks f flat) (missing_within names root.name index s)

    module _ (enters : MayEnter old table blocks root) (mid : List ℕ) (at : ℕ) (o : OpensName allocator old mid table index at) where
      abbrev new : List ℕ
      new = write_entry mid at (entry_of root)

      added : AddsName old new table o.left index at
      added = o.becomes new (write_entry-changes mid at (entry_of root))

      written : IsEntry new at root
      written =
          let lies = object_lies allocator old table names blocks f flat root enters.named in
          entry_written mid at root o.within lies.1 (λ e. omega (arith, o.aligned, lies.0)) enters.is_name enters.no_words enters.some enters.few

      -- the entries before the change
      was : (i : ℕ) (r : Root) → slice_get (s.before ++ s.after) i ≡ Some r → IsEntry old (start old index_cell + i * 8) r
      was i r e = flat_entry allocator old table names blocks f flat i r (ap (λ rs. slice_get rs i) s.names_are ∙ e)

      is_below : (i : ℕ) (r : Root) → slice_get (s.before ++ s.after) i ≡ Some r → i < count_at old index_cell
      is_below i r e = subst (λ k. i < k) (sym (ap length s.names_are) ∙ flat_length allocator old table names blocks f flat) (get_below (s.before ++ s.after) i r e)

      indexed : Indexed new (start new index_cell) (s.before ++ root ∷ s.after)
      indexed = with_at (λ i r. IsEntry new (start new index_cell + i * 8) r) s.before root s.after
          (λ i r h e. entry_moved old new (start old index_cell + i * 8) (start new index_cell + i * 8) r (added.before i (omega (arith, s.index_is))) (was i r e))
          (let here : at ≡ start new index_cell + length s.before * 8 = sym added.at_is ∙ ap (λ j. start new index_cell + j * 8) s.index_is in subst (λ p. IsEntry new p root) here written)
          (λ i r h e. entry_moved old new (start old index_cell + i * 8) (start new index_cell + (i + 1) * 8) r (added.after i (omega (arith, s.index_is)) (is_below i r e)) (was i r e))

      long : length (s.before ++ root ∷ s.after) ≡ count_at new index_cell
      long =
          let one = length-append s.before (root ∷ s.after) in
          let two = length-append s.before s.after in
          let all = ap length s.names_are in
          let n = flat_length allocator old table names blocks f flat in
          omega (arith, added.counted)

      some_now : count_at new index_cell ≡ 0 → target new index_cell ≡ None
      some_now e = absurd (omega (arith, added.counted))

      pub name_entered : EntersName allocator old (write_entry mid at (entry_of root)) table names blocks root
      name_entered = record {
        before = s.before;
        after = s.after;
        names_are = s.names_are;
        left = o.left;
        left_is = subst (λ kind. spent allocator (live old) (length old) (entry_asks kind old) [] ≡ Some o.left) (sym flat) o.left_is;
        others = named new index_cell;
        changes = index_names old new table o.left blocks (s.before ++ root ∷ s.after) flat (flat_blocks allocator old table names blocks f flat) added.changes
            (lists_then old flat new added.changes.front_kept (s.before ++ root ∷ s.after) added.changes.room some_now long indexed
            (order_with s.before root s.after (subst InOrder s.names_are (flat_order allocator old table names blocks f flat)) s.low s.high));
      }

  -- ---- a root is removed

  module _ (index : ℕ) (s : PartedNames names root.name index (root ∷ [])) (mid : List ℕ) (closes : ClosesName old mid table index) where
    abbrev c : ChangesIndex old mid table (live old)
    c = closes.changes

    abbrev left : List Root
    left = s.before ++ s.after

    abbrev blocks_are : blocks ≡ named old index_cell
    blocks_are = flat_blocks allocator old table names blocks f flat

    had : (i : ℕ) (r : Root) → slice_get (s.before ++ root ∷ s.after) i ≡ Some r → IsEntry old (start old index_cell + i * 8) r
    had i r e = flat_entry allocator old table names blocks f flat i r (ap (λ rs. slice_get rs i) s.names_are ∙ e)

    had_below : (i : ℕ) (r : Root) → slice_get (s.before ++ root ∷ s.after) i ≡ Some r → i < count_at old index_cell
    had_below i r e = subst (λ k. i < k) (sym (ap length s.names_are) ∙ flat_length allocator old table names blocks f flat) (get_below (s.before ++ root ∷ s.after) i r e)

    left_indexed : Indexed mid (start mid index_cell) (s.before ++ s.after)
    left_indexed = without_at (λ i r. IsEntry mid (start mid index_cell + i * 8) r) s.before root s.after
        (λ i r h e. entry_moved old mid (start old index_cell + i * 8) (start mid index_cell + i * 8) r (closes.before i (omega (arith, s.index_is))) (had i r e))
        (λ i r h e. let inside = had_below (i + 1) r e in
        entry_moved old mid (start old index_cell + (i + 1) * 8) (start mid index_cell + i * 8) r (closes.after i (omega (arith, s.index_is)) (omega (arith, closes.counted))) (had (i + 1) r e))

    left_long : length (s.before ++ s.after) ≡ count_at mid index_cell
    left_long =
        let one = length-append s.before (root ∷ s.after) in
        let two = length-append s.before s.after in
        let all = ap length s.names_are in
        let n = flat_length allocator old table names blocks f flat in
        omega (arith, closes.counted)

    left_order : InOrder (s.before ++ s.after)
    left_order = order_without s.before root s.after (subst InOrder s.names_are (flat_order allocator old table names blocks f flat))

    -- other roots remain
    pub name_left : count_at mid index_cell ≢ 0 → LeavesName old mid table names blocks root
    name_left some = record {
      before = s.before;
      after = s.after;
      names_are = s.names_are;
      gives = [];
      entry =
          let test : (count_at old index_cell == 1) ≡ false = (let more : count_at old index_cell ≢ 1 = (λ e. some (omega (arith, closes.counted))) in grind (arith, nat_tests)) in
          subst (λ kind. EntryBlocks kind old blocks root []) (sym flat) (rw test refl);
      others = named mid index_cell;
      changes = index_names old mid table (live old) blocks (s.before ++ s.after) flat blocks_are c
          (lists_then old flat mid c.front_kept (s.before ++ s.after) c.room (λ e. absurd (some e)) left_long left_indexed left_order);
    }

    -- ---- the last root is removed, and the buffer is freed

    -- the cell still points to the buffer
    same_buffer : named mid index_cell ≡ named old index_cell
    same_buffer = one_block (target mid index_cell) (target old index_cell) (λ h.
        let are = c.live_are h in
        let same = ap (λ bs. times h (positions bs)) c.live_is in
        omega arith)
      where
        one_block : (p q : Option ℕ) → ((h : ℕ) → times h (option_to_list (option_map block_of p)) ≡ times h (option_to_list (option_map block_of q)))
            → option_to_list (option_map block_of p) ≡ option_to_list (option_map block_of q)
        one_block None None f = refl
        one_block None (Some q) f = absurd (omega (arith, f (block_of q), times-same (block_of q) []))
        one_block (Some p) None f = absurd (omega (arith, f (block_of p), times-same (block_of p) []))
        one_block (Some p) (Some q) f = elim (cases_eq (block_of q) (block_of p)) [
          | inl e ↦ ap (λ h. h ∷ []) (sym e)
          | inr ne ↦ absurd (omega (arith, f (block_of p), times-same (block_of p) [], times-other (block_of p) (block_of q) [] ne))
        ]

    -- the state in which the call that frees the buffer begins
    pub left_finds : count_at mid index_cell ≡ 0 → FindsNames allocator mid table
    left_finds none =
        let allocator_is = word-same old mid 16 (IsSame-part old mid 0 24 16 4 (omega arith) (omega arith) c.front_kept) in
        record {
          heap = rw f.allocator_is at c.heap;
          allocator_is = allocator_is ∙ f.allocator_is;
          ownable = c.ownable;
          room = c.room;
          is_live = λ h some. omega (arith, c.live_are h, flat_live allocator old table names blocks f flat h);
          aligned = λ i t below e. absurd (omega arith);
        }

    module _ (none : count_at mid index_cell ≡ 0) (new : List ℕ) (e : EmptiesIndex mid new table) where
      abbrev d : ChangesIndex mid new table (after_gives (live mid) (named mid index_cell))
      d = e.changes

      front : IsSame old new 0 24
      front = IsSame-trans old mid new 0 24 c.front_kept d.front_kept

      no_names : s.before ++ s.after ≡ []
      no_names = empty (s.before ++ s.after) (left_long ∙ none)
        where
          empty : (rs : List Root) → length rs ≡ 0 → rs ≡ []
          empty [] e = refl
          empty (r ∷ rs) e = absurd (omega arith)

      none_now : Indexed new (start new index_cell) (s.before ++ s.after)
      none_now i r at = let past : slice_get (s.before ++ s.after) i ≡ None = ap (λ rs. slice_get rs i) no_names in cc

      both : ChangesIndex old new table (after_gives (live old) (named old index_cell))
      both = record {
        length_kept = d.length_kept ∙ c.length_kept;
        front_kept = front;
        middle_kept = IsSame-trans old mid new 28 4 c.middle_kept d.middle_kept;
        back_kept = IsSame-trans old mid new 40 664 c.back_kept d.back_kept;
        heap = rw (word-same old mid 16 (IsSame-part old mid 0 24 16 4 (omega arith) (omega arith) c.front_kept)) at d.heap;
        ownable = d.ownable;
        live_is = d.live_is ∙ (λ i. after_gives (c.live_is i) (same_buffer i));
        live_are = λ h. omega (arith, c.live_are h, d.live_are h);
        kept = λ h some zero. kept_twice old mid new h (c.kept h some zero) (d.kept h (subst (λ bs. 1 ≤ times h (positions bs)) (sym c.live_is) some) (subst (λ bs. times h bs ≡ 0) (sym same_buffer) zero));
        room = d.room;
      }

      pub last_left : LeavesName old new table names blocks root
      last_left = record {
        before = s.before;
        after = s.after;
        names_are = s.names_are;
        gives = named old index_cell;
        entry =
            let test : (count_at old index_cell == 1) ≡ true = (let one : count_at old index_cell ≡ 1 = omega (arith, closes.counted) in grind (arith, nat_tests)) in
            subst (λ kind. EntryBlocks kind old blocks root (named old index_cell)) (sym flat) (rw test refl);
        others = named new index_cell;
        changes = index_names old new table (after_gives (live old) (named old index_cell)) blocks (s.before ++ s.after) flat blocks_are both
            (lists_then old flat new front (s.before ++ s.after) d.room (λ e'. e.names_none) (left_long ∙ none ∙ sym e.counts_none) none_now left_order);
      }
