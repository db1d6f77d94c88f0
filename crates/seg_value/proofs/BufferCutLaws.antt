-- Buffers that are cut or freed, from how the steps of the calls change the bytes.
use Rattle.std.proofs.Common.{◌≡◌, ◌≢◌, ℕ, zero, suc, ◌+◌, ◌-◌, ◌*◌, ◌^◌, ◌<◌, ◌≤◌, ◌⊎◌, inl, inr, true, List, [], ◌∷◌, ◌++◌, length, min, Some, None, option_map, option_to_list, refl, sym, ap, ◌∙◌, subst, arith, zero-add}
use Rattle.std.specs.Prelude.{Contains, slice_get}
use Rattle.std.specs.List.{AllByRecursion}
use Rattle.std.specs.Option.{option_map_or}
use Rattle.std.proofs.Math.Nat.{mul-one, zero-mul, mul-le-mul_right}
use Rattle.std.proofs.lemmas.Bool.{cases_eq}
use Rattle.std.proofs.lemmas.Bool.Decides.{nat_tests}
use Rattle.seg_spec.specs.Bytes.{Agrees, IsSame, ChangesOnly}
use Rattle.seg_spec.specs.Header.{KeepsFront, KeepsBack}
use Rattle.seg_spec.specs.Pointer.{target, set_pointer, distance}
use Rattle.seg_spec.specs.Types.{Form, Table, IsTable, form_at, size}
use Rattle.seg_spec.specs.Value.{Value}
use Rattle.seg_spec.specs.Heap.{Span, span, units_at, live, room_at, gaps_of, IsHeap, IsLive, Gives, Shrinks, resized, without, after_shrink, shrunk, heap_start}
use Rattle.seg_spec.specs.Block as block
use Rattle.seg_spec.specs.Block.{tag_of, block_of, has_buffer, IsBlock, IsOwnable, KeepsBlock, payload_size}
use Rattle.seg_spec.specs.Reads.{Place, Opened, count_at, start, named, spaced, keys_at, NamesRoom, Opens, Holds, holds, here, into}
use Rattle.seg_spec.specs.Sound.{times, positions}
use Rattle.seg_spec.specs.Roots.{ChangesPlace}
use Rattle.seg_spec.specs.Demand.{need}
use Rattle.seg_spec.specs.Parts.{PersistEach, persist_none, KeepsAllParts}
use Rattle.seg_spec.specs.Owning.{Stands}
use Rattle.seg_spec.specs.Spending.{item_size, units_named, cut_to}
use Rattle.seg_spec.specs.Shrinking.{KeepsPathsInside, ShrinksPlace}
use Rattle.seg_spec.proofs.BytesLaws.{slice-agrees, number-agrees, number-set_other}
use Rattle.seg_spec.proofs.SliceLaws.{IsSame-part, IsSame-none}
use Rattle.seg_spec.proofs.PointerLaws.{target-set_same}
use Rattle.seg_spec.proofs.Tables.TypeSizeLaws.{size_large}
use Rattle.seg_spec.proofs.Values.PlaceFrameLaws.{SamePlace, cell-target, cell-count, keys_at-same, spaced-same, inner-same, places-same, shorter, HoldsEach-kept, PersistEach-kept, parts_unchanged}
use Rattle.seg_spec.proofs.Heap.LiveBlockLaws.{times-same, times-other, times-append, times-more, times-without, there, each_there, LiesIn, live-lie, live-once, positions-resized}
use Rattle.seg_spec.proofs.Heap.KeptBlockLaws.{each_contained, StatesSpan, live_stated, block_kept, block_ownable, front_kept}
use Rattle.seg_spec.proofs.Deallocation.BlockFreeLaws.{found}
use Rattle.seg_spec.proofs.Heap.BlockSizeLaws.{resized_here, resized_other}
use Rattle.seg_spec.proofs.Images.RootWriteLaws.{set_number-changes}
use Rattle.seg_spec.proofs.Values.CellChangeLaws.{ChangesOnly-none, ChangesOnly-wider}
use Rattle.seg_spec.proofs.Heap.BlockFrameLaws.{around_kept}
use Rattle.seg_spec.proofs.Values.PlaceWriteLaws.{home_live, owned_live, owned_other, place_within, live_then, whole_then, changes_place}
use Rattle.seg_spec.proofs.Values.PathSplitLaws.{opened_as}
use Rattle.seg_spec.proofs.Values.PathFrameLaws.{Leads-each}
use Rattle.seg_spec.proofs.Values.CallPlaceLaws.{Frames, frames_twice, each_live_at, live_at, same_place, written_stands, written_frames, written_home, left_stands, left_place, left_frames, changes_of}
use Rattle.seg_cells.specs.declared.content.Content.{Content}
use Rattle.seg_cells.specs.Contents.{ContentOf}
use Rattle.seg_spec.proofs.Values.BufferLaws.{HoldsEntries, Buffered, buffered, holds_buffered, entry_places, entries_kept, entries_none, no_places, opens_entries, all_entries_stay}

-- ---- entries that don't move

module _ (old new : List ℕ) (table : Table) (valid : IsTable table) (place : Place) (cell : IsSame old new place.at 8) where
  pub record StaysOpen (form : Form) (opened : Opened) : Type 0 where
    pub opens : Opens new table place form opened
    pub parts : AllByRecursion (SamePlace old new table) opened.parts

  pub open_again : (form : Form) (opened : Opened) → has_buffer (Some form) ≡ true → NamesRoom new place.at (tag_of block.Kind.buffer place.type) (item_size table form)
      → IsSame old new (start old place.at) (count_at old place.at * item_size table form) → Opens old table place form opened → StaysOpen form opened
  open_again Form.i64 opened b room same o = absurd (cc)
  open_again (Form.list U) opened b room same o = absurd (cc)
  open_again (Form.map U) opened b room same o = absurd (cc)
  open_again (Form.own U) opened b room same o = absurd (cc)
  open_again (Form.shared U) opened b room same o = absurd (cc)
  open_again (Form.struct Us) opened b room same o = absurd (cc)
  open_again Form.str opened b room same o =
      let text : IsSame old new (start old place.at) (count_at old place.at) = rw mul-one at same in
      record {
        opens = record { named_room = room; ascending = tt; opened_is = rw (cell-target old new place.at cell, cell-count old new place.at cell, text) o.opened_is };
        parts = rw (ap (λ (r : Opened). r.parts) o.opened_is) tt;
      }
  open_again (Form.vec U) opened b room same o = record {
    opens = record { named_room = room; ascending = tt; opened_is = rw (cell-target old new place.at cell, cell-count old new place.at cell) o.opened_is };
    parts = rw (ap (λ (r : Opened). r.parts) o.opened_is) (places-same old new table valid U _ (spaced-same old new (start old place.at) (size table U) (count_at old place.at) same));
  }
  open_again (Form.flat_map U) opened b room same o =
      let each = 8 + size table U in
      let entries = spaced (start old place.at) each (count_at old place.at) in
      let all : AllByRecursion (λ p. IsSame old new p each) entries = spaced-same old new (start old place.at) each (count_at old place.at) same in
      let keys : keys_at new entries ≡ keys_at old entries = keys_at-same old new entries (shorter old new table valid each 8 entries (omega arith) all) in
      record {
        opens = record {
          named_room = room;
          ascending = rw (cell-target old new place.at cell, cell-count old new place.at cell, keys) o.ascending;
          opened_is = rw (cell-target old new place.at cell, cell-count old new place.at cell, keys) o.opened_is;
        };
        parts = rw (ap (λ (r : Opened). r.parts) o.opened_is) (inner-same old new table valid U 8 each entries (omega arith) all);
      }

-- a place with a buffer owns the buffer's block, apart from what its items own
names_buffer : (old : List ℕ) (table : Table) (place : Place) (form : Form) (opened : Opened) → has_buffer (Some form) ≡ true → Opens old table place form opened → opened.blocks ≡ named old place.at
names_buffer old table place Form.i64 opened b o = absurd (cc)
names_buffer old table place (Form.list U) opened b o = absurd (cc)
names_buffer old table place (Form.map U) opened b o = absurd (cc)
names_buffer old table place (Form.own U) opened b o = absurd (cc)
names_buffer old table place (Form.shared U) opened b o = absurd (cc)
names_buffer old table place (Form.struct Us) opened b o = absurd (cc)
names_buffer old table place Form.str opened b o = ap (λ (r : Opened). r.blocks) o.opened_is
names_buffer old table place (Form.vec U) opened b o = ap (λ (r : Opened). r.blocks) o.opened_is
names_buffer old table place (Form.flat_map U) opened b o = ap (λ (r : Opened). r.blocks) o.opened_is

-- a place with a buffer that has no entries has no places inside
no_parts_inside : (old : List ℕ) (table : Table) (place : Place) (form : Form) (opened : Opened) → has_buffer (Some form) ≡ true → count_at old place.at ≡ 0 → Opens old table place form opened → opened.parts ≡ []
no_parts_inside old table place Form.i64 opened b none o = absurd (cc)
no_parts_inside old table place (Form.list U) opened b none o = absurd (cc)
no_parts_inside old table place (Form.map U) opened b none o = absurd (cc)
no_parts_inside old table place (Form.own U) opened b none o = absurd (cc)
no_parts_inside old table place (Form.shared U) opened b none o = absurd (cc)
no_parts_inside old table place (Form.struct Us) opened b none o = absurd (cc)
no_parts_inside old table place Form.str opened b none o = ap (λ (r : Opened). r.parts) o.opened_is
no_parts_inside old table place (Form.vec U) opened b none o = rw none at (ap (λ (r : Opened). r.parts) o.opened_is)
no_parts_inside old table place (Form.flat_map U) opened b none o = rw none at (ap (λ (r : Opened). r.parts) o.opened_is)

shrunk_between : (x room u : ℕ) → u ≤ x → (u ≤ shrunk x room u) × (shrunk x room u ≤ x)
shrunk_between x room u l = (grind (arith, nat_tests), grind (arith, nat_tests))

mul-le-mul_one : (a b : ℕ) → 1 ≤ a → 1 ≤ b → 1 ≤ a * b
mul-le-mul_one a b l m = let k = mul-le-mul_right b l in omega arith

-- the size of an entry, by the form of the type
pub entry_bytes : (table : Table) (T : ℕ) (form : Form) (content : Content) → form_at table T ≡ Some form → has_buffer (Some form) ≡ true → ContentOf table T (form_at table T) (Some content) → content.entry.size ≡ item_size table form
entry_bytes table T form content f b c = go form b (subst (λ o. ContentOf table T o (Some content)) f c)
  where
    go : (form : Form) → has_buffer (Some form) ≡ true → ContentOf table T (Some form) (Some content) → content.entry.size ≡ item_size table form
    go Form.i64 b c = absurd c
    go (Form.struct Us) b c = absurd c
    go (Form.list U) b c = absurd (cc)
    go (Form.map U) b c = absurd (cc)
    go (Form.own U) b c = absurd (cc)
    go (Form.shared U) b c = absurd (cc)
    go Form.str b c = c.size_is
    go (Form.vec U) b c = c.entry_is.size_is ∙ zero-add (size table U)
    go (Form.flat_map U) b c = c.entry_is.size_is

-- ---- the place afterwards

module _ (allocator : ℕ) (old : List ℕ) (table : Table) (place : Place) (form : Form) (v : Value) (blocks : List ℕ) (f : form_at table place.type ≡ Some form) (b : has_buffer (Some form) ≡ true)
    (s : Stands allocator old table place v blocks) where
  -- the place still contains its value, and its buffer is no larger than needed
  abbrev pub Left : List ℕ → Type 0
  Left new = (others : List ℕ) × ShrinksPlace old new table place form v blocks others

  its : Buffered old table place form v blocks
  its = buffered old table place form v blocks f b s.holds_it

  solid : (h : ℕ) → 1 ≤ times h (positions (live old)) → 2 ≤ units_at old h
  solid h some = (there (LiesIn old heap_start (length old)) h (positions (live old)) (live-lie old allocator s.heap) some).size

  -- a place without a buffer doesn't change
  pub left_alone : target old place.at ≡ None → Left old
  left_alone e = (
    blocks,
    record {
      changes = subst (λ bs. ChangesPlace old old table place v blocks bs blocks blocks) (sym nothing)
          (changes_place allocator old table place v blocks s old (ChangesOnly-none old place.at (size table place.type)) v blocks blocks s.holds_it);
      paths = λ path inner l. l;
      parts = parts_unchanged old table s.is_table s.holds_it;
    },
  )
    where
      nothing : cut_to (live old) (length old) (target old place.at) (units_named old place.at) (count_at old place.at * item_size table form) ≡ live old
      nothing = rw e refl

  module _ (p : ℕ) (names : target old place.at ≡ Some p) where
    named_is : named old place.at ≡ block_of p ∷ []
    named_is = ap (λ o. option_to_list (option_map block_of o)) names

    block_is : IsBlock old p (tag_of block.Kind.buffer place.type) (count_at old place.at * item_size table form)
    block_is = rw names at its.room

    mine : 1 ≤ times (block_of p) blocks
    mine = rw (its.blocks_are, names) (omega (arith, times-same (block_of p) its.owned))

    pub buffer_live : 1 ≤ times (block_of p) (positions (live old))
    buffer_live = owned_live allocator old table place v blocks s (block_of p) mine

    not_home : block_of p ≢ s.home
    not_home = owned_other allocator old table place v blocks s (block_of p) mine

    -- ---- a buffer that is cut in place

    module _ (n : ℕ) (n_is : n ≡ count_at old place.at * item_size table form) (some : 1 ≤ n) (x : ℕ) (it : Contains (live old) (span (block_of p) x)) (new : List ℕ)
        (cut : Shrinks allocator old new (block_of p) x (need n)) (fits : need n ≤ x) where
      units : ℕ
      units = shrunk x (room_at (gaps_of (live old) (length old)) (block_of p + 16 * x)) (need n)

      live_is : live new ≡ resized (block_of p) units (live old)
      unfolding units
      live_is = cut.shrinks

      between : (need n ≤ units) × (units ≤ x)
      unfolding units
      between = shrunk_between x (room_at (gaps_of (live old) (length old)) (block_of p + 16 * x)) (need n) fits

      here_now : Contains (live new) (span (block_of p) units)
      here_now = rw live_is (resized_here (block_of p) units (live old) (span (block_of p) x) it refl)

      states_new : StatesSpan new (length new) (span (block_of p) units)
      states_new = each_contained (StatesSpan new (length new)) (live new) (span (block_of p) units) (live_stated new allocator cut.heap) here_now

      states_old : StatesSpan old (length old) (span (block_of p) x)
      states_old = each_contained (StatesSpan old (length old)) (live old) (span (block_of p) x) (live_stated old allocator s.heap) it

      other_kept : (h : ℕ) → 1 ≤ times h (positions (live old)) → h ≢ block_of p → KeepsBlock old new h
      other_kept h there_is ne =
          let k = found h (live old) there_is in
          let still : Contains (live new) k.block = rw live_is (resized_other (block_of p) units (live old) k.block k.among (λ e. ne (sym k.at_is ∙ e))) in
          subst (KeepsBlock old new) k.at_is (block_kept old new allocator allocator k.block k.block s.heap cut.heap cut.kept k.among still refl (omega arith))

      ownable_now : (h : ℕ) → 1 ≤ times h (positions (live new)) → IsOwnable new table h
      ownable_now h now =
          let was : 1 ≤ times h (positions (live old)) = subst (λ ps. 1 ≤ times h ps) (ap positions live_is ∙ positions-resized (block_of p) units (live old)) now in
          let k = found h (live old) was in
          let o : IsOwnable old table k.block.at = rw k.at_is (live_at (IsOwnable old table) (live old) h s.ownable was) in
          subst (IsOwnable new table) k.at_is (go k.block k.among o (cases_eq k.block.at (block_of p)))
        where
          go : (d : Span) → Contains (live old) d → IsOwnable old table d.at → (d.at ≡ block_of p) ⊎ (d.at ≢ block_of p) → IsOwnable new table d.at
          go d among o (inl e) = block_ownable old new allocator allocator table d (span (block_of p) units) s.heap cut.heap cut.kept among here_now e o
          go d among o (inr ne) = block_ownable old new allocator allocator table d d s.heap cut.heap cut.kept among (rw live_is (resized_other (block_of p) units (live old) d among ne)) refl o

      home_kept : KeepsBlock old new s.home
      home_kept = other_kept s.home (home_live allocator old table place v blocks s) (λ e. not_home (sym e))

      cell_same : IsSame old new place.at 8
      cell_same =
          let large = size_large table s.is_table place.type in
          IsSame-part old new place.at (size table place.type) place.at 8 (omega arith) (omega arith) (same_place allocator old table place v blocks s new home_kept)

      agrees : Agrees old new (block_of p + 8) (block_of p + 16 * min x units)
      agrees = cut.kept.blocks_kept (span (block_of p) x) (span (block_of p) units) it here_now refl

      entries_same : IsSame old new p n
      entries_same =
          let following = block_is.after_header in
          let least = between in
          let large = states_old.high in
          slice-agrees old new (block_of p + 8) (block_of p + 16 * min x units) p n agrees (omega arith) (omega arith) (omega arith)

      tag_same : IsBlock new p (tag_of block.Kind.buffer place.type) n
      tag_same =
          let least = between in
          let large = states_old.high in
          let is_units = states_new.units_is in
          record {
            after_header = block_is.after_header;
            live = states_new.live_is;
            has_tag = number-agrees old new (block_of p + 8) (block_of p + 16 * min x units) 4 (block_of p + 8) agrees (omega arith) (omega arith) ∙ block_is.has_tag;
            room = omega arith;
          }

      room_now : NamesRoom new place.at (tag_of block.Kind.buffer place.type) (item_size table form)
      room_now = rw (cell-target old new place.at cell_same, cell-count old new place.at cell_same, names, ← n_is) tag_same

      same_entries : IsSame old new (start old place.at) (count_at old place.at * item_size table form)
      same_entries = rw (names, ← n_is) entries_same

      again : (opened : Opened) → Opens old table place form opened → StaysOpen old new table s.is_table place cell_same form opened
      again opened o = open_again old new table s.is_table place cell_same form opened b room_now same_entries o

      -- the blocks of the values inside are kept
      inside_kept : (opened : Opened) (owned : List ℕ) → Opens old table place form opened → blocks ≡ opened.blocks ++ owned → AllByRecursion (KeepsBlock old new) owned
      inside_kept opened owned o blocks_are = each_there (KeepsBlock old new) owned (λ h some_of. one h some_of (cases_eq h (block_of p)))
        where
          all : (h : ℕ) → times h blocks ≡ times h (block_of p ∷ []) + times h owned
          all h = ap (times h) (blocks_are ∙ ap (λ bs. bs ++ owned) (names_buffer old table place form opened b o ∙ named_is)) ∙ times-append h (block_of p ∷ []) owned

          one : (h : ℕ) → 1 ≤ times h owned → (h ≡ block_of p) ⊎ (h ≢ block_of p) → KeepsBlock old new h
          one h some_of (inl e) =
              let twice : 1 ≤ times (block_of p) owned = subst (λ y. 1 ≤ times y owned) e some_of in
              absurd (omega (arith, all (block_of p), times-same (block_of p) [], s.owned (block_of p), times-more (block_of p) s.home blocks, live-once old allocator s.heap (block_of p)))
          one h some_of (inr ne) = other_kept h (owned_live allocator old table place v blocks s h (omega (arith, all h))) ne

      holds_now : Holds new table place v blocks
      holds_now = go s.holds_it
        where
          same_form : (g : Form) → form_at table place.type ≡ Some g → g ≡ form
          same_form g e = let k : Some g ≡ Some form = sym e ∙ f in cc

          go : Holds old table place v blocks → Holds new table place v blocks
          go (holds g opened inside owned e o hs v_is blocks_is) =
              let o' = subst (λ h. Opens old table place h opened) (same_form g e) o in
              let r = again opened o' in
              holds form opened inside owned f r.opens (HoldsEach-kept old new table s.is_table hs r.parts (inside_kept opened owned o' blocks_is)) v_is blocks_is

      paths_now : KeepsPathsInside old new table place
      paths_now path inner here = here
      paths_now path inner (into g opened i part e o index is rest) =
          let same_form : g ≡ form = (let k : Some g ≡ Some form = sym e ∙ f in cc) in
          let o' = subst (λ h. Opens old table place h opened) same_form o in
          let as_opened = opened_as old table form opened f o' s.holds_it in
          let r = again opened o' in
          into form opened i part f r.opens index is
          (Leads-each old new table s.is_table part i as_opened.each is r.parts (inside_kept opened as_opened.owned o' as_opened.blocks_are) rest)

      parts_now : KeepsAllParts old new table place
      parts_now =
          let o = opens_entries old table place form v blocks f b s.holds_it in
          let as_opened = opened_as old table form o.opened f o.opens s.holds_it in
          let r = again o.opened o.opens in
          let n = opens_entries new table place form v blocks f b holds_now in
          let each : PersistEach old new table o.opened.parts o.opened.parts =
          PersistEach-kept old new table s.is_table as_opened.each r.parts (inside_kept o.opened as_opened.owned o.opens as_opened.blocks_are) in
          let there_too : entry_places table form (start new place.at) (count_at new place.at) ≡ entry_places table form (start old place.at) (count_at old place.at) =
          rw (cell-target old new place.at cell_same, cell-count old new place.at cell_same) refl in
          all_entries_stay old new table place form v v blocks blocks f b s.holds_it holds_now
          (subst (λ ps. PersistEach old new table (entry_places table form (start old place.at) (count_at old place.at)) ps) (sym there_too)
          (subst (λ ps. PersistEach old new table ps ps) o.parts_are each))

      front : KeepsFront old new × KeepsBack old new
      front =
          let l = there (LiesIn old heap_start (length old)) (block_of p) (positions (live old)) (live-lie old allocator s.heap) buffer_live in
          front_kept old new cut.kept (omega (arith, l.low, l.high))

      spans_are : live new ≡ cut_to (live old) (length old) (target old place.at) (units_named old place.at) (count_at old place.at * item_size table form)
      spans_are =
          let u : units_named old place.at ≡ x = ap (λ o. option_map_or (λ q. units_at old (block_of q)) o 0) names ∙ states_old.units_is in
          cut.shrinks ∙ sym (ap (λ o. cut_to (live old) (length old) o (units_named old place.at) (count_at old place.at * item_size table form)) names
          ∙ ap (λ k. cut_to (live old) (length old) (Some p) k (count_at old place.at * item_size table form)) u ∙ ap (cut_to (live old) (length old) (Some p) x) (sym n_is) ∙ positive n some)
        where
          positive : (m : ℕ) → 1 ≤ m → cut_to (live old) (length old) (Some p) x m ≡ after_shrink (live old) (length old) (block_of p) x (need m)
          positive zero l = absurd (omega arith)
          positive (suc m) l = refl

      pub cut_down : Left new
      cut_down = (
        blocks,
        record {
          changes = record {
            length_kept = cut.kept.front_kept.length_kept;
            front_kept = front.0;
            back_kept = front.1;
            heap = subst (λ a. IsHeap a new) (sym s.allocator_is) cut.heap;
            ownable = each_live_at (IsOwnable new table) (live new) ownable_now;
            holds_it = holds_now;
            live_is = spans_are;
            live_are = λ h. ap (λ ps. times h ps + times h blocks) (ap positions live_is ∙ positions-resized (block_of p) units (live old));
            kept = λ h there_is away. around_kept old new place.at (size table place.type) h (let t = solid h there_is in omega arith) (other_kept h there_is (not_it h away));
          };
          paths = paths_now;
          parts = parts_now;
        },
      )
        where
          not_it : (h : ℕ) → times h blocks ≡ 0 → h ≢ block_of p
          not_it h away e = let none : times (block_of p) blocks ≡ 0 = subst (λ y. times y blocks ≡ 0) e away in omega (arith, mine)

    -- the block is cut as the code computes its size
    pub cut_at : (kept each units at : ℕ) (new : List ℕ) → kept ≡ count_at old place.at → each ≡ item_size table form → 1 ≤ kept → 1 ≤ each → (kept * each < 2 ^ 32 → units ≡ need (kept * each)) → at ≡ p - 16
        → ((x : ℕ) → IsHeap allocator old → Contains (live old) (span at x) → units ≤ x → Shrinks allocator old new at x units) → Left new
    cut_at kept each units at new kept_is each_is some large units_by at_is shrinks =
        let n_is : kept * each ≡ count_at old place.at * item_size table form = ap (λ k. k * each) kept_is ∙ ap (λ k. count_at old place.at * k) each_is in
        let more : 1 ≤ kept * each = mul-le-mul_one kept each some large in
        let k = found (block_of p) (live old) buffer_live in
        let stated = each_contained (StatesSpan old (length old)) (live old) k.block (live_stated old allocator s.heap) k.among in
        let it : Contains (live old) (span (block_of p) k.block.units) = subst (λ y. Contains (live old) (span y k.block.units)) k.at_is k.among in
        let states : units_at old (block_of p) ≡ k.block.units = ap (units_at old) (sym k.at_is) ∙ stated.units_is in
        let room = block_is.room in
        let high = stated.high in
        let two = stated.size in
        let tiny = s.heap.small in
        let units_is : units ≡ need (kept * each) = units_by (omega arith) in
        let fits : need (kept * each) ≤ k.block.units = omega arith in
        let cut = shrinks k.block.units s.heap (rw at_is it) (rw units_is fits) in
        cut_down (kept * each) n_is more k.block.units it new (rw (at_is, units_is) at cut) fits

    -- ---- a buffer without entries is freed

    module _ (empty : count_at old place.at ≡ 0) where
      abbrev pub unnamed : List ℕ
      unnamed = set_pointer old place.at None

      cell_changes : ChangesOnly old unnamed place.at (size table place.type)
      cell_changes =
          let large = size_large table s.is_table place.type in
          ChangesOnly-wider old unnamed place.at 4 place.at (size table place.type) (omega arith) (omega arith) (set_number-changes 4 old place.at (distance place.at None))

      unnamed_target : target unnamed place.at ≡ None
      unnamed_target =
          let large = size_large table s.is_table place.type in
          let within = place_within allocator old table place v blocks s in
          let tiny = s.heap.small in
          target-set_same old place.at None (omega arith) (omega arith) (λ t e. absurd (cc))

      unnamed_count : count_at unnamed place.at ≡ 0
      unnamed_count = number-set_other 4 4 old place.at (distance place.at None) (place.at + 4) (inr (omega arith)) ∙ empty

      its_entries : HoldsEntries unnamed table form 0 0 v its.owned
      its_entries =
          let e : HoldsEntries old table form (start old place.at) 0 v its.owned = rw empty at its.entries in
          entries_kept old unnamed table s.is_table form 0 0 v its.owned (rw (zero-mul (item_size table form)) (IsSame-none old unnamed 0)) owned_kept (entries_none old table form (start old place.at) 0 v its.owned e)
        where
          owned_kept : AllByRecursion (KeepsBlock old unnamed) its.owned
          owned_kept = each_there (KeepsBlock old unnamed) its.owned (λ h some. one h (rw its.blocks_are (omega (arith, times-append h (named old place.at) its.owned))))
            where
              one : (h : ℕ) → 1 ≤ times h blocks → KeepsBlock old unnamed h
              one h some = whole_then allocator old table place v blocks s unnamed cell_changes h (owned_live allocator old table place v blocks s h some) (owned_other allocator old table place v blocks s h some)

      unnamed_holds : Holds unnamed table place v its.owned
      unnamed_holds =
          let r : NamesRoom unnamed place.at (tag_of block.Kind.buffer place.type) (item_size table form) = rw (unnamed_target, unnamed_count) refl in
          let e : HoldsEntries unnamed table form (start unnamed place.at) (count_at unnamed place.at) v its.owned = rw (unnamed_target, unnamed_count) its_entries in
          let none : named unnamed place.at ≡ [] = ap (λ o. option_to_list (option_map block_of o)) unnamed_target in
          subst (λ bs. Holds unnamed table place v bs) (ap (λ bs. bs ++ its.owned) none) (holds_buffered unnamed table place form v its.owned f b r e)

      blocks_count : (h : ℕ) → times h blocks ≡ times h (block_of p ∷ []) + times h its.owned
      blocks_count h = ap (times h) (its.blocks_are ∙ ap (λ bs. bs ++ its.owned) named_is) ∙ times-append h (block_of p ∷ []) its.owned

      fewer_owned : (h : ℕ) → times h (s.home ∷ its.owned) ≤ times h (positions (live old))
      fewer_owned h = omega (arith, s.owned h, blocks_count h)

      stands_unnamed : Stands allocator unnamed table place v its.owned
      stands_unnamed = written_stands allocator old table place v blocks s unnamed cell_changes v its.owned unnamed_holds fewer_owned

      unnamed_live : live unnamed ≡ live old
      unnamed_live = live_then allocator old table place v blocks s unnamed cell_changes

      still_live : 1 ≤ times (block_of p) (positions (live unnamed))
      still_live = rw unnamed_live buffer_live

      unowned : times (block_of p) (stands_unnamed.home ∷ its.owned) ≡ 0
      unfolding stands_unnamed
      unowned =
          let same_home : stands_unnamed.home ≡ s.home = home_again in
          let once = live-once old allocator s.heap (block_of p) in
          rw same_home (times-other (block_of p) s.home its.owned (λ e. not_home (sym e))
          ∙ (let n = blocks_count (block_of p) in let m = times-same (block_of p) [] in let o = s.owned (block_of p) in let w = times-more (block_of p) s.home blocks in omega arith))
        where
          home_again : stands_unnamed.home ≡ s.home
          home_again = written_home allocator old table place v blocks s unnamed cell_changes v its.owned unnamed_holds fewer_owned

      -- the heap is still well-formed, so that the block can be freed
      pub unnamed_heap : IsHeap allocator unnamed
      unnamed_heap = stands_unnamed.heap

      pub unnamed_is_live : IsLive unnamed (block_of p)
      unnamed_is_live =
          let k = found (block_of p) (live unnamed) still_live in
          (k.block.units, subst (λ y. Contains (live unnamed) (record { at = y; units = k.block.units })) k.at_is k.among)

      pub given_up : (new : List ℕ) → Gives allocator unnamed new (block_of p) → Left new
      given_up new given = (
        its.owned,
        record {
          changes = changes_of allocator old new table place v its.owned blocks
              (cut_to (live old) (length old) (target old place.at) (units_named old place.at) (count_at old place.at * item_size table form)) s.allocator_is
              (left_stands allocator unnamed table place v its.owned stands_unnamed new (block_of p) given still_live unowned)
              (frames_twice old unnamed new place.at (size table place.type) blocks (block_of p ∷ []) (more_gone (written_frames allocator old table place v blocks s unnamed cell_changes v its.owned unnamed_holds fewer_owned))
              (left_frames allocator unnamed table place v its.owned stands_unnamed new (block_of p) given still_live unowned (size table place.type)) (λ h there_is none. omega (arith, blocks_count h)))
              (given.given ∙ ap (without (block_of p)) unnamed_live ∙ sym spans_are)
              (λ h. rw spans_are (omega (arith, blocks_count h, times-without h (block_of p) (live old) buffer_live)));
          paths = paths_now;
          parts = parts_now;
        },
      )
        where
          stands_left : Stands allocator new table place v its.owned
          stands_left = left_stands allocator unnamed table place v its.owned stands_unnamed new (block_of p) given still_live unowned

          -- there is no part before or after
          parts_now : KeepsAllParts old new table place
          parts_now =
              let same = left_place allocator unnamed table place v its.owned stands_unnamed new (block_of p) given still_live unowned in
              let large = size_large table s.is_table place.type in
              let counted : count_at new place.at ≡ 0 = cell-count unnamed new place.at (IsSame-part unnamed new place.at (size table place.type) place.at 8 (omega arith) (omega arith) same) ∙ unnamed_count in
              let before : entry_places table form (start old place.at) (count_at old place.at) ≡ [] = ap (entry_places table form (start old place.at)) empty ∙ no_places table form (start old place.at) in
              let after : entry_places table form (start new place.at) (count_at new place.at) ≡ [] = ap (entry_places table form (start new place.at)) counted ∙ no_places table form (start new place.at) in
              all_entries_stay old new table place form v v blocks its.owned f b s.holds_it stands_left.holds_it
              (subst (λ ps. PersistEach old new table ps (entry_places table form (start new place.at) (count_at new place.at))) (sym before) (subst (λ ps. PersistEach old new table [] ps) (sym after) persist_none))

          spans_are : cut_to (live old) (length old) (target old place.at) (units_named old place.at) (count_at old place.at * item_size table form) ≡ without (block_of p) (live old)
          spans_are =
              let none : count_at old place.at * item_size table form ≡ 0 = ap (λ k. k * item_size table form) empty ∙ zero-mul (item_size table form) in
              ap (λ o. cut_to (live old) (length old) o (units_named old place.at) (count_at old place.at * item_size table form)) names ∙ ap (cut_to (live old) (length old) (Some p) (units_named old place.at)) none

          more_gone : Frames old unnamed place.at (size table place.type) [] → Frames old unnamed place.at (size table place.type) blocks
          more_gone k = record {
            length_kept = k.length_kept;
            front_kept = k.front_kept;
            back_kept = k.back_kept;
            kept = λ h some away. k.kept h some refl;
            stays = λ h some away. k.stays h some refl;
          }

          no_item : (i : ℕ) (places : List Place) (part : Place) → places ≡ [] → slice_get places i ≡ Some part → ⊥
          no_item i [] part e k = cc
          no_item i (q ∷ places) part e k = cc

          paths_now : KeepsPathsInside old new table place
          paths_now path inner here = here
          paths_now path inner (into g opened i part e o index is rest) =
              let same_form : g ≡ form = (let k : Some g ≡ Some form = sym e ∙ f in cc) in
              absurd (no_item i opened.parts part (no_parts_inside old table place form opened b empty (subst (λ h. Opens old table place h opened) same_form o)) is)
