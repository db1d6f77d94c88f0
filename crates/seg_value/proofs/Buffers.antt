-- Buffers that grow, from how the steps of the calls change the bytes.
use Rattle.std.proofs.Common.{◌≡◌, ℕ, ◌+◌, ◌-◌, ◌*◌, ◌%◌, ◌^◌, ◌<◌, ◌≤◌, ◌⊎◌, inl, inr, true, max, List, [], ◌∷◌, length, Option, Some, None, MatchOption, option_map, refl, sym, ap, ◌∙◌, subst, arith, zero-add}
use Rattle.std.specs.Prelude.{Contains}
use Rattle.std.proofs.Math.Nat.{mul-le-mul_left, mul-le-mul_right}
use Rattle.std.proofs.lemmas.Option.{slice_get_past}
use Rattle.std.proofs.lemmas.Bool.{cases_lt}
use Rattle.seg_spec.specs.Bytes.{slice, put, set_word}
use Rattle.seg_spec.specs.Pointer.{target, set_pointer}
use Rattle.seg_spec.specs.Types.{Form, Table, form_at, size}
use Rattle.seg_spec.specs.Value.{Value}
use Rattle.seg_spec.specs.Heap.{Span, span, units_at, live, IsHeap, IsLive, Keeps, Takes, Gives, same, heap_start, resized}
use Rattle.seg_spec.specs.Block as block
use Rattle.seg_spec.specs.Block.{tag_of, block_of, has_buffer, IsBlock, payload_size}
use Rattle.seg_spec.specs.Reads.{count_at, named}
use Rattle.seg_spec.specs.Sound.{times, positions}
use Rattle.seg_spec.specs.Demand.{Ask, need, after_ask, after_gives}
use Rattle.seg_spec.specs.Cells.{IsWithin, Shifts}
use Rattle.seg_spec.specs.Owning.{Stands}
use Rattle.seg_spec.specs.Spending.{item_size, units_named, buffer_asks, spent}
use Rattle.seg_spec.specs.Growing.{Reserves, MovesBuffer}
use Rattle.seg_spec.proofs.Heap.LiveBlockLaws.{times-same, there, LiesIn, live-lie, positions-resized}
use Rattle.seg_spec.proofs.Heap.KeptBlockLaws.{each_contained, StatesSpan, live_stated}
use Rattle.seg_spec.proofs.Deallocation.BlockFreeLaws.{found}
use Rattle.seg_spec.proofs.Values.PlaceFrameLaws.{cell-target, parts_unchanged}
use Rattle.seg_spec.proofs.SliceLaws.{IsSame-part}
use Rattle.seg_spec.proofs.Tables.TypeSizeLaws.{size_large}
use Rattle.seg_spec.proofs.Values.CellChangeLaws.{ChangesOnly-none}
use Rattle.seg_spec.proofs.Values.PlaceWriteLaws.{owned_live, changes_place}
use Rattle.seg_spec.proofs.Values.CallPlaceLaws.{changes_of}
use Rattle.seg_spec.proofs.Values.BufferLaws.{Buffered, buffered, MovesEntries}
use Rattle.seg_spec.proofs.Values.BufferMoveLaws.{MovesFrom, less_room, old_count, block_small, from_within, to_within, pointed_stands, old_live, moves}
use Rattle.seg_spec.proofs.Values.BufferGrowthLaws.{grown_stands, grown_frames, grown_parts, grown_place, grown_units}
use Rattle.seg_spec.proofs.Heap.GrantLaws.{GrewTo, spent_same, spent_fresh}
use Rattle.seg_block.specs.Blocks.{IsSized, IsLiveBlock}
use Rattle.seg_block.specs.Tags.{word_of}
use Rattle.seg_block.specs.Request.{Grants, GrantsNew}
use Rattle.seg_block.specs.declared.grant.Grant.{Grant}
use Rattle.seg_cells.specs.declared.content.Content.{Content}
use Rattle.seg_cells.specs.declared.content.Shape.TheVariants as shape
use Rattle.seg_cells.specs.declared.entry.Held.TheVariants as held
use Rattle.seg_cells.specs.Entries.{IsEntryOf}
use Rattle.seg_cells.specs.Contents.{IsContent, ContentOf}
use Rattle.seg_cells.specs.Places.{object_at}
use Rattle.seg_value.proofs.BufferRequestLaws as by_request
use Rattle.seg_value.proofs.BufferRequestLaws.{ask, asks_nothing, NewFor}
use Rattle.seg_value.specs.Buffers.{NamesBuffer}

-- ---- the entries of a buffer, by the form of its type

pub record OfForm (table : Table) (T : ℕ) (content : Content) : Type 0 where
  pub form : Form
  pub form_is : form_at table T ≡ Some form
  pub has_it : has_buffer (Some form) ≡ true
  pub tag_is : word_of content.tag ≡ tag_of block.Kind.buffer T
  pub size_is : content.entry.size ≡ item_size table form
  pub moves_entries : (old new : List ℕ) (from to n : ℕ) → (content.entry.held ≡ held.Bytes → new ≡ put old to (slice old from (n * content.entry.size)))
      → ((U before : ℕ) → IsEntryOf table before U content.entry → Shifts old new table before U content.entry.size from to n) → MovesEntries old new table form from to n

of_list : (table : Table) (T tag before U : ℕ) (content : Content) → IsContent table shape.Ring tag before U content → content.shape ≡ shape.Buffer → OfForm table T content
of_list table T tag before U content c e = let f : shape.Ring ≡ shape.Buffer = sym c.shape_is ∙ e in absurd (cc)

of_map : (table : Table) (T tag before U : ℕ) (content : Content) → IsContent table shape.Tree tag before U content → content.shape ≡ shape.Buffer → OfForm table T content
of_map table T tag before U content c e = let f : shape.Tree ≡ shape.Buffer = sym c.shape_is ∙ e in absurd (cc)

of_own : (table : Table) (T tag before U : ℕ) (content : Content) → IsContent table shape.Object tag before U content → content.shape ≡ shape.Buffer → OfForm table T content
of_own table T tag before U content c e = let f : shape.Object ≡ shape.Buffer = sym c.shape_is ∙ e in absurd (cc)

of_by : (table : Table) (T : ℕ) (content : Content) (o : Option Form) → form_at table T ≡ o → ContentOf table T o (Some content) → content.shape ≡ shape.Buffer → OfForm table T content
of_by table T content None f c e = absurd c
of_by table T content (Some Form.i64) f c e = absurd c
of_by table T content (Some (Form.struct Us)) f c e = absurd c
of_by table T content (Some (Form.list U)) f c e = of_list table T (tag_of block.Kind.node T) 8 U content c e
of_by table T content (Some (Form.map U)) f c e = of_map table T (tag_of block.Kind.node T) 24 U content c e
of_by table T content (Some (Form.own U)) f c e = of_own table T (tag_of block.Kind.object U) 0 U content c e
of_by table T content (Some (Form.shared U)) f c e = absurd c
of_by table T content (Some Form.str) f c e = record {
  form = Form.str;
  form_is = f;
  has_it = refl;
  tag_is = c.tag_is;
  size_is = c.size_is;
  moves_entries = λ old new from to n text shifted. rw c.size_is at (text c.held_is);
}
of_by table T content (Some (Form.vec U)) f c e = record {
  form = Form.vec U;
  form_is = f;
  has_it = refl;
  tag_is = c.tag_is;
  size_is = c.entry_is.size_is ∙ zero-add (size table U);
  moves_entries = λ old new from to n text shifted. subst (λ k. Shifts old new table 0 U k from to n) (c.entry_is.size_is ∙ zero-add (size table U)) (shifted U 0 c.entry_is);
}
of_by table T content (Some (Form.flat_map U)) f c e = record {
  form = Form.flat_map U;
  form_is = f;
  has_it = refl;
  tag_is = c.tag_is;
  size_is = c.entry_is.size_is;
  moves_entries = λ old new from to n text shifted. subst (λ k. Shifts old new table 8 U k from to n) c.entry_is.size_is (shifted U 8 c.entry_is);
}

pub of_form : (table : Table) (T : ℕ) (content : Content) → NamesBuffer table T content → OfForm table T content
of_form table T content n = of_by table T content (form_at table T) refl n.0 n.1

known : (table : Table) (T : ℕ) (form : Form) → form_at table T ≡ Some form → T < length table
known table T form e = go (cases_lt T (length table))
  where
    go : (T < length table) ⊎ (length table ≤ T) → T < length table
    go (inl l) = l
    go (inr l) = let none : form_at table T ≡ None = slice_get_past table T l in let f : None ≡ Some form = sym none ∙ e in absurd (cc)

-- ---- the buffer of a place

module _ (allocator : ℕ) (old : List ℕ) (table : Table) (cell T : ℕ) (v : Value) (blocks : List ℕ) (content : Content) (of : OfForm table T content) (s : Stands allocator old table (object_at cell T) v blocks) where
  its : Buffered old table (object_at cell T) of.form v blocks
  its = buffered old table (object_at cell T) of.form v blocks of.form_is of.has_it s.holds_it

  pub tag_small : tag_of block.Kind.buffer T < 2 ^ 32
  tag_small = let few = s.is_table.few in let k = known table T of.form of.form_is in omega arith

  -- the buffer's block is allocated
  pub record Named (p : ℕ) : Type 0 where
    pub units : ℕ
    pub among : Contains (live old) (span (block_of p) units)
    pub units_is : units_at old (block_of p) ≡ units
    pub sized : IsSized old (span (block_of p) (units_at old (block_of p)))
    pub room : IsBlock old p (tag_of block.Kind.buffer T) (count_at old cell * item_size table of.form)
    pub owned : 1 ≤ times (block_of p) blocks

  pub named_block : (p : ℕ) → target old cell ≡ Some p → Named p
  named_block p e =
      let room : IsBlock old p (tag_of block.Kind.buffer T) (count_at old cell * item_size table of.form) = rw e at its.room in
      let mine : 1 ≤ times (block_of p) blocks = rw (its.blocks_are, e) (omega (arith, times-same (block_of p) its.owned)) in
      let is_live = owned_live allocator old table (object_at cell T) v blocks s (block_of p) mine in
      let f = found (block_of p) (live old) is_live in
      let l = there (LiesIn old heap_start (length old)) (block_of p) (positions (live old)) (live-lie old allocator s.heap) is_live in
      let stated = each_contained (StatesSpan old (length old)) (live old) f.block (live_stated old allocator s.heap) f.among in
      record {
        units = f.block.units;
        among = subst (λ x. Contains (live old) (span x f.block.units)) f.at_is f.among;
        units_is = ap (units_at old) (sym f.at_is) ∙ stated.units_is;
        sized = record { aligned = l.aligned; large = l.size; inside = l.high; size_is = refl };
        room = room;
        owned = mine;
      }

  each_large : 1 ≤ item_size table of.form
  each_large = go of.form
    where
      go : (form : Form) → 1 ≤ item_size table form
      go Form.i64 = omega arith
      go Form.str = omega arith
      go (Form.vec U) = let l = size_large table s.is_table U in omega arith
      go (Form.flat_map U) = omega arith
      go (Form.list U) = omega arith
      go (Form.map U) = omega arith
      go (Form.own U) = omega arith
      go (Form.shared U) = omega arith
      go (Form.struct Us) = omega arith

  each_small : item_size table of.form ≤ 4104
  each_small = go of.form
    where
      go : (form : Form) → item_size table form ≤ 4104
      go Form.i64 = omega arith
      go Form.str = omega arith
      go (Form.vec U) = let l = s.is_table.sizes U in omega arith
      go (Form.flat_map U) = let l = s.is_table.sizes U in omega arith
      go (Form.list U) = omega arith
      go (Form.map U) = omega arith
      go (Form.own U) = omega arith
      go (Form.shared U) = omega arith
      go (Form.struct Us) = omega arith

  -- the entries have at most 2^30 bytes
  count_bytes : count_at old cell * item_size table of.form ≤ 2 ^ 30
  count_bytes = go (target old cell) refl
    where
      go : (o : Option ℕ) → target old cell ≡ o → count_at old cell * item_size table of.form ≤ 2 ^ 30
      go None e = let none : count_at old cell ≡ 0 = rw e at its.room in rw none (omega arith)
      go (Some p) e = let b = named_block p e in omega (arith, b.room.room, b.sized.inside, b.sized.large, s.heap.small)

  pub count_small : count_at old cell ≤ 2 ^ 30
  count_small = let m = mul-le-mul_left (count_at old cell) each_large in let b = count_bytes in omega arith

  largest : (a b c k m : ℕ) → a * k < m → b * k < m → c * k < m → max a (max b c) * k < m
  largest a b c k m x y z = go (cases_lt b c) (cases_lt a (max b c))
    where
      go : (b < c) ⊎ (c ≤ b) → (a < max b c) ⊎ (max b c ≤ a) → max a (max b c) * k < m
      go g (inr l) = let e : max a (max b c) ≡ a = omega arith in rw e x
      go (inl g) (inl l) = let e : max a (max b c) ≡ c = omega arith in rw e z
      go (inr g) (inl l) = let e : max a (max b c) ≡ b = omega arith in rw e y

  pub preferred_small : (limit : ℕ) → limit * item_size table of.form < 2 ^ 32 → max 4 (max (2 * count_at old cell) limit) * item_size table of.form < 2 ^ 32
  preferred_small limit small =
      let twice : 2 * count_at old cell * item_size table of.form ≡ 2 * (count_at old cell * item_size table of.form) = grind arith in
      largest 4 (2 * count_at old cell) limit (item_size table of.form) (2 ^ 32) (omega (arith, each_small)) (omega (arith, count_bytes)) small

  -- ---- the units to ask for

  -- if the buffer has enough room already, nothing is asked for
  pub has_room : (limit room : ℕ) → room ≡ 16 * units_named old cell - 16 → limit * content.entry.size ≤ room
      → Reserves allocator old old table (object_at cell T) v blocks (buffer_asks old cell content.entry.size limit) (limit * content.entry.size)
  has_room limit room e l = record {
    others = blocks;
    succeeds = record {
      left = live old;
      left_is = ap (λ asks. spent allocator (live old) (length old) asks []) (asks_nothing allocator old cell content.entry.size limit room e l);
      changes = changes_place allocator old table (object_at cell T) v blocks s old (ChangesOnly-none old cell (size table T)) v blocks blocks s.holds_it;
    };
    parts = parts_unchanged old table s.is_table s.holds_it;
    room = go (target old cell) refl;
  }
    where
      go : (o : Option ℕ) → target old cell ≡ o → MatchOption o (limit * content.entry.size ≡ 0) (λ p. limit * content.entry.size ≤ payload_size old (block_of p))
      go None f = let u : units_named old cell ≡ 0 = rw f refl in omega arith
      go (Some p) f = let u : units_named old cell ≡ units_at old (block_of p) = rw f refl in omega arith

-- ---- the buffer moves

module _ (allocator : ℕ) (before taken marked : List ℕ) (table : Table) (cell T : ℕ) (v : Value) (blocks : List ℕ) (content : Content) (names : NamesBuffer table T content) (s : Stands allocator before table (object_at cell T) v blocks)
    (u g payload : ℕ) (t : Takes allocator before taken u (Some g)) (two : 2 ≤ u) (fits : count_at before cell * content.entry.size + 16 ≤ 16 * u)
    (marked_by : marked ≡ set_word taken (g + 8) (word_of content.tag)) (payload_by : payload ≡ (g + 16) % 2 ^ 32) where
  of : OfForm table T content
  of = of_form table T content names

  small : tag_of block.Kind.buffer T < 2 ^ 32
  small = tag_small allocator before table cell T v blocks content of s

  abbrev tagged : List ℕ
  tagged = set_word taken (g + 8) (tag_of block.Kind.buffer T)

  marked_is : marked ≡ tagged
  marked_is = marked_by ∙ ap (λ w. set_word taken (g + 8) w) of.tag_is

  payload_is : payload ≡ g + 16
  payload_is = let l = block_small allocator before taken table (object_at cell T) v blocks of.form s of.form_is of.has_it u g t two small in omega arith

  count_is : count_at tagged cell ≡ count_at before cell
  count_is = old_count allocator before taken table (object_at cell T) v blocks of.form s of.form_is of.has_it u g t two small

  all_fit : count_at tagged cell * item_size table of.form + 16 ≤ 16 * u
  all_fit =
      let e : count_at tagged cell * item_size table of.form ≡ count_at before cell * content.entry.size = ap (λ k. k * item_size table of.form) count_is ∙ ap (λ k. count_at before cell * k) (sym of.size_is) in
      omega arith

  -- a buffer for a cell that had a null pointer
  pub first_buffer : (after : List ℕ) → target marked cell ≡ None → after ≡ set_pointer marked cell (Some payload) → MovesBuffer allocator before taken after table (object_at cell T) v blocks u
  first_buffer after none pointed_is =
      let e : target tagged cell ≡ None = rw marked_is at none in
      let p : after ≡ set_pointer tagged cell (Some (g + 16)) = rw (marked_is, payload_is) at pointed_is in
      let m : MovesFrom (target tagged cell) tagged tagged table of.form (g + 16) (count_at tagged cell) = rw e refl in
      moves allocator before taken table (object_at cell T) v blocks of.form s of.form_is of.has_it u g t two small tagged all_fit m after (rw e p)

  -- a buffer to which the entries of the old buffer were moved
  pub next_buffer : (p kept : ℕ) (moved pointed after : List ℕ) → target marked cell ≡ Some p → kept ≡ count_at marked cell
      → (content.entry.held ≡ held.Bytes → IsWithin marked p (kept * content.entry.size) → IsWithin marked payload (kept * content.entry.size) → moved ≡ put marked payload (slice marked p (kept * content.entry.size)))
      → ((U b : ℕ) → IsEntryOf table b U content.entry → IsWithin marked p (kept * content.entry.size) → IsWithin marked payload (kept * content.entry.size) → Shifts marked moved table b U content.entry.size p payload kept)
      → pointed ≡ set_pointer moved cell (Some payload) → (IsHeap allocator pointed → IsLive pointed (p - 16) → Gives allocator pointed after (p - 16))
      → MovesBuffer allocator before taken after table (object_at cell T) v blocks u
  next_buffer p kept moved pointed after some kept_by text shifted pointed_by gives =
      let e : target tagged cell ≡ Some p = rw marked_is at some in
      let kept_is : kept ≡ count_at tagged cell = rw marked_is at kept_by in
      let bytes_are : kept * content.entry.size ≡ count_at tagged cell * item_size table of.form = ap (λ k. k * content.entry.size) kept_is ∙ ap (λ k. count_at tagged cell * k) of.size_is in
      let from_in : IsWithin marked p (kept * content.entry.size) =
      rw (marked_is, bytes_are) (from_within allocator before taken table (object_at cell T) v blocks of.form s of.form_is of.has_it u g t two small p e) in
      let to_in : IsWithin marked payload (kept * content.entry.size) =
      rw (marked_is, payload_is, bytes_are) (to_within allocator before taken table (object_at cell T) v blocks of.form s of.form_is of.has_it u g t two small all_fit) in
      let moved_entries = of.moves_entries tagged moved p (g + 16) (count_at tagged cell) (λ h. rw (marked_is, payload_is, kept_is) at (text h from_in to_in))
      (λ U b i. rw (marked_is, payload_is, kept_is) at (shifted U b i from_in to_in)) in
      let m : MovesFrom (target tagged cell) tagged moved table of.form (g + 16) (count_at tagged cell) = rw e moved_entries in
      let stands = pointed_stands allocator before taken table (object_at cell T) v blocks of.form s of.form_is of.has_it u g t two small moved all_fit m in
      let is_live = old_live allocator before taken table (object_at cell T) v blocks of.form s of.form_is of.has_it u g t two small moved all_fit m p e in
      let pointed_is : pointed ≡ set_pointer moved cell (Some (g + 16)) = rw payload_is at pointed_by in
      let given = gives (rw pointed_is stands.heap) (rw pointed_is is_live) in
      moves allocator before taken table (object_at cell T) v blocks of.form s of.form_is of.has_it u g t two small moved all_fit m after (rw e (rw pointed_is at given))

-- ---- the buffer gets more room

need_room : (n : ℕ) → n + 16 ≤ 16 * need n
need_room n = omega arith

two_units : (n : ℕ) → 2 ≤ need n
two_units n = omega arith

module _ (allocator : ℕ) (old : List ℕ) (table : Table) (cell T : ℕ) (v : Value) (blocks : List ℕ) (content : Content) (of : OfForm table T content) (s : Stands allocator old table (object_at cell T) v blocks)
    (limit : ℕ) (much : 16 * units_named old cell - 16 < limit * content.entry.size) where
  -- the preferred number of units
  pub wanted_is : (kept entries wanted : ℕ) → limit * content.entry.size < 2 ^ 32 → kept ≡ count_at old cell → (kept < 2 ^ 31 → entries ≡ max 4 (max (2 * kept) limit))
      → (entries * content.entry.size < 2 ^ 32 → wanted ≡ need (entries * content.entry.size))
      → wanted ≡ need (max 4 (max (2 * count_at old cell) limit) * content.entry.size)
  wanted_is kept entries wanted small kept_is entries_by wanted_by =
      let few = count_small allocator old table cell T v blocks content of s in
      let entries_are : entries ≡ max 4 (max (2 * count_at old cell) limit) = entries_by (omega arith) ∙ ap (λ k. max 4 (max (2 * k) limit)) kept_is in
      let limit_small : limit * item_size table of.form < 2 ^ 32 = rw of.size_is at small in
      let fits : max 4 (max (2 * count_at old cell) limit) * content.entry.size < 2 ^ 32 = rw of.size_is (preferred_small allocator old table cell T v blocks content of s limit limit_small) in
      let fits_too : entries * content.entry.size < 2 ^ 32 = rw entries_are fits in
      wanted_by fits_too ∙ ap (λ k. need (k * content.entry.size)) entries_are

  -- the preferred number of units, if the entries have 2^32 bytes or more
  pub wanted_large : (kept entries wanted : ℕ) → 2 ^ 32 ≤ limit * content.entry.size → kept ≡ count_at old cell → (kept < 2 ^ 31 → entries ≡ max 4 (max (2 * kept) limit))
      → (2 ^ 32 ≤ entries * content.entry.size → wanted ≡ need (2 ^ 32 - 1))
      → wanted ≡ need (2 ^ 32 - 1)
  wanted_large kept entries wanted large kept_is entries_by wanted_by =
      let few = count_small allocator old table cell T v blocks content of s in
      let e = entries_by (omega arith) in
      let more : limit ≤ entries = omega arith in
      let m = mul-le-mul_right content.entry.size more in
      wanted_by (omega arith)

  abbrev pub asked : Ask
  asked = ask allocator old cell content.entry.size limit

  -- the buffer after the request, by the request's result
  abbrev pub Enlarged : List ℕ → Option Grant → Type 0
  Enlarged = by_request.Enlarged allocator old cell content.entry.size limit (λ mid. Reserves allocator old mid table (object_at cell T) v blocks (ask allocator old cell content.entry.size limit ∷ []) (limit * content.entry.size))

  grew : (mid : List ℕ) (p : ℕ) (after : List Span) → target old cell ≡ Some p → IsHeap allocator mid → Keeps old mid → (x : ℕ) → Contains (live old) (span (block_of p) x)
      → GrewTo (live old) after (block_of p) x (need (limit * content.entry.size)) → live mid ≡ after → after_ask allocator (live old) (length old) asked ≡ Some (same after)
      → Reserves allocator old mid table (object_at cell T) v blocks (asked ∷ []) (limit * content.entry.size)
  grew mid p after e heap kept x it g live_is granted =
      let is : live mid ≡ resized (block_of p) g.units (live old) = live_is ∙ g.after_is in
      let stands = grown_stands allocator old table (object_at cell T) v blocks s mid heap kept (block_of p) x g.units it g.no_fewer is in
      let frames = grown_frames allocator old table (object_at cell T) v blocks s mid heap kept (block_of p) x g.units it g.no_fewer is (size table T) blocks in
      let place_same = grown_place allocator old table (object_at cell T) v blocks s mid heap kept (block_of p) x g.units it g.no_fewer is in
      let units = grown_units allocator old table (object_at cell T) v blocks s mid heap kept (block_of p) x g.units it g.no_fewer is in
      let large = size_large table s.is_table T in
      let names : target mid cell ≡ Some p = cell-target old mid cell (IsSame-part old mid cell (size table T) cell 8 (omega arith) (omega arith) place_same) ∙ e in
      let room = need_room (limit * content.entry.size) in
      let enough = g.enough in
      record {
        others = blocks;
        succeeds = record {
          left = after;
          left_is = spent_same allocator (live old) after (length old) asked granted;
          changes = changes_of allocator old mid table (object_at cell T) v blocks blocks after s.allocator_is stands frames live_is
              (λ h. ap (λ ps. times h ps + times h blocks) (ap positions g.after_is ∙ positions-resized (block_of p) g.units (live old)));
        };
        parts = grown_parts allocator old table (object_at cell T) v blocks s mid heap kept (block_of p) x g.units it g.no_fewer is;
        room = rw names (omega arith);
      }

  in_buffer : (p : ℕ) → target old cell ≡ Some p → (x : ℕ) × Contains (live old) (span (block_of p) x)
  in_buffer p e = let b = named_block allocator old table cell T v blocks content of s p e in (b.units, b.among)

  pub enlarged : (mid : List ℕ) (r : Option Grant) (old_block : Option ℕ) (wanted least : ℕ) → old_block ≡ option_map block_of (target old cell)
      → wanted ≡ need (max 4 (max (2 * count_at old cell) limit) * content.entry.size) → least ≡ need (limit * content.entry.size)
      → ((at x : ℕ) → old_block ≡ Some at → IsHeap allocator old → IsLiveBlock old at x → Grants allocator old mid at x wanted least r)
      → (old_block ≡ None → IsHeap allocator old → GrantsNew allocator old mid wanted least r) → Enlarged mid r
  enlarged = by_request.enlarged allocator old cell content.entry.size limit s.heap in_buffer _ grew

  -- a request for more bytes than any segment has
  pub enlarged_large : (mid : List ℕ) (r : Option Grant) (old_block : Option ℕ) (wanted least : ℕ) → old_block ≡ option_map block_of (target old cell)
      → 2 ^ 32 ≤ limit * content.entry.size → wanted ≡ need (2 ^ 32 - 1) → least ≡ need (2 ^ 32 - 1)
      → ((at x : ℕ) → old_block ≡ Some at → IsHeap allocator old → IsLiveBlock old at x → Grants allocator old mid at x wanted least r)
      → (old_block ≡ None → IsHeap allocator old → GrantsNew allocator old mid wanted least r) → Enlarged mid r
  enlarged_large = by_request.enlarged_large allocator old cell content.entry.size limit s.heap in_buffer _ grew

  -- the buffer has fewer entries than the request is for
  fewer : count_at old cell * content.entry.size < limit * content.entry.size
  fewer = go (target old cell) refl
    where
      go : (o : Option ℕ) → target old cell ≡ o → count_at old cell * content.entry.size < limit * content.entry.size
      go None e =
          let none : count_at old cell ≡ 0 = rw e at (its allocator old table cell T v blocks content of s).room in
          rw none (omega arith)
      go (Some p) e =
          let b = named_block allocator old table cell T v blocks content of s p e in
          let u : units_named old cell ≡ units_at old (block_of p) = rw e refl in
          let same_bytes : count_at old cell * content.entry.size ≡ count_at old cell * item_size table of.form = ap (λ k. count_at old cell * k) of.size_is in
          omega (arith, b.room.room)

  pub moved_to_new : (mid new : List ℕ) (g : ℕ) → NewFor allocator old cell content.entry.size limit mid g
      → ((u : ℕ) → Takes allocator old mid u (Some g) → 2 ≤ u → count_at old cell * content.entry.size + 16 ≤ 16 * u → MovesBuffer allocator old mid new table (object_at cell T) v blocks u)
      → Reserves allocator old new table (object_at cell T) v blocks (ask allocator old cell content.entry.size limit ∷ []) (limit * content.entry.size)
  moved_to_new mid new g n moves_it =
      let room = need_room (limit * content.entry.size) in
      let two = two_units (limit * content.entry.size) in
      let enough = n.enough in
      let f = fewer in
      let m = moves_it n.units n.takes (omega arith) (omega arith) in
      record {
        others = m.others;
        succeeds = record {
          left = after_gives (live mid) (named old cell);
          left_is = spent_fresh allocator (live old) (live mid) (length old) g (ask allocator old cell content.entry.size limit) n.granted;
          changes = m.changes;
        };
        parts = m.parts;
        room = less_room new cell (16 * n.units - 16) (limit * content.entry.size) (omega arith) m.room;
      }
