-- Entries for which a buffer has room, from the results of the calls below.
use Rattle.std.proofs.Common.{◌≡◌, ℕ, ◌+◌, ◌-◌, ◌*◌, ◌%◌, ◌^◌, ◌<◌, ◌≤◌, ◌⊎◌, inl, inr, min, List, [], length, Option, Some, refl, sym, ◌∙◌, ap, subst, arith, zero-add}
use Rattle.std.proofs.lemmas.Grind.{common_steps}
use Rattle.seg_spec.specs.Bytes.{long, signed, set_word, set_long, ChangesOnly}
use Rattle.seg_spec.specs.Heap.{units_at}
use Rattle.seg_spec.specs.Block.{block_of}
use Rattle.seg_spec.specs.Pointer.{target}
use Rattle.seg_spec.specs.Types.{Form, Table, form_at, size}
use Rattle.seg_spec.specs.Window.{Placement, with_bytes, KeepsHost}
use Rattle.seg_spec.specs.Value.{Values, Int, Seq, Text}
use Rattle.seg_spec.specs.Reads.{Place, Holds, count_at, start}
use Rattle.seg_spec.specs.Growing.{Reserves}
use Rattle.seg_spec.specs.Spending.{buffer_asks, units_named}
use Rattle.seg_spec.proofs.Tables.TypeSizeLaws.{size_large, size-form}
use Rattle.seg_spec.proofs.BytesLaws.{number-set_same}
use Rattle.seg_spec.proofs.Images.RootWriteLaws.{number_held, set_number-changes}
use Rattle.seg_ptr.specs.Lent.{lent_to}
use Rattle.seg_ptr.proofs.Lent.{lent_same}
use Rattle.seg_layout.specs.Forms.{form_of, map_option}
use Rattle.seg_layout.specs.declared.kind.«Type».{«Type»}
use Rattle.seg_layout.specs.declared.kind.«Type».TheVariants as kind
use Rattle.seg_block.specs.declared.tag.Kind.TheVariants as tag
use Rattle.seg_value.specs.Stored.{Stored}
use Rattle.seg_value.specs.Contents.{numbers_in}
use Rattle.seg_cells.specs.Places.{object_at}
use Rattle.seg_value.specs.Buffers.{NamesBuffer}
use Rattle.seg_cells.specs.Entries.{IsEntryOf}
use Rattle.seg_cells.specs.Contents.{ContentOf}
use Rattle.seg_cells.specs.declared.content.Content.{Content}
use Rattle.seg_cells.specs.declared.content.Shape.TheVariants as shape
use Rattle.seg_cells.specs.declared.entry.Held.TheVariants as held
use Rattle.seg_value.proofs.Buffers.{of_form, has_room}
use Rattle.seg_seq.specs.Buffers.{LacksEntryRoom, LacksEntry, HasEntry}
use Rattle.seg_seq.specs.declared.room.Room.{Room}
use Rattle.seg_seq.specs.Sequences.{HasText, HasItems, IsFull, LacksByte, PushesItem}
use Rattle.seg_seq.proofs.ItemAdditionLaws.{count_few}
use Rattle.seg_seq.proofs.ItemCalls.{none_is_full, any_pushed}
use Rattle.seg_seq.proofs.Rooms.{Reaches, reaches}
use Rattle.seg_seq.proofs.TextCalls.{counts_few, none_lacks}

-- ---- lent bytes

pub lent_bytes : (old : Placement) (lent xs : List ℕ) → length xs ≡ length lent → lent ≡ old.bytes → (lent_to old xs).bytes ≡ xs
lent_bytes old lent xs same is = ap (λ (p : Placement). p.bytes) (lent_same old xs (same ∙ ap length is))

pub lent_keeps : (old : Placement) (lent xs : List ℕ) → length xs ≡ length lent → lent ≡ old.bytes → KeepsHost old (lent_to old xs)
lent_keeps old lent xs same is =
    let written = lent_same old xs (same ∙ ap length is) in
    written ∙ ap (λ (p : Placement). with_bytes old p.bytes) (sym written)

-- ---- reads of the table

pub vector_form : (table : Table) (T U V : ℕ) (o : Option «Type») (k : «Type») → form_at table T ≡ map_option form_of o → o ≡ Some k → k ≡ kind.Vec V → (form_at table T ≡ Some (Form.vec V)) × (form_at table T ≡ Some (Form.vec U) → V ≡ U)
vector_form table T U V o k read is vec =
    let f : form_at table T ≡ Some (Form.vec V) = read ∙ ap (map_option form_of) (is ∙ ap (λ t. Some t) vec) in
    (f, λ other. let same : Some (Form.vec V) ≡ Some (Form.vec U) = sym f ∙ other in cc)

-- if the heap says that a type is a vector of numbers, its items are numbers
pub number_items : (table : Table) (T U V : ℕ) → numbers_in table T ≡ Some V → form_at table T ≡ Some (Form.vec U) → form_at table U ≡ Some Form.i64
number_items table T U V told vector = grind (arith, common_steps)

pub text_form : (table : Table) (T : ℕ) (o : Option «Type») (k : «Type») → form_at table T ≡ map_option form_of o → o ≡ Some k → k ≡ kind.Str → form_at table T ≡ Some Form.str
text_form table T o k read is text = read ∙ ap (map_option form_of) (is ∙ ap (λ t. Some t) text)

-- ---- the items of a vector

-- the layout of what the cells of a vector's type point to
abbrev content_of : (table : Table) (T U : ℕ) → 1 ≤ size table U → Content
content_of table T U some = record { shape = shape.Buffer; tag = record { kind = tag.Buffer; type_id = T }; entry = record { size = size table U; before = 0; held = held.Value U; some = some } }

names_it : (table : Table) (T U : ℕ) (some : 1 ≤ size table U) → form_at table T ≡ Some (Form.vec U) → NamesBuffer table T (content_of table T U some)
names_it table T U some f =
    let entry : IsEntryOf table 0 U (content_of table T U some).entry = record { size_is = sym (zero-add (size table U)); before_is = refl; held_is = refl } in
    (subst (λ o. ContentOf table T o (Some (content_of table T U some))) (sym f) (record { shape_is = refl; tag_is = refl; entry_is = entry }), refl)

module _ (allocator : ℕ) (old : Stored) (cell T U : ℕ) (vs : Values) (blocks : List ℕ) (h : HasItems allocator old (object_at cell T) U vs blocks) where
  reached : (p : ℕ) → target old.window.bytes cell ≡ Some p → Reaches allocator old.window.bytes old.types (object_at cell T) (Form.vec U) (Seq vs) blocks h.form_is refl h.stands p
  reached = reaches allocator old.window.bytes old.types (object_at cell T) (Form.vec U) (Seq vs) blocks h.form_is refl h.stands

  large : 8 ≤ size old.types U
  large = size_large old.types h.stands.is_table U

  -- the next entry would end after the block's units, or after the segment, which contains the
  -- block
  is_short : (p : ℕ) → target old.window.bytes cell ≡ Some p → LacksEntryRoom old.window.bytes cell (size old.types U) p → IsFull old (object_at cell T) U
  is_short p e short =
      let r = reached p e in
      let units : units_named old.window.bytes cell ≡ units_at old.window.bytes (block_of p) = rw e refl in
      let high : p + (16 * units_at old.window.bytes (block_of p) - 16) ≤ length old.window.bytes = r.high in
      let more : (count_at old.window.bytes cell + 1) * size old.types U ≡ count_at old.window.bytes cell * size old.types U + size old.types U = grind arith in
      let some = large in
      go (count_at old.window.bytes cell * size old.types U) units high more some short
    where
      go : {u w n z m : ℕ} (c : ℕ) → u ≡ w → p + (16 * w - 16) ≤ n → m ≡ c + z → 8 ≤ z → (16 * u < m + 16) ⊎ (n < p + m) → 16 * u - 16 < m
      go c same fits more some (inl few) = omega arith
      go c same fits more some (inr past) = omega arith

  pub lacks_item : LacksEntry old.window.bytes cell (size old.types U) → IsFull old (object_at cell T) U
  lacks_item (inl none) = none_is_full allocator old cell T U vs blocks h none
  lacks_item (inr s) = is_short s.start s.start_is (s.short (reached s.start s.start_is).low)

  module _ (room : Room) (has : HasEntry old.window.bytes cell (size old.types U) room) where
    low : 16 ≤ has.start
    low = (reached has.start has.start_is).low

    pub item_first : has.start ≡ start old.window.bytes cell
    item_first = rw has.start_is refl

    -- the item's position has 32 bits
    pub item_at_word : room.at % 2 ^ 32 ≡ room.at
    item_at_word = let in_it = has.inside in let tiny = h.stands.heap.small in omega arith

    module _ (at len : ℕ) (at_is : at ≡ room.at % 2 ^ 32) (len_is : len ≡ (room.count + 1) % 2 ^ 32) where
      pub item_more : len ≡ min (room.count + 1) 4294967295
      item_more = let few = count_few allocator old.window.bytes old.types (object_at cell T) U vs blocks h.form_is h.stands in let counted = has.count_is in omega arith

      longer : len ≡ room.count + 1
      longer = let few = count_few allocator old.window.bytes old.types (object_at cell T) U vs blocks h.form_is h.stands in let counted = has.count_is in omega arith

      pub item_place : at ≡ (has.start + room.count * size old.types U + 0) % 2 ^ 32
      item_place = let there = has.at_is low in omega arith

      pub item_room : Reserves allocator old.window.bytes old.window.bytes old.types (object_at cell T) (Seq vs) blocks (buffer_asks old.window.bytes cell (size old.types U) len) (len * size old.types U)
      item_room =
          let some : 1 ≤ size old.types U = let w = large in omega arith in
          let content = content_of old.types T U some in
          let fits = has.fits low in
          let enough : len * size old.types U ≤ 16 * units_named old.window.bytes cell - 16 = rw longer (omega arith) in
          has_room allocator old.window.bytes old.types cell T (Seq vs) blocks content (of_form old.types T content (names_it old.types T U some h.form_is)) h.stands len (16 * units_named old.window.bytes cell - 16) refl enough

      -- the item is a number, which is written in place
      module _ (number : form_at old.types U ≡ Some Form.i64) (x : ℕ) (fits_word : x < 2 ^ 64) where
        eight : size old.types U ≡ 8
        eight = size-form old.types h.stands.is_table U Form.i64 number

        abbrev counted : Stored
        counted = record { window = with_bytes old.window (set_word old.window.bytes (cell + 4) len); types = old.types }

        abbrev written : List ℕ
        written = set_long (set_word old.window.bytes (cell + 4) len) at x

        pub number_pushed : (new : Stored) → new.window.bytes ≡ written → PushesItem (Int (signed x)) allocator old new (object_at cell T) U vs blocks at
        number_pushed new new_is =
            let changes : ChangesOnly (set_word old.window.bytes (cell + 4) len) new.window.bytes at (size old.types U) =
            subst (λ n. ChangesOnly (set_word old.window.bytes (cell + 4) len) new.window.bytes at n) (sym eight)
            (subst (λ b. ChangesOnly (set_word old.window.bytes (cell + 4) len) b at 8) (sym new_is) (set_number-changes 8 (set_word old.window.bytes (cell + 4) len) at x)) in
            any_pushed allocator old cell T U vs blocks h (size old.types U) room.count len (sym (zero-add (size old.types U))) has.count_is item_more old counted new item_room refl refl has.start 0 at U item_first refl item_place refl
            (Int (signed x)) (λ within. changes)
            (λ within known. subst (λ b. Holds b old.types (object_at at U) (Int (signed x)) []) (sym new_is)
            (let read : long written at ≡ x = number-set_same 8 (set_word old.window.bytes (cell + 4) len) at x (let fits = within.fits in let wide = eight in omega arith) fits_word in
            subst (λ n. Holds written old.types (object_at at U) (Int (signed n)) []) read (number_held written old.types (object_at at U) number)))

-- ---- the bytes of a string

-- the layout of what the cells of a string's type point to
abbrev text_content : ℕ → Content
text_content T = record { shape = shape.Buffer; tag = record { kind = tag.Buffer; type_id = T }; entry = record { size = 1; before = 0; held = held.Bytes; some = omega arith } }

text_names : (table : Table) (T : ℕ) → form_at table T ≡ Some Form.str → NamesBuffer table T (text_content T)
text_names table T f = (subst (λ o. ContentOf table T o (Some (text_content T))) (sym f) (record { shape_is = refl; tag_is = refl; size_is = refl; before_is = refl; held_is = refl }), refl)

module _ (allocator : ℕ) (old : Stored) (place : Place) (xs blocks : List ℕ) (t : HasText allocator old place xs blocks) where
  text_reached : (p : ℕ) → target old.window.bytes place.at ≡ Some p → Reaches allocator old.window.bytes old.types place Form.str (Text xs) blocks t.form_is refl t.stands p
  text_reached = reaches allocator old.window.bytes old.types place Form.str (Text xs) blocks t.form_is refl t.stands

  text_short : (p : ℕ) → target old.window.bytes place.at ≡ Some p → LacksEntryRoom old.window.bytes place.at 1 p → LacksByte old place
  text_short p e short =
      let r = text_reached p e in
      let units : units_named old.window.bytes place.at ≡ units_at old.window.bytes (block_of p) = rw e refl in
      let high : p + (16 * units_at old.window.bytes (block_of p) - 16) ≤ length old.window.bytes = r.high in
      go (count_at old.window.bytes place.at) units high short
    where
      go : {u w n : ℕ} (c : ℕ) → u ≡ w → p + (16 * w - 16) ≤ n → (16 * u < (c + 1) * 1 + 16) ⊎ (n < p + (c + 1) * 1) → 16 * u - 16 < c + 1
      go c same fits (inl few) = omega arith
      go c same fits (inr past) = omega arith

  pub lacks_byte : LacksEntry old.window.bytes place.at 1 → LacksByte old place
  lacks_byte (inl none) = none_lacks allocator old place xs blocks t none
  lacks_byte (inr s) = text_short s.start s.start_is (s.short (text_reached s.start s.start_is).low)

  module _ (room : Room) (has : HasEntry old.window.bytes place.at 1 room) (len : ℕ) (len_is : len ≡ (room.count + 1) % 2 ^ 32) where
    text_low : 16 ≤ has.start
    text_low = (text_reached has.start has.start_is).low

    few : room.count < 2 ^ 31
    few = let counts = counts_few allocator old place xs blocks t has.start has.start_is in let counted = has.count_is in omega arith

    pub byte_more : len ≡ min (room.count + 1) 4294967295
    byte_more = let fewer = few in omega arith

    pub byte_at : room.at ≡ start old.window.bytes place.at + room.count
    byte_at =
        let there : has.start ≡ start old.window.bytes place.at = rw has.start_is refl in
        let place_is = has.at_is text_low in
        omega arith

    pub byte_room : Reserves allocator old.window.bytes old.window.bytes old.types place (Text xs) blocks (buffer_asks old.window.bytes place.at 1 len) (len * 1)
    byte_room =
        let fewer = few in
        let longer : len ≡ room.count + 1 = omega arith in
        let fits = has.fits text_low in
        has_room allocator old.window.bytes old.types place.at place.type (Text xs) blocks (text_content place.type) (of_form old.types place.type (text_content place.type) (text_names old.types place.type t.form_is)) t.stands len
        (16 * units_named old.window.bytes place.at - 16) refl (omega arith)
