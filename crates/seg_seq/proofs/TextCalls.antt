-- The results of the calls on strings, from the results of the calls below.
use Rattle.std.proofs.Common.{◌≡◌, ℕ, ◌+◌, ◌*◌, ◌%◌, ◌^◌, ◌<◌, ◌≤◌, ◌⊎◌, inl, inr, min, List, [], ◌∷◌, ◌++◌, length, take, Option, Some, None, refl, sym, ap, ◌∙◌, arith}
use Rattle.std.proofs.Math.Nat.{mul-one}
use Rattle.std.specs.Prelude.{Result, Ok, Err}
use Rattle.std.proofs.lemmas.Bool.{cases_lt}
use Rattle.std.proofs.lemmas.List.{take_all}
use Rattle.seg_spec.specs.Bytes.{put, set_word, set_byte, set_number}
use Rattle.seg_spec.specs.Pointer.{target}
use Rattle.seg_spec.specs.Types.{Form, Table, form_at}
use Rattle.seg_spec.specs.Value.{Text}
use Rattle.seg_spec.specs.Reads.{Place, count_at, start}
use Rattle.seg_spec.specs.Calls.{Refuses}
use Rattle.seg_spec.specs.Growing.{HasRoomFor, Reserves}
use Rattle.seg_spec.specs.Spending.{buffer_asks, units_named}
use Rattle.seg_spec.specs.Owning.{Stands}
use Rattle.seg_spec.proofs.Values.PlaceWriteLaws.{place_within}
use Rattle.seg_spec.proofs.Tables.TypeSizeLaws.{size_large}
use Rattle.seg_spec.proofs.Values.CallPlaceLaws.{stands_after}
use Rattle.seg_raw.specs.declared.code.Code.TheVariants.{BadAlloc}
use Rattle.seg_value.specs.Stored.{Stored}
use Rattle.seg_value.specs.Buffers.{NamesBuffer}
use Rattle.seg_cells.specs.declared.content.Content.{Content}
use Rattle.seg_cells.specs.declared.entry.Held.TheVariants.{Bytes}
use Rattle.seg_seq.specs.Buffers.{NamesNone}
use Rattle.seg_seq.specs.Sequences.{HasText, LacksRoom, LacksByte, ComesToHold, ExtendsText, text_asks}
use Rattle.seg_seq.proofs.Rooms.{reaches, entries_fit, text_counts}
use Rattle.seg_seq.proofs.TooMuch.{too_much}
use Rattle.seg_seq.proofs.TextSteps.{names, room_made, text_written, byte_removed}

-- no buffer has room for so large a text
no_such_room : (allocator : ℕ) (mid : List ℕ) (table : Table) (place : Place) (xs blocks : List ℕ) (n : ℕ)
    → form_at table place.type ≡ Some Form.str → Stands allocator mid table place (Text xs) blocks → HasRoomFor mid place.at n → n ≤ 2 ^ 30
no_such_room allocator mid table place xs blocks n f s room = go (target mid place.at) refl
  where
    go : (o : Option ℕ) → target mid place.at ≡ o → n ≤ 2 ^ 30
    go None e = let zero : n ≡ 0 = rw e at room in omega arith
    go (Some p) e =
        let r = reaches allocator mid table place Form.str (Text xs) blocks f refl s p e in
        let fits = rw e at room in
        let small = s.heap.small in
        omega (arith, r.high)

module _ (allocator : ℕ) (old : Stored) (place : Place) (xs blocks : List ℕ) (t : HasText allocator old place xs blocks) (kept added : ℕ) where
  -- no string is that long
  pub too_long : (new : Stored) → new.window.bytes ≡ old.window.bytes → 2 ^ 32 ≤ kept + added → LacksRoom allocator old new (text_asks old place (kept + added)) BadAlloc
  too_long new same much = record {
    code_is = refl;
    refuses = record {
      no_room = too_much allocator old.window.bytes old.types place Form.str (Text xs) blocks t.form_is refl t.stands 1 (kept + added) (omega arith);
      same = same;
    };
  }

  -- no gap is large enough
  pub no_room_made : (new : Stored) (size len : ℕ) → size ≡ 1 → len ≡ min (kept + added) 4294967295 → Refuses allocator old.window.bytes new.window.bytes (buffer_asks old.window.bytes place.at size len)
      → LacksRoom allocator old new (text_asks old place (kept + added)) BadAlloc
  no_room_made new size len one len_is r = go (cases_lt (kept + added) (2 ^ 32))
    where
      go : (kept + added < 2 ^ 32) ⊎ (2 ^ 32 ≤ kept + added) → LacksRoom allocator old new (text_asks old place (kept + added)) BadAlloc
      go (inr much) = too_long new r.same much
      go (inl few) =
          let all : len ≡ kept + added = omega arith in
          record { code_is = refl; refuses = rw (one, all) at r }

  -- the buffer gets the room
  pub makes_room : (mid new : Stored) (size len at : ℕ) → size ≡ 1 → len ≡ min (kept + added) 4294967295 → kept ≤ length xs
      → Reserves allocator old.window.bytes mid.window.bytes old.types place (Text xs) blocks (buffer_asks old.window.bytes place.at size len) (len * size)
      → new.window.bytes ≡ set_word mid.window.bytes (place.at + 4) len → at ≡ start mid.window.bytes place.at + kept → ExtendsText allocator old new place kept added xs blocks at len
  makes_room mid new size len at one len_is few r new_is at_is =
      let u = stands_after allocator old.window.bytes mid.window.bytes old.types place (Text xs) (Text xs) blocks r.others r.succeeds.left t.stands r.succeeds.changes in
      let room : HasRoomFor mid.window.bytes place.at (len * 1) = rw one at r.room in
      let short = no_such_room allocator mid.window.bytes old.types place xs r.others (len * 1) t.form_is u room in
      let all : len ≡ kept + added = omega arith in
      let r' : Reserves allocator old.window.bytes mid.window.bytes old.types place (Text xs) blocks (text_asks old place (kept + added)) ((kept + added) * 1) = rw (one, all) at r in
      let same = names allocator old.window.bytes mid.window.bytes old.types place xs blocks t.form_is t.stands (text_asks old place (kept + added)) kept added few (omega arith) r' new.window.bytes (rw all at new_is) in
      let m = room_made allocator old.window.bytes mid.window.bytes old.types place xs blocks t.form_is t.stands (text_asks old place (kept + added)) kept added few (omega arith) r' new.window.bytes (rw all at new_is) in
      record {
        ys = m.ys;
        prefix = m.prefix;
        long = m.long;
        holds_it = record { others = m.others; succeeds = m.succeeds };
        len_is = all;
        at_is = at_is ∙ ap (λ o. Rattle.std.specs.Prelude.unwrap_or o 0 + kept) (sym same);
      }

  -- the bytes are written into that room
  pub written_to : (mid new : Stored) (at len : ℕ) (bs : List ℕ) → added ≡ length bs → ExtendsText allocator old mid place kept added xs blocks at len → new.window.bytes ≡ put mid.window.bytes at bs
      → ComesToHold allocator old new place (Text (take kept xs ++ bs)) (text_asks old place (kept + length bs)) [] blocks
  written_to mid new at len bs n m new_is =
      let long : length m.ys ≡ kept + length bs = m.long ∙ ap (λ k. kept + k) n in
      let made = rw n at m.holds_it.succeeds in
      let w = text_written allocator old.window.bytes mid.window.bytes old.types place (Text xs) m.ys blocks m.holds_it.others t.form_is t.stands (text_asks old place (kept + length bs)) made kept bs long
      new.window.bytes (rw m.at_is at new_is) in
      record { others = m.holds_it.others; succeeds = rw m.prefix at w }

module _ (allocator : ℕ) (old : Stored) (place : Place) (xs blocks : List ℕ) (t : HasText allocator old place xs blocks) where
  pub counted_all : (count : ℕ) → count ≡ count_at old.window.bytes place.at → count ≡ length xs
  counted_all count e = e ∙ sym (text_counts allocator old.window.bytes old.types place xs blocks t.form_is t.stands)

  pub all_kept : (count : ℕ) → count ≡ count_at old.window.bytes place.at → take count xs ≡ xs
  all_kept count e = take_all count xs (omega (arith, counted_all count e))

-- a string whose cell points to no buffer has no room for a byte
pub none_lacks : (allocator : ℕ) (old : Stored) (place : Place) (xs blocks : List ℕ) → HasText allocator old place xs blocks → NamesNone old.window.bytes place.at → LacksByte old place
none_lacks allocator old place xs blocks t (inl e) =
    let none : units_named old.window.bytes place.at ≡ 0 = rw e refl in
    omega arith
none_lacks allocator old place xs blocks t (inr short) =
    let within = place_within allocator old.window.bytes old.types place (Text xs) blocks t.stands in
    let large = size_large old.types t.stands.is_table place.type in
    absurd (omega arith)

-- a string whose cell points to a buffer has no more bytes than the segment
pub counts_few : (allocator : ℕ) (old : Stored) (place : Place) (xs blocks : List ℕ) → HasText allocator old place xs blocks → (p : ℕ) → target old.window.bytes place.at ≡ Some p → count_at old.window.bytes place.at < 2 ^ 31
counts_few allocator old place xs blocks t p e =
    let fits : p + count_at old.window.bytes place.at ≤ length old.window.bytes = rw mul-one at (entries_fit allocator old.window.bytes old.types place Form.str (Text xs) blocks t.form_is refl t.stands p e) in
    let small = t.stands.heap.small in
    omega arith

-- a write of one byte
pub one_byte : (bytes : List ℕ) (at x : ℕ) → x < 256 → set_byte bytes at x ≡ put bytes at (x ∷ [])
unfolding set_number
one_byte bytes at x small = let same : x % 256 ≡ x = omega arith in ap (λ y. put bytes at (y ∷ [])) same

-- a string's buffer contains bytes
pub text_entry : (table : Table) (T : ℕ) (content : Content) → form_at table T ≡ Some Form.str → NamesBuffer table T content → content.entry.held ≡ Bytes
text_entry table T content f n = let c = rw f at n.0 in c.held_is

-- the last byte is removed
pub byte_popped : (allocator : ℕ) (old new : Stored) (place : Place) (xs blocks : List ℕ) → HasText allocator old place xs blocks → (n : ℕ) → length xs ≡ n + 1 → new.window.bytes ≡ set_word old.window.bytes (place.at + 4) n
    → ComesToHold allocator old new place (Text (take n xs)) [] [] blocks
byte_popped allocator old new place xs blocks t n more new_is = record {
  others = blocks;
  succeeds = byte_removed allocator old.window.bytes old.types place xs blocks t.form_is t.stands n more new.window.bytes new_is;
}
