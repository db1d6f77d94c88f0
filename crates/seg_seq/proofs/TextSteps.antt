-- Strings whose text is replaced, from how the steps change the bytes.
use Rattle.std.proofs.Common.{◌≡◌, ℕ, ◌+◌, ◌*◌, ◌^◌, ◌<◌, ◌≤◌, ◌⊎◌, inl, inr, List, [], ◌∷◌, ◌++◌, length, take, drop, Option, Some, None, refl, sym, ap, ◌∙◌, arith}
use Rattle.std.proofs.Math.Seq.{take-add}
use Rattle.std.proofs.lemmas.List.{take-append-drop, length-drop, same_lists, places, append-nil, take_all}
use Rattle.std.proofs.lemmas.Bool.{cases_lt}
use Rattle.seg_spec.specs.Bytes.{slice, put, set_word, IsSame, ChangesOnly}
use Rattle.seg_spec.specs.Pointer.{target}
use Rattle.seg_spec.specs.Types.{Form, Table, form_at, size}
use Rattle.seg_spec.specs.Value.{Value, Text}
use Rattle.seg_spec.specs.Heap.{live}
use Rattle.seg_spec.specs.Block.{Kind, tag_of, block_of, IsInside, payload_size}
use Rattle.seg_spec.specs.Reads.{Place, count_at, named, start, NamesRoom, Holds}
use Rattle.seg_spec.specs.Owning.{Stands}
use Rattle.seg_spec.specs.Growing.{Succeeds, Reserves}
use Rattle.seg_spec.specs.Demand.{Ask}
use Rattle.seg_spec.proofs.BytesLaws.{put_in, put_past, length-slice}
use Rattle.seg_spec.proofs.SliceLaws.{slice-slice, slice-put_same, slice-put_other, put-changes, IsSame-part}
use Rattle.seg_spec.proofs.Values.CellChangeLaws.{ChangesOnly-none}
use Rattle.seg_spec.proofs.Values.PlaceWriteLaws.{changes_place}
use Rattle.seg_spec.proofs.Values.CallPlaceLaws.{stands_after}
use Rattle.seg_spec.proofs.Values.BufferLaws.{holds_buffered}
use Rattle.seg_seq.proofs.CallPlaceLaws.{Leaves, begun, ended}
use Rattle.seg_seq.proofs.CountWriteLaws.{count_leaves, count_names, count_is, count_kept, count_header, inner_leaves, inner_names, inner_count, inner_header}
use Rattle.seg_seq.proofs.Rooms.{block_again, reaches, none_counted, text_is, text_owns, text_counts}

-- ---- slices

put_none : (bytes : List ℕ) (at : ℕ) → put bytes at [] ≡ bytes
put_none bytes at = go (cases_lt (length bytes) (at + length {A = ℕ} []))
  where
    go : (length bytes < at + length {A = ℕ} []) ⊎ (at + length {A = ℕ} [] ≤ length bytes) → put bytes at [] ≡ bytes
    go (inl l) = put_past bytes at [] l
    go (inr l) = let e : at + 0 ≡ at = omega arith in put_in bytes at [] l ∙ ap (λ k. take at bytes ++ drop k bytes) e ∙ take-append-drop at bytes

slice_split : (bytes : List ℕ) (at n m : ℕ) → slice bytes at (n + m) ≡ slice bytes at n ++ slice bytes (at + n) m
unfolding slice
slice_split bytes at n m = take-add n m (drop at bytes) ∙ ap (λ xs. take n (drop at bytes) ++ take m xs) (drop_twice bytes at n)
  where
    drop_twice : (xs : List ℕ) (a b : ℕ) → drop b (drop a xs) ≡ drop (a + b) xs
    drop_twice xs a b = same_lists _ _ (simp (length-drop) (omega arith)) (λ k d l. grind (arith, places))

first_bytes : (xs : List ℕ) (k : ℕ) → take k xs ≡ slice xs 0 k
unfolding slice
first_bytes xs k = refl

no_bytes : (bytes : List ℕ) (at : ℕ) → length (slice bytes at 0) ≡ 0
unfolding slice
no_bytes bytes at = refl

take_slice : (bytes : List ℕ) (at k n : ℕ) → k ≤ n → take k (slice bytes at n) ≡ slice bytes at k
take_slice bytes at k n l = let e : at + 0 ≡ at = omega arith in first_bytes (slice bytes at n) k ∙ slice-slice bytes at n 0 k (omega arith) ∙ ap (λ x. slice bytes x k) e

no_length : (xs : List ℕ) → length xs ≡ 0 → xs ≡ []
no_length [] e = refl
no_length (x ∷ xs) e = absurd (omega (arith, e))

-- a string that still points to its buffer contains the bytes that are there now
holds_text : (old new : List ℕ) (table : Table) (place : Place) (others ys : List ℕ) → form_at table place.type ≡ Some Form.str → others ≡ named old place.at ++ [] → target new place.at ≡ target old place.at
    → NamesRoom new place.at (tag_of Kind.buffer place.type) 1 → ys ≡ slice new (start new place.at) (count_at new place.at) → Holds new table place (Text ys) others
holds_text old new table place others ys f own names room text =
    let same : others ≡ named new place.at ++ [] = rw names own in
    rw same (holds_buffered new table place Form.str (Text ys) [] f refl room (ap (λ bs. Text bs) text, refl))

-- ---- the buffer gets room, and the count is written

-- the string after the count is written: it has its first bytes, and n more
pub record Made (allocator : ℕ) (old new : List ℕ) (table : Table) (place : Place) (xs blocks : List ℕ) (asks : List Ask) (kept n : ℕ) : Type 0 where
  pub ys : List ℕ
  pub prefix : take kept ys ≡ take kept xs
  pub long : length ys ≡ kept + n
  pub others : List ℕ
  pub succeeds : Succeeds allocator old new table place (Text ys) asks [] blocks others

module _ (allocator : ℕ) (old mid : List ℕ) (table : Table) (place : Place) (xs blocks : List ℕ) (f : form_at table place.type ≡ Some Form.str) (s : Stands allocator old table place (Text xs) blocks)
    (asks : List Ask) (kept n : ℕ) (few : kept ≤ length xs) (small : kept + n < 2 ^ 32) (r : Reserves allocator old mid table place (Text xs) blocks asks ((kept + n) * 1))
    (new : List ℕ) (new_is : new ≡ set_word mid (place.at + 4) (kept + n)) where
  t : Stands allocator mid table place (Text xs) r.others
  t = stands_after allocator old mid table place (Text xs) (Text xs) blocks r.others r.succeeds.left s r.succeeds.changes

  l : Leaves allocator old mid table place blocks r.others r.succeeds.left
  l = begun allocator old mid table place (Text xs) (Text xs) blocks r.others r.succeeds.left s r.succeeds.changes

  pub names : target new place.at ≡ target mid place.at
  names = count_names allocator old mid table s.is_table place blocks r.others r.succeeds.left l (kept + n) small new new_is

  counts : count_at new place.at ≡ kept + n
  counts = count_is allocator old mid table s.is_table place blocks r.others r.succeeds.left l (kept + n) small new new_is

  now_leaves : Leaves allocator old new table place blocks r.others r.succeeds.left
  now_leaves = count_leaves allocator old mid table s.is_table place blocks r.others r.succeeds.left l (kept + n) small new new_is

  ys : List ℕ
  ys = slice new (start new place.at) (count_at new place.at)

  made_of : NamesRoom new place.at (tag_of Kind.buffer place.type) 1 → take kept ys ≡ take kept xs → length ys ≡ kept + n → Made allocator old new table place xs blocks asks kept n
  unfolding ys
  made_of room first long = record {
    ys = ys;
    prefix = first;
    long = long;
    others = r.others;
    succeeds = record {
      left = r.succeeds.left;
      left_is = r.succeeds.left_is;
      changes = ended allocator old new table place blocks r.others r.succeeds.left now_leaves (Text ys)
          (holds_text mid new table place r.others ys f (text_owns allocator mid table place xs r.others f t) names room refl);
    };
  }

  without : target mid place.at ≡ None → Made allocator old new table place xs blocks asks kept n
  unfolding ys
  without e =
      let none : (kept + n) * 1 ≡ 0 = rw e at r.room in
      let zero : kept ≡ 0 = omega arith in
      let nothing : count_at new place.at ≡ 0 = counts ∙ (let z : kept + n ≡ 0 = omega arith in z) in
      made_of (rw (names, e) nothing) (rw zero refl) (rw nothing (let z : 0 ≡ kept + n = omega arith in no_bytes new (start new place.at) ∙ z))

  with_one : (p : ℕ) → target mid place.at ≡ Some p → Made allocator old new table place xs blocks asks kept n
  unfolding ys
  with_one p e =
      let g = reaches allocator mid table place Form.str (Text xs) r.others f refl t p e in
      let header = count_header allocator old mid table s.is_table place blocks r.others r.succeeds.left l (kept + n) small new new_is (block_of p) g.mine in
      let same = count_kept allocator old mid table s.is_table place blocks r.others r.succeeds.left l (kept + n) small new new_is (block_of p) g.mine in
      let room : (kept + n) * 1 ≤ payload_size mid (block_of p) = rw e at r.room in
      let is_there : start new place.at ≡ p = rw (names, e) refl in
      let was_there : start mid place.at ≡ p = rw e refl in
      let known = text_counts allocator mid table place xs r.others f t in
      let own : block_of p + 16 ≡ p = omega (arith, g.low) in
      let kept_same : IsSame mid new p kept = IsSame-part mid new (block_of p + 16) (payload_size mid (block_of p)) p kept (omega (arith, g.low)) (omega (arith, g.low)) same.payload in
      let text : xs ≡ slice mid p (count_at mid place.at) = rw was_there at (text_is allocator mid table place xs r.others f t) in
      made_of
      (rw (names, e) (block_again mid new p (tag_of Kind.buffer place.type) (count_at mid place.at * 1) (count_at new place.at * 1) header (rw counts room) g.block_is))
      (rw (is_there, counts) (take_slice new p kept (kept + n) (omega arith) ∙ kept_same ∙ sym (take_slice mid p kept (count_at mid place.at) (omega arith)) ∙ ap (take kept) (sym text)))
      (rw (is_there, counts) (length-slice new p (kept + n) (omega (arith, g.high, now_leaves.frames.length_kept, l.frames.length_kept))))

  pub room_made : Made allocator old new table place xs blocks asks kept n
  room_made = go (target mid place.at) refl
    where
      go : (o : Option ℕ) → target mid place.at ≡ o → Made allocator old new table place xs blocks asks kept n
      go None e = without e
      go (Some p) e = with_one p e

-- ---- bytes are written into a string

module _ (allocator : ℕ) (old mid : List ℕ) (table : Table) (place : Place) (v : Value) (ys blocks others : List ℕ) (f : form_at table place.type ≡ Some Form.str) (s : Stands allocator old table place v blocks)
    (asks : List Ask) (made : Succeeds allocator old mid table place (Text ys) asks [] blocks others) (kept : ℕ) (bs : List ℕ) (long : length ys ≡ kept + length bs)
    (new : List ℕ) (new_is : new ≡ put mid (start mid place.at + kept) bs) where
  u : Stands allocator mid table place (Text ys) others
  u = stands_after allocator old mid table place v (Text ys) blocks others made.left s made.changes

  m : Leaves allocator old mid table place blocks others made.left
  m = begun allocator old mid table place v (Text ys) blocks others made.left s made.changes

  -- there are no bytes to write
  none_written : length bs ≡ 0 → Succeeds allocator old new table place (Text (take kept ys ++ bs)) asks [] blocks others
  none_written e =
      let nothing : bs ≡ [] = no_length bs e in
      let same : new ≡ mid = new_is ∙ ap (put mid (start mid place.at + kept)) nothing ∙ put_none mid (start mid place.at + kept) in
      let all : take kept ys ++ bs ≡ ys = ap (λ zs. take kept ys ++ zs) nothing ∙ append-nil (take kept ys) ∙ take_all kept ys (omega arith) in
      rw (same, all) made

  some_written : 1 ≤ length bs → (p : ℕ) → target mid place.at ≡ Some p → Succeeds allocator old new table place (Text (take kept ys ++ bs)) asks [] blocks others
  some_written some p e =
      let g = reaches allocator mid table place Form.str (Text ys) others f refl u p e in
      let at_is : start mid place.at ≡ p = rw e refl in
      let written : new ≡ put mid (p + kept) bs = rw at_is at new_is in
      let known = text_counts allocator mid table place ys others f u in
      let room = g.block_is.room in
      let changes : ChangesOnly mid new (p + kept) (length bs) = rw written (put-changes mid (p + kept) bs) in
      let within : IsInside mid (block_of p) (p + kept) (length bs) = record { low = omega (arith, g.low); high = omega (arith, g.low) } in
      let after = inner_leaves allocator old mid table s.is_table place blocks others made.left m new (block_of p) (p + kept) (length bs) changes within g.mine in
      let names = inner_names allocator old mid table s.is_table place blocks others made.left m new (block_of p) (p + kept) (length bs) changes within g.mine in
      let counts = inner_count allocator old mid table s.is_table place blocks others made.left m new (block_of p) (p + kept) (length bs) changes within g.mine in
      let header = inner_header allocator old mid table s.is_table place blocks others made.left m new (block_of p) (p + kept) (length bs) changes within g.mine (block_of p) g.mine in
      let there : start new place.at ≡ p = rw (names, e) refl in
      let count_now : count_at new place.at ≡ kept + length bs = counts ∙ sym known ∙ long in
      let text : ys ≡ slice mid p (kept + length bs) = text_is allocator mid table place ys others f u ∙ ap (λ a. slice mid a (count_at mid place.at)) at_is ∙ ap (slice mid p) (sym known ∙ long) in
      let front : slice new p kept ≡ take kept ys = ap (λ b. slice b p kept) written ∙ slice-put_other mid (p + kept) bs p kept (inl (omega arith))
      ∙ sym (take_slice mid p kept (kept + length bs) (omega arith)) ∙ ap (take kept) (sym text) in
      let back : slice new (p + kept) (length bs) ≡ bs = ap (λ b. slice b (p + kept) (length bs)) written ∙ slice-put_same mid (p + kept) bs (length bs) refl (omega (arith, g.high)) in
      let all : take kept ys ++ bs ≡ slice new (start new place.at) (count_at new place.at) =
      sym (ap (λ a. slice new a (count_at new place.at)) there ∙ ap (slice new p) count_now ∙ slice_split new p kept (length bs) ∙ ap (λ zs. zs ++ slice new (p + kept) (length bs)) front ∙ ap (λ zs. take kept ys ++ zs) back) in
      record {
        left = made.left;
        left_is = made.left_is;
        changes = ended allocator old new table place blocks others made.left after (Text (take kept ys ++ bs))
            (holds_text mid new table place others (take kept ys ++ bs) f (text_owns allocator mid table place ys others f u) names
            (rw (names, e) (block_again mid new p (tag_of Kind.buffer place.type) (count_at mid place.at * 1) (count_at new place.at * 1) header (rw counts room) g.block_is)) all);
      }

  pub text_written : Succeeds allocator old new table place (Text (take kept ys ++ bs)) asks [] blocks others
  text_written = go (cases_lt 0 (length bs)) (target mid place.at) refl
    where
      go : (0 < length bs) ⊎ (length bs ≤ 0) → (o : Option ℕ) → target mid place.at ≡ o → Succeeds allocator old new table place (Text (take kept ys ++ bs)) asks [] blocks others
      go (inr none) o e = none_written (omega arith)
      go (inl some) (Some p) e = some_written some p e
      go (inl some) None e =
          let none = none_counted allocator mid table place Form.str (Text ys) others f refl u e in
          let known = text_counts allocator mid table place ys others f u in
          absurd (omega arith)

-- ---- the last byte is removed

module _ (allocator : ℕ) (old : List ℕ) (table : Table) (place : Place) (xs blocks : List ℕ) (f : form_at table place.type ≡ Some Form.str) (s : Stands allocator old table place (Text xs) blocks)
    (n : ℕ) (more : length xs ≡ n + 1) (new : List ℕ) (new_is : new ≡ set_word old (place.at + 4) n) where
  still : Leaves allocator old old table place blocks blocks (live old)
  still = begun allocator old old table place (Text xs) (Text xs) blocks blocks (live old) s
      (changes_place allocator old table place (Text xs) blocks s old (ChangesOnly-none old place.at (size table place.type)) (Text xs) blocks blocks s.holds_it)

  known : length xs ≡ count_at old place.at
  known = text_counts allocator old table place xs blocks f s

  cut_at : (p : ℕ) → target old place.at ≡ Some p → Succeeds allocator old new table place (Text (take n xs)) [] [] blocks blocks
  cut_at p is =
      let g = reaches allocator old table place Form.str (Text xs) blocks f refl s p is in
      let room = g.block_is.room in
      let k = known in
      let small : n < 2 ^ 32 = let h = s.heap.small in omega (arith, g.high) in
      let names = count_names allocator old old table s.is_table place blocks blocks (live old) still n small new new_is in
      let counts = count_is allocator old old table s.is_table place blocks blocks (live old) still n small new new_is in
      let header = count_header allocator old old table s.is_table place blocks blocks (live old) still n small new new_is (block_of p) g.mine in
      let kept = count_kept allocator old old table s.is_table place blocks blocks (live old) still n small new new_is (block_of p) g.mine in
      let now : start new place.at ≡ p = rw (names, is) refl in
      let was : start old place.at ≡ p = rw is refl in
      let same : IsSame old new p n = IsSame-part old new (block_of p + 16) (payload_size old (block_of p)) p n (omega (arith, g.low)) (omega (arith, g.low)) kept.payload in
      let text : xs ≡ slice old p (count_at old place.at) = rw was at (text_is allocator old table place xs blocks f s) in
      let all : take n xs ≡ slice new (start new place.at) (count_at new place.at) =
      ap (take n) text ∙ take_slice old p n (count_at old place.at) (omega arith) ∙ sym same ∙ sym (ap (λ a. slice new a (count_at new place.at)) now ∙ ap (slice new p) counts) in
      record {
        left = live old;
        left_is = refl;
        changes = ended allocator old new table place blocks blocks (live old) (count_leaves allocator old old table s.is_table place blocks blocks (live old) still n small new new_is) (Text (take n xs))
            (holds_text old new table place blocks (take n xs) f (text_owns allocator old table place xs blocks f s) names
            (rw (names, is) (block_again old new p (tag_of Kind.buffer place.type) (count_at old place.at * 1) (count_at new place.at * 1) header (rw counts (omega arith)) g.block_is)) all);
      }

  pub byte_removed : Succeeds allocator old new table place (Text (take n xs)) [] [] blocks blocks
  byte_removed = go (target old place.at) refl
    where
      go : (o : Option ℕ) → target old place.at ≡ o → Succeeds allocator old new table place (Text (take n xs)) [] [] blocks blocks
      go (Some p) e = cut_at p e
      go None e =
          let none = none_counted allocator old table place Form.str (Text xs) blocks f refl s e in
          let k = known in
          absurd (omega arith)
