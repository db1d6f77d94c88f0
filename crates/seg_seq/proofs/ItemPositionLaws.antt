-- The positions of a string's bytes and of a vector's items.
use Rattle.std.proofs.Common.{◌≡◌, ℕ, ◌+◌, ◌*◌, ◌%◌, ◌^◌, ◌<◌, ◌≤◌, List, length, take, get_or, Option, Some, None, refl, sym, ap, ◌∙◌, arith, drop-cons}
use Rattle.seg_spec.specs.Bytes.{byte, slice, spelled}
use Rattle.seg_spec.specs.Pointer.{target}
use Rattle.seg_spec.specs.Types.{Form, size}
use Rattle.seg_spec.specs.Value.{Values, Seq, Text}
use Rattle.seg_spec.specs.Reads.{Place, count_at, start}
use Rattle.seg_spec.proofs.BytesLaws.{number_in, number-slice}
use Rattle.seg_spec.proofs.SliceLaws.{slice-slice}
use Rattle.seg_value.specs.Stored.{Stored}
use Rattle.seg_cells.specs.Places.{object_at}
use Rattle.seg_seq.specs.Sequences.{HasText, HasItems, ShowsByte, ShowsItem}
use Rattle.seg_seq.proofs.Rooms.{its, entries_fit, none_counted, text_is, text_counts}
use Rattle.seg_seq.proofs.Items.{leads_to_item}
use Rattle.seg_seq.proofs.ItemCalls.{item_at}

-- the byte at an index of a list
byte_of : (xs : List ℕ) (i : ℕ) → i < length xs → byte xs i ≡ get_or xs i 0
byte_of xs i l = number_in 1 xs i (omega arith) ∙ ap (λ ys. spelled (take 1 ys)) (drop-cons xs i 0 l) ∙ (let e : get_or xs i 0 + 256 * 0 ≡ get_or xs i 0 = omega arith in e)

module _ (allocator : ℕ) (heap : Stored) (place : Place) (xs blocks : List ℕ) (t : HasText allocator heap place xs blocks) (index first each before at : ℕ) (below : index < count_at heap.window.bytes place.at)
    (first_is : first ≡ start heap.window.bytes place.at) (each_is : each ≡ 1) (before_is : before ≡ 0) (at_is : at ≡ (first + index * each + before) % 2 ^ 32) where
  bytes : List ℕ
  bytes = heap.window.bytes

  counts : length xs ≡ count_at heap.window.bytes place.at
  counts = text_counts allocator heap.window.bytes heap.types place xs blocks t.form_is t.stands

  start_fits : start heap.window.bytes place.at + count_at heap.window.bytes place.at ≤ length heap.window.bytes
  start_fits = go (target heap.window.bytes place.at) refl
    where
      go : (o : Option ℕ) → target heap.window.bytes place.at ≡ o → start heap.window.bytes place.at + count_at heap.window.bytes place.at ≤ length heap.window.bytes
      go None e = let none = none_counted allocator heap.window.bytes heap.types place Form.str (Text xs) blocks t.form_is refl t.stands e in absurd (omega arith)
      go (Some p) e =
          let fits = entries_fit allocator heap.window.bytes heap.types place Form.str (Text xs) blocks t.form_is refl t.stands p e in
          let there : start heap.window.bytes place.at ≡ p = rw e refl in
          rw there (omega arith)

  at_there : at ≡ start heap.window.bytes place.at + index
  at_there =
      let fits = start_fits in
      let small = t.stands.heap.small in
      let alone : start heap.window.bytes place.at + index * 1 ≡ start heap.window.bytes place.at + index = omega arith in
      item_at first index each before (start heap.window.bytes place.at) index 1 at first_is refl each_is before_is at_is (omega arith) ∙ alone

  pub shows_byte : ShowsByte heap place xs index at
  shows_byte =
      let n = counts in
      let text = text_is allocator heap.window.bytes heap.types place xs blocks t.form_is t.stands in
      let part = ap (λ ys. slice ys index 1) text ∙ slice-slice heap.window.bytes (start heap.window.bytes place.at) (count_at heap.window.bytes place.at) index 1 (omega arith) in
      let same = number-slice 1 heap.window.bytes xs index (start heap.window.bytes place.at + index) part in
      record {
        below = omega arith;
        at_is = at_there;
        byte_is = ap (byte heap.window.bytes) at_there ∙ sym same ∙ byte_of xs index (omega arith);
      }

module _ (allocator : ℕ) (heap : Stored) (cell T U : ℕ) (vs : Values) (blocks : List ℕ) (h : HasItems allocator heap (object_at cell T) U vs blocks) (index first each before at : ℕ) (below : index < count_at heap.window.bytes cell)
    (first_is : first ≡ start heap.window.bytes cell) (each_is : each ≡ 0 + size heap.types U) (before_is : before ≡ 0) (at_is : at ≡ (first + index * each + before) % 2 ^ 32) where
  pub shows_item : ShowsItem heap (object_at cell T) U index at
  shows_item = go (target heap.window.bytes cell) refl
    where
      go : (o : Option ℕ) → target heap.window.bytes cell ≡ o → ShowsItem heap (object_at cell T) U index at
      go None e = let none = none_counted allocator heap.window.bytes heap.types (object_at cell T) (Form.vec U) (Seq vs) blocks h.form_is refl h.stands e in absurd (omega arith)
      go (Some p) e =
          let fits = entries_fit allocator heap.window.bytes heap.types (object_at cell T) (Form.vec U) (Seq vs) blocks h.form_is refl h.stands p e in
          let there : start heap.window.bytes cell ≡ p = rw e refl in
          let less = Rattle.std.proofs.Math.Nat.mul-le-mul_right (size heap.types U) below in
          let small = h.stands.heap.small in
          let place = item_at first index each before (start heap.window.bytes cell) index (size heap.types U) at first_is refl (let x : each ≡ size heap.types U = omega arith in x) before_is at_is (rw there (omega arith)) in
          leads_to_item heap.window.bytes heap.types (object_at cell T) U h.form_is index at (its allocator heap.window.bytes heap.types (object_at cell T) (Form.vec U) (Seq vs) blocks h.form_is refl h.stands).room below place
