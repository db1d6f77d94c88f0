-- Iterating over the cells of a value: types without pointers, with one cell, and with fields.
use Rattle.std.proofs.Common.{◌≡◌, ℕ, ◌+◌, ◌^◌, ◌<◌, ◌≤◌, inr, List, length, Option, Some, None, true, false, refl, sym, ap, ◌∙◌, arith, add-zero}
use Rattle.std.proofs.lemmas.Bool.Decides.{nat_tests}
use Rattle.seg_spec.specs.Bytes.{word, set_word, set_long, slice, number, number_of, set_number, spelling, ChangesOnly}
use Rattle.seg_spec.specs.Pointer.{target}
use Rattle.seg_spec.specs.Types.{Form, Table, form_at, size, IsTable, fields_of, fields_by}
use Rattle.seg_spec.specs.Reads.{count_at}
use Rattle.seg_spec.specs.Cells.{IsWithin, ChangesCells, IsDefaulted, IsFurther, further}
use Rattle.seg_spec.proofs.BytesLaws.{number-set_same, number-set_other}
use Rattle.seg_spec.proofs.Tables.TypeSizeLaws.{size_large}
use Rattle.seg_spec.proofs.SliceLaws.{slice-slice, slice-put_same}
use Rattle.seg_spec.proofs.Images.RootWriteLaws.{set_number-changes}
use Rattle.seg_spec.proofs.Values.CellLaws.{IsOne}
use Rattle.seg_spec.proofs.Values.CellChangeLaws.{ChangesOnly-wider, defaulted_local, further_local, none_changed, i64_changed, one_changed, none_written, i64_written, length_fields}
use Rattle.seg_layout.specs.Forms.{has_cells}
use Rattle.seg_cells.specs.Cells.{cells_of}
use Rattle.seg_cells.specs.declared.cells.Cells.TheVariants as cells

-- ---- the two words of an empty cell

first_word : number_of 4 (slice (spelling 8 1) 0 4) ≡ 1
unfolding number_of slice
first_word = refl

second_word : number_of 4 (slice (spelling 8 1) 4 4) ≡ 0
unfolding number_of slice
second_word = refl

eight_long : length (spelling 8 1) ≡ 8
eight_long = refl

number_in : (bytes : List ℕ) (at d : ℕ) → slice bytes (at + d) 4 ≡ slice (spelling 8 1) d 4 → word bytes (at + d) ≡ number_of 4 (slice (spelling 8 1) d 4)
unfolding number
number_in bytes at d e = ap (number_of 4) e

the_eight : (a : List ℕ) (at : ℕ) → at + 8 ≤ length a → slice (set_long a at 1) at 8 ≡ spelling 8 1
unfolding set_number
the_eight a at fits = slice-put_same a at (spelling 8 1) 8 (sym eight_long) fits

-- an empty cell has a null pointer and the count 0
pub empty_words : (a : List ℕ) (at : ℕ) → at + 8 ≤ length a → (word (set_long a at 1) at ≡ 1) × (count_at (set_long a at 1) at ≡ 0)
empty_words a at fits =
    (rw (add-zero at) at (number_in (set_long a at 1) at 0 (part 0 (omega arith)) ∙ first_word), number_in (set_long a at 1) at 4 (part 4 (omega arith)) ∙ second_word)
  where
    part : (d : ℕ) → d + 4 ≤ 8 → slice (set_long a at 1) (at + d) 4 ≡ slice (spelling 8 1) d 4
    part d l = sym (slice-slice (set_long a at 1) at 8 d 4 l) ∙ ap (λ xs. slice xs d 4) (the_eight a at fits)

-- a pointer with the distance 1 is null
null-word : (bytes : List ℕ) (at : ℕ) → word bytes at ≡ 1 → target bytes at ≡ None
unfolding target
null-word bytes at e = rw e refl

-- ---- what the values of a form consist of

pub a_number : (o : Option Form) → has_cells o ≡ false → cells_of o ≡ cells.Number
a_number None h = refl
a_number (Some Form.i64) h = refl
a_number (Some Form.str) h = absurd (cc)
a_number (Some (Form.vec U)) h = absurd (cc)
a_number (Some (Form.list U)) h = absurd (cc)
a_number (Some (Form.flat_map U)) h = absurd (cc)
a_number (Some (Form.map U)) h = absurd (cc)
a_number (Some (Form.own U)) h = absurd (cc)
a_number (Some (Form.shared U)) h = absurd (cc)
a_number (Some (Form.struct Us)) h = absurd (cc)

pub no_pointers : (o : Option Form) → cells_of o ≡ cells.Number → has_cells o ≡ false
no_pointers None h = refl
no_pointers (Some Form.i64) h = refl
no_pointers (Some Form.str) h = absurd (cc)
no_pointers (Some (Form.vec U)) h = absurd (cc)
no_pointers (Some (Form.list U)) h = absurd (cc)
no_pointers (Some (Form.flat_map U)) h = absurd (cc)
no_pointers (Some (Form.map U)) h = absurd (cc)
no_pointers (Some (Form.own U)) h = absurd (cc)
no_pointers (Some (Form.shared U)) h = absurd (cc)
no_pointers (Some (Form.struct Us)) h = absurd (cc)

-- a pointer's type has no fields
pub one_cell : (table : Table) (o : Option Form) → cells_of o ≡ cells.Pointer → (length (fields_by table o) ≡ 0) × (has_cells o ≡ true)
one_cell table None is = absurd (cc)
one_cell table (Some Form.i64) is = absurd (cc)
one_cell table (Some (Form.struct Us)) is = absurd (cc)
one_cell table (Some Form.str) is = (refl, refl)
one_cell table (Some (Form.vec U)) is = (refl, refl)
one_cell table (Some (Form.list U)) is = (refl, refl)
one_cell table (Some (Form.flat_map U)) is = (refl, refl)
one_cell table (Some (Form.map U)) is = (refl, refl)
one_cell table (Some (Form.own U)) is = (refl, refl)
one_cell table (Some (Form.shared U)) is = (refl, refl)

module _ (table : Table) (valid : IsTable table) (T : ℕ) where
  pub record IsStruct : Type 0 where
    pub parts : List ℕ
    pub form_is : form_at table T ≡ Some (Form.struct parts)

  struct_by : (o : Option Form) → form_at table T ≡ o → 1 ≤ length (fields_by table o) → IsStruct
  struct_by None e h = absurd (omega arith)
  struct_by (Some (Form.struct Us)) e h = record { parts = Us; form_is = e }
  struct_by (Some Form.i64) e h = absurd (omega arith)
  struct_by (Some Form.str) e h = absurd (omega arith)
  struct_by (Some (Form.vec U)) e h = absurd (omega arith)
  struct_by (Some (Form.list U)) e h = absurd (omega arith)
  struct_by (Some (Form.flat_map U)) e h = absurd (omega arith)
  struct_by (Some (Form.map U)) e h = absurd (omega arith)
  struct_by (Some (Form.own U)) e h = absurd (omega arith)
  struct_by (Some (Form.shared U)) e h = absurd (omega arith)

  -- a type with fields is a struct
  pub struct_of : 1 ≤ length (fields_of table T) → IsStruct
  struct_of h = struct_by (form_at table T) refl h

  pub record IsCell : Type 0 where
    pub form : Form
    pub form_is : form_at table T ≡ Some form
    pub one : IsOne table valid form

  cell_by : (o : Option Form) → form_at table T ≡ o → has_cells o ≡ true → length (fields_by table o) ≡ 0 → IsCell
  cell_by None e h n = absurd (cc)
  cell_by (Some (Form.struct Us)) e h n =
      let less = valid.forms T (Form.struct Us) e in
      let some = less.0 in
      let long = length_fields table 0 Us in
      absurd (omega arith)
  cell_by (Some Form.i64) e h n = absurd (cc)
  cell_by (Some Form.str) e h n = record { form = Form.str; form_is = e; one = tt }
  cell_by (Some (Form.vec U)) e h n = record { form = Form.vec U; form_is = e; one = tt }
  cell_by (Some (Form.list U)) e h n = record { form = Form.list U; form_is = e; one = tt }
  cell_by (Some (Form.flat_map U)) e h n = record { form = Form.flat_map U; form_is = e; one = tt }
  cell_by (Some (Form.map U)) e h n = record { form = Form.map U; form_is = e; one = tt }
  cell_by (Some (Form.own U)) e h n = record { form = Form.own U; form_is = e; one = tt }
  cell_by (Some (Form.shared U)) e h n = record { form = Form.shared U; form_is = e; one = tt }

  -- a type with a pointer and no fields is one cell
  pub cell_of_type : has_cells (form_at table T) ≡ true → length (fields_of table T) ≡ 0 → IsCell
  cell_of_type h n = cell_by (form_at table T) refl h n

  one_pointer : (form : Form) → IsOne table valid form → cells_of (Some form) ≡ cells.Pointer
  one_pointer Form.i64 h = absurd h
  one_pointer (Form.struct Us) h = absurd h
  one_pointer Form.str h = refl
  one_pointer (Form.vec U) h = refl
  one_pointer (Form.list U) h = refl
  one_pointer (Form.flat_map U) h = refl
  one_pointer (Form.map U) h = refl
  one_pointer (Form.own U) h = refl
  one_pointer (Form.shared U) h = refl

  pub a_pointer : has_cells (form_at table T) ≡ true → length (fields_of table T) ≡ 0 → cells_of (form_at table T) ≡ cells.Pointer
  a_pointer h n = let k = cell_of_type h n in ap cells_of k.form_is ∙ one_pointer k.form k.one

  pub several : 1 ≤ length (fields_of table T) → cells_of (form_at table T) ≡ cells.Fields
  several some = ap cells_of (struct_of some).form_is

  cell_of_pointer_by : (o : Option Form) → form_at table T ≡ o → cells_of o ≡ cells.Pointer → IsCell
  cell_of_pointer_by None e h = absurd (cc)
  cell_of_pointer_by (Some (Form.struct Us)) e h = absurd (cc)
  cell_of_pointer_by (Some Form.i64) e h = absurd (cc)
  cell_of_pointer_by (Some Form.str) e h = record { form = Form.str; form_is = e; one = tt }
  cell_of_pointer_by (Some (Form.vec U)) e h = record { form = Form.vec U; form_is = e; one = tt }
  cell_of_pointer_by (Some (Form.list U)) e h = record { form = Form.list U; form_is = e; one = tt }
  cell_of_pointer_by (Some (Form.flat_map U)) e h = record { form = Form.flat_map U; form_is = e; one = tt }
  cell_of_pointer_by (Some (Form.map U)) e h = record { form = Form.map U; form_is = e; one = tt }
  cell_of_pointer_by (Some (Form.own U)) e h = record { form = Form.own U; form_is = e; one = tt }
  cell_of_pointer_by (Some (Form.shared U)) e h = record { form = Form.shared U; form_is = e; one = tt }

  pub cell_of_pointer : cells_of (form_at table T) ≡ cells.Pointer → IsCell
  cell_of_pointer h = cell_of_pointer_by (form_at table T) refl h

  module _ (a : List ℕ) (at : ℕ) where
    further_none : (n : ℕ) (o : Option Form) → form_at table T ≡ o → has_cells o ≡ false → ChangesCells (λ old new p form. IsFurther old new n p form) a a table at T
    further_none n None e h = none_changed (λ old new p form. IsFurther old new n p form) (further_local n) table valid a at T e
    further_none n (Some Form.i64) e h = i64_changed (λ old new p form. IsFurther old new n p form) (further_local n) table valid a at T e refl
    further_none n (Some (Form.struct Us)) e h = absurd (cc)
    further_none n (Some Form.str) e h = absurd (cc)
    further_none n (Some (Form.vec U)) e h = absurd (cc)
    further_none n (Some (Form.list U)) e h = absurd (cc)
    further_none n (Some (Form.flat_map U)) e h = absurd (cc)
    further_none n (Some (Form.map U)) e h = absurd (cc)
    further_none n (Some (Form.own U)) e h = absurd (cc)
    further_none n (Some (Form.shared U)) e h = absurd (cc)

    pub further_no_cells : (n : ℕ) → has_cells (form_at table T) ≡ false → ChangesCells (λ old new p form. IsFurther old new n p form) a a table at T
    further_no_cells n h = further_none n (form_at table T) refl h

    module _ (within : IsWithin a at (size table T)) where
      room : at + 8 ≤ length a
      room = let large = size_large table valid T in omega (arith, within.fits)

      first_changes : (n : ℕ) → ChangesOnly a (set_word a at n) at 8
      first_changes n = ChangesOnly-wider a (set_word a at n) at 4 at 8 (omega arith) (omega arith) (set_number-changes 4 a at n)

      count_kept : (n : ℕ) → count_at (set_word a at n) at ≡ count_at a at
      count_kept n = number-set_other 4 4 a at n (at + 4) (inr (omega arith))

      defaulted_one : (form : Form) → IsOne table valid form → (b : List ℕ) → target b at ≡ None → count_at b at ≡ 0 → IsDefaulted a b at (Some form)
      defaulted_one Form.i64 h b e f = absurd h
      defaulted_one (Form.struct Us) h b e f = absurd h
      defaulted_one Form.str h b e f = (e, f)
      defaulted_one (Form.vec U) h b e f = (e, f)
      defaulted_one (Form.list U) h b e f = (e, f)
      defaulted_one (Form.flat_map U) h b e f = (e, f)
      defaulted_one (Form.map U) h b e f = (e, f)
      defaulted_one (Form.own U) h b e f = (e, f)
      defaulted_one (Form.shared U) h b e f = (e, f)

      -- writing an empty cell makes the default value
      pub empty_cell : IsCell → ChangesCells IsDefaulted a (set_long a at 1) table at T
      empty_cell k =
          let e = empty_words a at room in
          one_changed IsDefaulted defaulted_local table valid a (set_long a at 1) at T k.form k.form_is k.one (set_number-changes 8 a at 1)
          (defaulted_one k.form k.one (set_long a at 1) (null-word (set_long a at 1) at e.0) e.1)

      number_by : (o : Option Form) → form_at table T ≡ o → has_cells o ≡ false → ChangesCells IsDefaulted a (set_long a at 0) table at T
      number_by None e h = none_written IsDefaulted defaulted_local table valid a (set_long a at 0) at T e (set_number-changes 8 a at 0)
      number_by (Some Form.i64) e h =
          i64_written IsDefaulted defaulted_local table valid a (set_long a at 0) at T e (set_number-changes 8 a at 0) (number-set_same 8 a at 0 room (omega arith))
      number_by (Some (Form.struct Us)) e h = absurd (cc)
      number_by (Some Form.str) e h = absurd (cc)
      number_by (Some (Form.vec U)) e h = absurd (cc)
      number_by (Some (Form.list U)) e h = absurd (cc)
      number_by (Some (Form.flat_map U)) e h = absurd (cc)
      number_by (Some (Form.map U)) e h = absurd (cc)
      number_by (Some (Form.own U)) e h = absurd (cc)
      number_by (Some (Form.shared U)) e h = absurd (cc)

      -- writing 0 makes the default value
      pub zero_cell : has_cells (form_at table T) ≡ false → ChangesCells IsDefaulted a (set_long a at 0) table at T
      zero_cell h = number_by (form_at table T) refl h

      further_one : (n : ℕ) (form : Form) → IsOne table valid form → (b : List ℕ) → word b at ≡ further n (word a at) → count_at b at ≡ count_at a at → IsFurther a b n at (Some form)
      further_one n Form.i64 h b e f = absurd h
      further_one n (Form.struct Us) h b e f = absurd h
      further_one n Form.str h b e f = (e, f)
      further_one n (Form.vec U) h b e f = (e, f)
      further_one n (Form.list U) h b e f = (e, f)
      further_one n (Form.flat_map U) h b e f = (e, f)
      further_one n (Form.map U) h b e f = (e, f)
      further_one n (Form.own U) h b e f = (e, f)
      further_one n (Form.shared U) h b e f = (e, f)

      pub further_one_cell : (n : ℕ) → IsCell → further n (word a at) < 2 ^ 32 → ChangesCells (λ old new p form. IsFurther old new n p form) a (set_word a at (further n (word a at))) table at T
      further_one_cell n k small =
          let fits = room in
          let value : word (set_word a at (further n (word a at))) at ≡ further n (word a at) = number-set_same 4 a at (further n (word a at)) (omega arith) small in
          one_changed (λ old new p form. IsFurther old new n p form) (further_local n) table valid a (set_word a at (further n (word a at))) at T k.form k.form_is k.one (first_changes _) (further_one n k.form k.one _ value (count_kept _))

pub further_small : (n d : ℕ) → further n d < 2 ^ 32
further_small n d = grind (arith, nat_tests)
