-- Changes of cells, one after the other.
use Rattle.std.proofs.Common.{◌≡◌, ℕ, zero, suc, ◌+◌, ◌*◌, ◌%◌, ◌^◌, ◌<◌, ◌≤◌, ◌⊎◌, inl, inr, List, [], ◌∷◌, ◌++◌, length, map, take, Option, Some, None, sum_by, refl, sym, ap, ◌∙◌, subst, arith, add-zero, add_assoc, add-one}
use Rattle.std.specs.Prelude.{All, slice_get}
use Rattle.std.specs.List.{AllByRecursion}
use Rattle.std.proofs.lemmas.List.{get_or_past, map-append}
use Rattle.std.proofs.Math.Nat.{mul-le-mul_right}
use Rattle.std.proofs.lemmas.List.Sums.{sum_by-cons}
use Rattle.std.proofs.lemmas.List.Elements.{All-head, All-tail}
use Rattle.seg_spec.specs.Bytes.{word, long, IsSame, ChangesOnly}
use Rattle.seg_spec.specs.Pointer.{target}
use Rattle.seg_spec.specs.Types.{Form, Table, form_at, size, IsTable, built, Cell, cells, cells_by, fields_of, fields_by, fields_from}
use Rattle.seg_spec.specs.Reads.{count_at, spaced}
use Rattle.seg_spec.specs.Cells.{IsWithin, EachCell, ChangesCells, ChangesEach, IsDefaulted, IsFurther}
use Rattle.seg_spec.proofs.BytesLaws.{number-slice}
use Rattle.seg_spec.proofs.SliceLaws.{IsSame-part}
use Rattle.seg_spec.proofs.Tables.TypeSizeLaws.{size-form}
use Rattle.seg_spec.proofs.Tables.TableEntryLaws.{length-built}
use Rattle.seg_spec.proofs.Values.PlaceFrameLaws.{word-same, target-same, each_left, each_right, each_weaker, each_both}
use Rattle.seg_spec.proofs.Values.CellLaws.{cells-form, IsOne}
use Rattle.seg_spec.proofs.Values.ValueMoveLaws.{EachField, fields_struct}

-- ---- the positions of cells

form_past : (forms : Table) (T : ℕ) → slice_get forms T ≡ None → length forms ≤ T
form_past [] T e = omega arith
form_past (f ∷ fs) zero e = cc
form_past (f ∷ fs) (suc T) e = let rest = form_past fs T e in omega arith

pub no_cells : (table : Table) (T : ℕ) → form_at table T ≡ None → cells table T ≡ []
unfolding cells
no_cells table T e =
    let past = form_past table T e in
    let long = length-built (cells_by table) [] table in
    get_or_past (built (cells_by table) [] table) T [] (omega arith)

module _ (table : Table) (valid : IsTable table) where
  -- a type that isn't in the table has no cell
  pub each_none : (P : ℕ → Option Form → Type 0) (T : ℕ) → form_at table T ≡ None → EachCell table T P
  each_none P T e = rw (no_cells table T e) tt

  -- a type that isn't a struct has one cell
  pub one_cell : (T : ℕ) (form : Form) → form_at table T ≡ Some form → IsOne table valid form → cells table T ≡ record { from = 0; type = T } ∷ []
  one_cell T Form.i64 f h = absurd h
  one_cell T (Form.struct Us) f h = absurd h
  one_cell T Form.str f h = cells-form table valid T Form.str f
  one_cell T (Form.vec U) f h = cells-form table valid T (Form.vec U) f
  one_cell T (Form.list U) f h = cells-form table valid T (Form.list U) f
  one_cell T (Form.flat_map U) f h = cells-form table valid T (Form.flat_map U) f
  one_cell T (Form.map U) f h = cells-form table valid T (Form.map U) f
  one_cell T (Form.own U) f h = cells-form table valid T (Form.own U) f
  one_cell T (Form.shared U) f h = cells-form table valid T (Form.shared U) f

  pub each_one : (P : ℕ → Option Form → Type 0) (T : ℕ) (form : Form) → form_at table T ≡ Some form → IsOne table valid form → P 0 (Some form) → EachCell table T P
  each_one P T form f h p = rw (one_cell T form f h) (rw f p, tt)

  pub each_i64 : (P : ℕ → Option Form → Type 0) (T : ℕ) → form_at table T ≡ Some Form.i64 → P 0 (Some Form.i64) → EachCell table T P
  each_i64 P T f p = rw (cells-form table valid T Form.i64 f) (rw f p, tt)

  -- A fact about all types is proved by their forms. For a struct it may use the fact for the
  -- fields, whose ids are lower.
  module _ (Q : ℕ → Type 0) (on_none : (T : ℕ) → form_at table T ≡ None → Q T) (on_one : (T : ℕ) (form : Form) → form_at table T ≡ Some form → IsOne table valid form → Q T) (on_i64 : (T : ℕ) → form_at table T ≡ Some Form.i64 → Q T)
      (on_struct : (T : ℕ) (Us : List ℕ) → form_at table T ≡ Some (Form.struct Us) → AllByRecursion Q Us → Q T) where
    each_below : (k : ℕ) → ((U : ℕ) → U < k → Q U) → (Us : List ℕ) → All (λ U. U < k) Us → AllByRecursion Q Us
    each_below k q [] h = tt
    each_below k q (U ∷ Us) h = (q U (All-head (λ V. V < k) U Us h), each_below k q Us (All-tail (λ V. V < k) U Us h))

    by_form : (T : ℕ) → ((U : ℕ) → U < T → Q U) → (o : Option Form) → form_at table T ≡ o → Q T
    by_form T q None e = on_none T e
    by_form T q (Some Form.i64) e = on_i64 T e
    by_form T q (Some (Form.struct Us)) e = let less = valid.forms T (Form.struct Us) e in on_struct T Us e (each_below T q Us less.2)
    by_form T q (Some Form.str) e = on_one T Form.str e tt
    by_form T q (Some (Form.vec U)) e = on_one T (Form.vec U) e tt
    by_form T q (Some (Form.list U)) e = on_one T (Form.list U) e tt
    by_form T q (Some (Form.flat_map U)) e = on_one T (Form.flat_map U) e tt
    by_form T q (Some (Form.map U)) e = on_one T (Form.map U) e tt
    by_form T q (Some (Form.own U)) e = on_one T (Form.own U) e tt
    by_form T q (Some (Form.shared U)) e = on_one T (Form.shared U) e tt

    below : (k T : ℕ) → T < k → Q T
    below zero T l = absurd (omega arith)
    below (suc k) T l = by_form T (λ U less. below k U (omega arith)) (form_at table T) refl

    pub by_types : (T : ℕ) → Q T
    by_types T = below (suc T) T (omega arith)

  -- cells lie in the value, at multiples of 8
  abbrev pub LiesAt : ℕ → ℕ → Type 0
  LiesAt n d = (d + 8 ≤ n) × (d % 8 ≡ 0)

  size_one : (T : ℕ) (form : Form) → form_at table T ≡ Some form → IsOne table valid form → size table T ≡ 8
  size_one T Form.i64 f h = absurd h
  size_one T (Form.struct Us) f h = absurd h
  size_one T Form.str f h = size-form table valid T Form.str f
  size_one T (Form.vec U) f h = size-form table valid T (Form.vec U) f
  size_one T (Form.list U) f h = size-form table valid T (Form.list U) f
  size_one T (Form.flat_map U) f h = size-form table valid T (Form.flat_map U) f
  size_one T (Form.map U) f h = size-form table valid T (Form.map U) f
  size_one T (Form.own U) f h = size-form table valid T (Form.own U) f
  size_one T (Form.shared U) f h = size-form table valid T (Form.shared U) f

  pub size_none : (T : ℕ) → form_at table T ≡ None → size table T ≡ 8
  unfolding size
  size_none T e =
      let past = form_past table T e in
      let long = length-built Rattle.seg_spec.specs.Types.size_by [] table in
      get_or_past (built Rattle.seg_spec.specs.Types.size_by [] table) T 8 (omega arith)

  sum_aligned : (Us : List ℕ) → AllByRecursion (λ U. size table U % 8 ≡ 0) Us → sum_by (size table) Us % 8 ≡ 0
  sum_aligned [] a = refl
  sum_aligned (U ∷ Us) a =
      let rest = sum_aligned Us a.1 in
      let all = sum_by-cons (size table) U Us in
      let first = a.0 in
      omega arith

  pub size_aligned : (T : ℕ) → size table T % 8 ≡ 0
  size_aligned T = by_types (λ T. size table T % 8 ≡ 0)
      (λ T e. rw (size_none T e) refl)
      (λ T form f h. rw (size_one T form f h) refl)
      (λ T f. rw (size-form table valid T Form.i64 f) refl)
      (λ T Us f a. rw (size-form table valid T (Form.struct Us) f) (sum_aligned Us a)) T

  fields_lie : (n total : ℕ) (Us : List ℕ) → n % 8 ≡ 0 → n + sum_by (size table) Us ≤ total → AllByRecursion (λ U. EachCell table U (λ d form. LiesAt (size table U) d)) Us → EachField table n Us (λ d form. LiesAt total d)
  fields_lie n total [] aligned fits a = tt
  fields_lie n total (U ∷ Us) aligned fits a =
      let all = sum_by-cons (size table) U Us in
      let mine = size_aligned U in
      (each_weaker _ _ (λ c l. (omega (arith, l.0), omega (arith, l.1))) (cells table U) a.0, fields_lie (n + size table U) total Us (omega arith) (omega arith) a.1)

  pub cells_lie : (T : ℕ) → EachCell table T (λ d form. LiesAt (size table T) d)
  cells_lie T = by_types (λ T. EachCell table T (λ d form. LiesAt (size table T) d))
      (λ T e. each_none (λ d form. LiesAt (size table T) d) T e)
      (λ T form f h. let eight = size_one T form f h in each_one (λ d form. LiesAt (size table T) d) T form f h (omega arith, refl))
      (λ T f. let eight : size table T ≡ 8 = size-form table valid T Form.i64 f in each_i64 (λ d form. LiesAt (size table T) d) T f (omega arith, refl))
      (λ T Us f a. let total : size table T ≡ sum_by (size table) Us = size-form table valid T (Form.struct Us) f in
      fields_struct table valid (λ d form. LiesAt (size table T) d) T Us f (fields_lie 0 (size table T) Us refl (omega arith) a)) T

  pub each_cell_weaker : (P Q : ℕ → Option Form → Type 0) (T : ℕ) → ((d : ℕ) (form : Option Form) → d + 8 ≤ size table T → d % 8 ≡ 0 → P d form → Q d form) → EachCell table T P → EachCell table T Q
  each_cell_weaker P Q T f a = each_both _ _ _ (λ c p l. f c.from (form_at table c.type) l.0 l.1 p) (cells table T) a (cells_lie T)

-- ---- two changes, one after the other

-- R depends only on the bytes of the cell
abbrev pub IsLocal : (List ℕ → List ℕ → ℕ → Option Form → Type 0) → Type 0
IsLocal R = (a b c d : List ℕ) (at : ℕ) (form : Option Form) → IsSame a c at 8 → IsSame b d at 8 → R a b at form → R c d at form

pub ChangesOnly-trans : (a b c : List ℕ) (at n : ℕ) → ChangesOnly a b at n → ChangesOnly b c at n → ChangesOnly a c at n
ChangesOnly-trans a b c at n k l = record {
  length_kept = l.length_kept ∙ k.length_kept;
  others = λ p m apart. l.others p m apart ∙ k.others p m apart;
}

pub ChangesOnly-wider : (a b : List ℕ) (at n p m : ℕ) → p ≤ at → at + n ≤ p + m → ChangesOnly a b at n → ChangesOnly a b p m
ChangesOnly-wider a b at n p m low high k = record {
  length_kept = k.length_kept;
  others = λ q l apart. k.others q l (apart_more at n p m q l low high apart);
}
  where
    apart_more : (at n p m q l : ℕ) → p ≤ at → at + n ≤ p + m → (q + l ≤ p) ⊎ (p + m ≤ q) → (q + l ≤ at) ⊎ (at + n ≤ q)
    apart_more at n p m q l low high (inl h) = inl (omega arith)
    apart_more at n p m q l low high (inr h) = inr (omega arith)

pub ChangesOnly-none : (a : List ℕ) (at n : ℕ) → ChangesOnly a a at n
ChangesOnly-none a at n = record { length_kept = refl; others = λ p m apart. refl }

module _ (R : List ℕ → List ℕ → ℕ → Option Form → Type 0) (local : IsLocal R) (table : Table) (valid : IsTable table) where
  same_sym : (a b : List ℕ) (at n : ℕ) → IsSame a b at n → IsSame b a at n
  same_sym a b at n s = sym s

  -- the cells changed in the first step, and their bytes were kept in the second
  pub cells_then : (a b c : List ℕ) (at T : ℕ) → IsSame b c at (size table T) → EachCell table T (λ d form. R a b (at + d) form) → EachCell table T (λ d form. R a c (at + d) form)
  cells_then a b c at T s k = each_cell_weaker table valid _ _ T (λ d form fits aligned r. local a b a c (at + d) form refl (IsSame-part b c at (size table T) (at + d) 8 (omega arith) (omega arith) s) r) k

  -- the bytes were kept in the first step, and the cells changed in the second
  pub cells_after : (a b c : List ℕ) (at T : ℕ) → IsSame a b at (size table T) → EachCell table T (λ d form. R b c (at + d) form) → EachCell table T (λ d form. R a c (at + d) form)
  cells_after a b c at T s k = each_cell_weaker table valid _ _ T (λ d form fits aligned r. local b c a c (at + d) form (same_sym a b (at + d) 8 (IsSame-part a b at (size table T) (at + d) 8 (omega arith) (omega arith) s)) refl r) k

  -- ---- fields

  pub record ChangesFields (old new : List ℕ) (at : ℕ) (Us : List ℕ) : Type 0 where
    pub changes : ChangesOnly old new at (sum_by (size table) Us)
    pub cells : EachField table 0 Us (λ d form. R old new (at + d) form)

  pub no_fields : (old : List ℕ) (at : ℕ) → ChangesFields old old at []
  no_fields old at = record { changes = ChangesOnly-none old at 0; cells = tt }

  sum_push : (Us : List ℕ) (U : ℕ) → sum_by (size table) (Us ++ U ∷ []) ≡ sum_by (size table) Us + size table U
  sum_push [] U = let one = sum_by-cons (size table) U [] in omega arith
  sum_push (V ∷ Us) U =
      let one = sum_by-cons (size table) V Us in
      let two = sum_by-cons (size table) V (Us ++ U ∷ []) in
      let rest = sum_push Us U in
      omega arith

  fields_then : (a b c : List ℕ) (at n : ℕ) (Us : List ℕ) → IsSame b c (at + n) (sum_by (size table) Us) → EachField table n Us (λ d form. R a b (at + d) form) → EachField table n Us (λ d form. R a c (at + d) form)
  fields_then a b c at n [] s k = tt
  fields_then a b c at n (U ∷ Us) s k =
      let all = sum_by-cons (size table) U Us in
      let first = IsSame-part b c (at + n) (sum_by (size table) (U ∷ Us)) (at + n) (size table U) (omega arith) (omega arith) s in
      let more = IsSame-part b c (at + n) (sum_by (size table) (U ∷ Us)) (at + (n + size table U)) (sum_by (size table) Us) (omega arith) (omega arith) s in (
        each_weaker _ _ (λ c' r. rw (← add_assoc at n c'.from) r) (cells table U)
            (cells_then a b c (at + n) U first (each_weaker _ _ (λ c' r. rw (add_assoc at n c'.from) r) (cells table U) k.0)),
        fields_then a b c at (n + size table U) Us more k.1,
      )

  field_push : (P : ℕ → Option Form → Type 0) (n : ℕ) (Us : List ℕ) (U : ℕ) → EachField table n Us P → EachCell table U (λ d form. P (n + sum_by (size table) Us + d) form) → EachField table n (Us ++ U ∷ []) P
  field_push P n [] U k l = (each_weaker _ _ (λ c r. rw (add-zero n) at r) (cells table U) l, tt)
  field_push P n (V ∷ Us) U k l =
      let all = sum_by-cons (size table) V Us in
      let shift : n + sum_by (size table) (V ∷ Us) ≡ n + size table V + sum_by (size table) Us = omega arith in
      (k.0, field_push P (n + size table V) Us U k.1 (rw shift at l))

  -- one field more changed
  pub one_more_field : (a b c : List ℕ) (at : ℕ) (Us : List ℕ) (U : ℕ) → ChangesFields a b at Us → ChangesCells R b c table (at + sum_by (size table) Us) U → ChangesFields a c at (Us ++ U ∷ [])
  one_more_field a b c at Us U k l =
      let total = sum_push Us U in
      let before : IsSame b c at (sum_by (size table) Us) = l.changes.others at (sum_by (size table) Us) (inl (omega arith)) in
      let before_0 : IsSame b c (at + 0) (sum_by (size table) Us) = rw (add-zero at) before in
      let following : IsSame a b (at + sum_by (size table) Us) (size table U) = k.changes.others (at + sum_by (size table) Us) (size table U) (inr (omega arith)) in
      record {
        changes = ChangesOnly-trans a b c at (sum_by (size table) (Us ++ U ∷ []))
            (ChangesOnly-wider a b at (sum_by (size table) Us) at (sum_by (size table) (Us ++ U ∷ [])) (omega arith) (omega arith) k.changes)
            (ChangesOnly-wider b c (at + sum_by (size table) Us) (size table U) at (sum_by (size table) (Us ++ U ∷ [])) (omega arith) (omega arith) l.changes);
        cells = field_push (λ d form. R a c (at + d) form) 0 Us U (fields_then a b c at 0 Us before_0 k.cells)
            (each_weaker _ _ (λ c' r. place_it at (sum_by (size table) Us) c'.from (form_at table c'.type) r) (cells table U) (cells_after a b c (at + sum_by (size table) Us) U following l.cells));
      }
    where
      place_it : (at s d : ℕ) (form : Option Form) → R a c (at + s + d) form → R a c (at + (0 + s + d)) form
      place_it at s d form r = let e : at + (0 + s + d) ≡ at + s + d = omega arith in rw e r

  -- all fields of a struct changed
  pub struct_changed : (a b : List ℕ) (at T : ℕ) (Us : List ℕ) → form_at table T ≡ Some (Form.struct Us) → ChangesFields a b at Us → ChangesCells R a b table at T
  struct_changed a b at T Us f k = record {
    changes = rw (size-form table valid T (Form.struct Us) f) k.changes;
    cells = fields_struct table valid (λ d form. R a b (at + d) form) T Us f k.cells;
  }

  pub none_changed : (a : List ℕ) (at T : ℕ) → form_at table T ≡ None → ChangesCells R a a table at T
  none_changed a at T f = record { changes = ChangesOnly-none a at (size table T); cells = each_none table valid (λ d form. R a a (at + d) form) T f }

  -- a type that isn't in the table has 8 bytes and no cell
  pub none_written : (a b : List ℕ) (at T : ℕ) → form_at table T ≡ None → ChangesOnly a b at 8 → ChangesCells R a b table at T
  none_written a b at T f k = record {
    changes = rw (size_none table valid T f) k;
    cells = each_none table valid (λ d form. R a b (at + d) form) T f;
  }

  pub i64_written : (a b : List ℕ) (at T : ℕ) → form_at table T ≡ Some Form.i64 → ChangesOnly a b at 8 → R a b at (Some Form.i64) → ChangesCells R a b table at T
  i64_written a b at T f k r = record {
    changes = rw (size-form table valid T Form.i64 f) k;
    cells = each_i64 table valid (λ d form. R a b (at + d) form) T f (rw (add-zero at) r);
  }

  pub i64_changed : (a : List ℕ) (at T : ℕ) → form_at table T ≡ Some Form.i64 → R a a at (Some Form.i64) → ChangesCells R a a table at T
  i64_changed a at T f r = record { changes = ChangesOnly-none a at (size table T); cells = each_i64 table valid (λ d form. R a a (at + d) form) T f (rw (add-zero at) r) }

  pub one_changed : (a b : List ℕ) (at T : ℕ) (form : Form) → form_at table T ≡ Some form → IsOne table valid form → ChangesOnly a b at 8 → R a b at (Some form) → ChangesCells R a b table at T
  one_changed a b at T form f h k r = record {
    changes = rw (size_one table valid T form f h) k;
    cells = each_one table valid (λ d form. R a b (at + d) form) T form f h (rw (add-zero at) r);
  }

-- ---- the two kinds of changes

long-same : (old new : List ℕ) (at : ℕ) → IsSame old new at 8 → long new at ≡ long old at
long-same old new at h = number-slice 8 old new at at h

count-same : (old new : List ℕ) (at : ℕ) → IsSame old new at 8 → count_at new at ≡ count_at old at
count-same old new at h = word-same old new (at + 4) (IsSame-part old new at 8 (at + 4) 4 (omega arith) (omega arith) h)

first-same : (old new : List ℕ) (at : ℕ) → IsSame old new at 8 → word new at ≡ word old at
first-same old new at h = word-same old new at (IsSame-part old new at 8 at 4 (omega arith) (omega arith) h)

names-same : (old new : List ℕ) (at : ℕ) → IsSame old new at 8 → target new at ≡ target old at
names-same old new at h = target-same old new at (IsSame-part old new at 8 at 4 (omega arith) (omega arith) h)

fresh_cell : (b d : List ℕ) (at : ℕ) → IsSame b d at 8 → (target b at ≡ None) × (count_at b at ≡ 0) → (target d at ≡ None) × (count_at d at ≡ 0)
fresh_cell b d at t r = (names-same b d at t ∙ r.0, count-same b d at t ∙ r.1)

pub defaulted_local : IsLocal IsDefaulted
defaulted_local a b c d at (Some Form.i64) s t r = long-same b d at t ∙ r
defaulted_local a b c d at None s t r = fresh_cell b d at t r
defaulted_local a b c d at (Some Form.str) s t r = fresh_cell b d at t r
defaulted_local a b c d at (Some (Form.vec U)) s t r = fresh_cell b d at t r
defaulted_local a b c d at (Some (Form.list U)) s t r = fresh_cell b d at t r
defaulted_local a b c d at (Some (Form.flat_map U)) s t r = fresh_cell b d at t r
defaulted_local a b c d at (Some (Form.map U)) s t r = fresh_cell b d at t r
defaulted_local a b c d at (Some (Form.own U)) s t r = fresh_cell b d at t r
defaulted_local a b c d at (Some (Form.shared U)) s t r = fresh_cell b d at t r
defaulted_local a b c d at (Some (Form.struct Us)) s t r = fresh_cell b d at t r

further_cell : (n : ℕ) (a b c d : List ℕ) (at : ℕ) → IsSame a c at 8 → IsSame b d at 8 → (word b at ≡ Rattle.seg_spec.specs.Cells.further n (word a at)) × (count_at b at ≡ count_at a at) →
    (word d at ≡ Rattle.seg_spec.specs.Cells.further n (word c at)) × (count_at d at ≡ count_at c at)
further_cell n a b c d at s t r = (first-same b d at t ∙ r.0 ∙ ap (Rattle.seg_spec.specs.Cells.further n) (sym (first-same a c at s)), count-same b d at t ∙ r.1 ∙ sym (count-same a c at s))

pub further_local : (n : ℕ) → IsLocal (λ old new at form. IsFurther old new n at form)
further_local n a b c d at (Some Form.i64) s t r = long-same b d at t ∙ r ∙ sym (long-same a c at s)
further_local n a b c d at None s t r = further_cell n a b c d at s t r
further_local n a b c d at (Some Form.str) s t r = further_cell n a b c d at s t r
further_local n a b c d at (Some (Form.vec U)) s t r = further_cell n a b c d at s t r
further_local n a b c d at (Some (Form.list U)) s t r = further_cell n a b c d at s t r
further_local n a b c d at (Some (Form.flat_map U)) s t r = further_cell n a b c d at s t r
further_local n a b c d at (Some (Form.map U)) s t r = further_cell n a b c d at s t r
further_local n a b c d at (Some (Form.own U)) s t r = further_cell n a b c d at s t r
further_local n a b c d at (Some (Form.shared U)) s t r = further_cell n a b c d at s t r
further_local n a b c d at (Some (Form.struct Us)) s t r = further_cell n a b c d at s t r

-- ---- the fields of a type, by their index

-- the types of the type's fields, or the empty list if the type isn't a struct
abbrev pub field_types : Table → ℕ → List ℕ
field_types table T = map (λ (c : Cell). c.type) (fields_of table T)

types_from : (table : Table) (n : ℕ) (Us : List ℕ) → map (λ (c : Cell). c.type) (fields_from table n Us) ≡ Us
types_from table n [] = refl
types_from table n (U ∷ Us) = ap (λ Vs. U ∷ Vs) (types_from table (n + size table U) Us)

pub field_types_struct : (table : Table) (T : ℕ) (Us : List ℕ) → form_at table T ≡ Some (Form.struct Us) → field_types table T ≡ Us
field_types_struct table T Us f = ap (λ o. map (λ (c : Cell). c.type) (fields_by table o)) f ∙ types_from table 0 Us

pub length_fields : (table : Table) (n : ℕ) (Us : List ℕ) → length (fields_from table n Us) ≡ length Us
length_fields table n [] = refl
length_fields table n (U ∷ Us) = ap (λ k. suc k) (length_fields table (n + size table U) Us)

same_cell : (c d : Cell) → Some c ≡ Some d → c ≡ d
same_cell c d e = cc

-- the field at an index, with its position and type
pub record NthField (table : Table) (n i : ℕ) (Us : List ℕ) (from U : ℕ) : Type 0 where
  pub from_is : from ≡ n + sum_by (size table) (take i Us)
  pub next : take (i + 1) Us ≡ take i Us ++ U ∷ []
  pub fits : from + size table U ≤ n + sum_by (size table) Us
  pub below : (k : ℕ) → All (λ V. V < k) Us → U < k

pub nth_field : (table : Table) (n i : ℕ) (Us : List ℕ) (from U : ℕ) → slice_get (fields_from table n Us) i ≡ Some (record { from = from; type = U }) → NthField table n i Us from U
nth_field table n i [] from U e = absurd (cc)
nth_field table n zero (V ∷ Us) from U e =
    let same = same_cell (record { from = n; type = V }) (record { from = from; type = U }) e in
    let from_is : n ≡ from = ap (λ (c : Cell). c.from) same in
    let type_is : V ≡ U = ap (λ (c : Cell). c.type) same in
    let all = sum_by-cons (size table) V Us in
    let size_is : size table V ≡ size table U = ap (size table) type_is in
    record {
      from_is = omega arith;
      next = ap (λ W. W ∷ []) type_is;
      fits = omega arith;
      below = λ k h. subst (λ W. W < k) type_is (All-head (λ W. W < k) V Us h);
    }
nth_field table n (suc i) (V ∷ Us) from U e =
    let r = nth_field table (n + size table V) i Us from U e in
    let all = sum_by-cons (size table) V Us in
    let front = sum_by-cons (size table) V (take i Us) in
    let from_is = r.from_is in
    let fits = r.fits in
    record {
      from_is = omega arith;
      next = rw (two i) (ap (λ Ws. V ∷ Ws) (suc_take i Us ∙ r.next));
      fits = omega arith;
      below = λ k h. r.below k (All-tail (λ W. W < k) V Us h);
    }
  where
    suc_take : (i : ℕ) (Us : List ℕ) → take (suc i) Us ≡ take (i + 1) Us
    suc_take i Us = rw add-one refl

    two : (i : ℕ) → suc i + 1 ≡ suc (suc i)
    two i = omega arith

-- ---- a loop over the fields of a type

all_fields : (xs : List ℕ) (n : ℕ) → length xs ≤ n → take n xs ≡ xs
all_fields [] zero l = refl
all_fields [] (suc n) l = refl
all_fields (x ∷ xs) zero l = absurd (omega arith)
all_fields (x ∷ xs) (suc n) l = ap (λ ys. x ∷ ys) (all_fields xs n (omega arith))

module _ (R : List ℕ → List ℕ → ℕ → Option Form → Type 0) (local : IsLocal R) (table : Table) (valid : IsTable table) (T : ℕ) (Us : List ℕ) (f : form_at table T ≡ Some (Form.struct Us)) (a : List ℕ) (at : ℕ) where
  module _ (i from U : ℕ) (e : slice_get (fields_of table T) i ≡ Some (record { from = from; type = U })) (within : IsWithin a at (size table T)) where
    the_field : NthField table 0 i Us from U
    the_field = nth_field table 0 i Us from U (rw f at e)

    total : size table T ≡ sum_by (size table) Us
    total = size-form table valid T (Form.struct Us) f

    pub field_position : (at + from) % 2 ^ 32 ≡ at + from
    field_position = let fits = the_field.fits in let all = total in omega (arith, within.fits, within.small)

    pub field_within : (b : List ℕ) → ChangesFields R local table valid a b at (take i (field_types table T)) → IsWithin b ((at + from) % 2 ^ 32) (size table U)
    field_within b k =
        let fits = the_field.fits in
        let all = total in
        let same = k.changes.length_kept in
        let position = field_position in
        record { fits = omega (arith, within.fits); small = omega (arith, within.small) }

    pub next_field : (b c : List ℕ) → ChangesFields R local table valid a b at (take i (field_types table T)) → ChangesCells R b c table ((at + from) % 2 ^ 32) U →
        ChangesFields R local table valid a c at (take (i + 1) (field_types table T))
    next_field b c k l =
        let types = field_types_struct table T Us f in
        let k' = rw types at k in
        let position : (at + from) % 2 ^ 32 ≡ at + sum_by (size table) (take i Us) = let p = field_position in let q = the_field.from_is in omega arith in
        let l' = rw position at l in
        rw (types, the_field.next) (one_more_field R local table valid a b c at (take i Us) U k' l')

  pub whole_struct : (n : ℕ) (b : List ℕ) → length (fields_of table T) ≤ n → ChangesFields R local table valid a b at (take n (field_types table T)) → ChangesCells R a b table at T
  whole_struct n b long k =
      let types = field_types_struct table T Us f in
      let count : length (fields_of table T) ≡ length Us = ap (λ o. length (fields_by table o)) f ∙ length_fields table 0 Us in
      let k' = rw (types, all_fields Us n (omega arith)) at k in
      struct_changed R local table valid a b at T Us f k'

  -- if an index is past the fields, all fields were changed before it
  pub past_fields : (n : ℕ) → slice_get (fields_of table T) n ≡ None → (b : List ℕ) → ChangesFields R local table valid a b at (take n (field_types table T)) → ChangesFields R local table valid a b at (take (n + 1) (field_types table T))
  past_fields n e b k =
      let types = field_types_struct table T Us f in
      let count : length (fields_of table T) ≡ length Us = ap (λ o. length (fields_by table o)) f ∙ length_fields table 0 Us in
      let past = fields_past (fields_of table T) n e in
      let k' = rw (types, all_fields Us n (omega arith)) at k in
      rw (types, all_fields Us (n + 1) (omega arith)) k'
    where
      fields_past : (cs : List Cell) (n : ℕ) → slice_get cs n ≡ None → length cs ≤ n
      fields_past [] n e = omega arith
      fields_past (c ∷ cs) zero e = cc
      fields_past (c ∷ cs) (suc n) e = let rest = fields_past cs n e in omega arith

-- ---- a loop over entries

spaced_push : (at step i : ℕ) → spaced at step (i + 1) ≡ spaced at step i ++ (at + i * step) ∷ []
spaced_push at step zero = let e : at + 0 * step ≡ at = omega arith in rw e refl
spaced_push at step (suc i) =
    let two : suc i + 1 ≡ suc (i + 1) = omega arith in
    let further : at + step + i * step ≡ at + suc i * step = grind arith in
    rw (two, ← further) (ap (λ ps. at ∷ ps) (spaced_push (at + step) step i))

module _ (R : List ℕ → List ℕ → ℕ → Option Form → Type 0) (local : IsLocal R) (table : Table) (valid : IsTable table) (T before each : ℕ) (fits : before + size table T ≤ each) where
  -- the positions of the values of entries
  abbrev pub value_positions : ℕ → ℕ → List ℕ
  value_positions start k = map (λ p. p + before) (spaced start each k)

  abbrev AreChanged : List ℕ → List ℕ → List ℕ → Type 0
  AreChanged a b ps = AllByRecursion (λ p. EachCell table T (λ d form. R a b (p + d) form)) ps

  pub no_entries : (a : List ℕ) (at : ℕ) → ChangesEach R a a table T at (0 * each) (value_positions at 0)
  no_entries a at = record { changes = ChangesOnly-none a at (0 * each); cells = tt; beside = λ q m apart. refl }

  kept_before : (a b c : List ℕ) (start k limit n : ℕ) → start + k * each ≤ limit → ChangesOnly b c limit n → AreChanged a b (value_positions start k) → AreChanged a c (value_positions start k)
  kept_before a b c start zero limit n low l k = tt
  kept_before a b c start (suc m) limit n low l k =
      let all : suc m * each ≡ each + m * each = grind arith in
      let same : IsSame b c (start + before) (size table T) = l.others (start + before) (size table T) (inl (omega arith)) in
      (cells_then R local table valid a b c (start + before) T same k.0, kept_before a b c (start + each) m limit n (omega arith) l k.1)

  joined : (a c : List ℕ) (xs ys : List ℕ) → AreChanged a c xs → AreChanged a c ys → AreChanged a c (xs ++ ys)
  joined a c [] ys k l = l
  joined a c (x ∷ xs) ys k l = (k.0, joined a c xs ys k.1 l)

  positions_push : (at i : ℕ) → value_positions at (i + 1) ≡ value_positions at i ++ (at + i * each + before) ∷ []
  positions_push at i = ap (map (λ p. p + before)) (spaced_push at each i) ∙ map-append (λ p. p + before) (spaced at each i) ((at + i * each) ∷ [])

  pub next_entry : (a b c : List ℕ) (at i : ℕ) → ChangesEach R a b table T at (i * each) (value_positions at i) → ChangesCells R b c table (at + i * each + before) T →
      ChangesEach R a c table T at ((i + 1) * each) (value_positions at (i + 1))
  next_entry a b c at i k l =
      let all : (i + 1) * each ≡ each + i * each = grind arith in
      let following : IsSame a b (at + i * each + before) (size table T) = k.changes.others (at + i * each + before) (size table T) (inr (omega arith)) in
      let older = kept_before a b c at i (at + i * each + before) (size table T) (omega arith) l.changes k.cells in
      let newer = cells_after R local table valid a b c (at + i * each + before) T following l.cells in
      record {
        changes = ChangesOnly-trans a b c at ((i + 1) * each)
            (ChangesOnly-wider a b at (i * each) at ((i + 1) * each) (omega arith) (omega arith) k.changes)
            (ChangesOnly-wider b c (at + i * each + before) (size table T) at ((i + 1) * each) (omega arith) (omega arith) l.changes);
        cells = rw (positions_push at i) (joined a c (value_positions at i) ((at + i * each + before) ∷ []) older (newer, tt));
        beside = λ q m apart.
            let parts = rw (positions_push at i) at apart in
            l.changes.others q m (each_right _ (value_positions at i) ((at + i * each + before) ∷ []) parts).0 ∙ k.beside q m (each_left _ (value_positions at i) ((at + i * each + before) ∷ []) parts);
      }

  pub no_change : (a : List ℕ) (at k : ℕ) → ((p : ℕ) → ChangesCells R a a table p T) → ChangesEach R a a table T at (k * each) (value_positions at k)
  no_change a at k none = record { changes = ChangesOnly-none a at (k * each); cells = each_position (value_positions at k); beside = λ q m apart. refl }
    where
      each_position : (ps : List ℕ) → AreChanged a a ps
      each_position [] = tt
      each_position (p ∷ ps) = ((none p).cells, each_position ps)

  -- the position of an entry's value
  pub entry_position : (a : List ℕ) (at n i : ℕ) → i < n → IsWithin a at (n * each) → (at + i * each + before) % 2 ^ 32 ≡ at + i * each + before
  entry_position a at n i less w =
      let whole = mul-le-mul_right each less in
      let all : suc i * each ≡ each + i * each = grind arith in
      omega (arith, w.fits, w.small)

  pub entry_within : (a b : List ℕ) (at n i k : ℕ) (ps : List ℕ) → i < n → IsWithin a at (n * each) → ChangesEach R a b table T at k ps → IsWithin b ((at + i * each + before) % 2 ^ 32) (size table T)
  entry_within a b at n i k ps less w changed =
      let position = entry_position a at n i less w in
      let whole = mul-le-mul_right each less in
      let all : suc i * each ≡ each + i * each = grind arith in
      let same = changed.changes.length_kept in
      record { fits = omega (arith, w.fits, w.small); small = omega (arith, w.small) }
