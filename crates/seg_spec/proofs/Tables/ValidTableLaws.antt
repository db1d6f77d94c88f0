-- No entry of a valid table is wrong.
use Rattle.std.proofs.Common.{◌≡◌, ℕ, zero, suc, ◌+◌, ◌-◌, ◌*◌, ◌%◌, ◌<◌, ◌≤◌, List, [], ◌∷◌, ◌++◌, length, get_or, take, drop, replicate, refl, sym, ap, ◌∙◌, subst, arith, inl, inr, append_assoc, Some, take-add}
use Rattle.std.specs.Prelude.{flat_map}
use Rattle.std.specs.List.{AllByRecursion}
use Rattle.std.proofs.lemmas.List.{take_at, drop_at, take-replicate, drop-replicate, drop-drop, take-append-drop, length-take-le}
use Rattle.std.proofs.lemmas.Bool.{cases_lt}
use Rattle.seg_spec.specs.Bytes.{slice}
use Rattle.seg_spec.specs.Types.{Form, Table, form_at, form_bytes, size, size_by, size_of_form, built, IsForm, IsTable, AreOfVersion, IsUsed, NamesUsed, IsTypeEntry, IsWrongEntry, Spells}
use Rattle.seg_spec.proofs.Tables.TypeSizeLaws.{built_kept, all_forms, size-form, sum_by_agree}
use Rattle.seg_spec.proofs.Tables.OneTableLaws.{IsLong, length-form_bytes, spelled_one}
use Rattle.seg_spec.proofs.Tables.TableEntryLaws.{length-table, one_table, kind_at, length-built}

form_in : (table : Table) (T : ℕ) → T < length table → (form : Form) × (form_at table T ≡ Some form)
form_in [] T h = absurd (omega arith)
form_in (form ∷ forms) zero h = (form, refl)
form_in (form ∷ forms) (suc T) h = form_in forms T (omega arith)

-- the entry k of a table's bytes
slice_entry : (table : Table) (rest : List ℕ) (k : ℕ) (form : Form) → AllByRecursion IsLong table → form_at table k ≡ Some form → slice (flat_map form_bytes table ++ rest) (16 * k) 16 ≡ form_bytes form
unfolding slice
slice_entry [] rest k form a e = cc
slice_entry (f ∷ fs) rest zero form a e =
    let same : f ≡ form = cc in
    ap (take 16) (append_assoc (form_bytes f) (flat_map form_bytes fs) rest) ∙ take_at (form_bytes f) (flat_map form_bytes fs ++ rest) 16 a.0 ∙ ap form_bytes same
slice_entry (f ∷ fs) rest (suc k) form a e =
    let next : 16 * suc k ≡ 16 + 16 * k = omega arith in
    ap (λ n. take 16 (drop n ((form_bytes f ++ flat_map form_bytes fs) ++ rest))) next
    ∙ ap (λ xs. take 16 (drop (16 + 16 * k) xs)) (append_assoc (form_bytes f) (flat_map form_bytes fs) rest)
    ∙ ap (take 16) (sym (drop-drop (16 * k) 16 (form_bytes f ++ (flat_map form_bytes fs ++ rest))) ∙ ap (drop (16 * k)) (drop_at (form_bytes f) (flat_map form_bytes fs ++ rest) 16 a.0))
    ∙ slice_entry fs rest k form a.1 e

-- the bytes after the entries are zeros
slice_zeros : (xs : List ℕ) (m k : ℕ) → length xs ≤ k → k + 16 ≤ length xs + m → slice (xs ++ replicate m 0) k 16 ≡ replicate 16 0
unfolding slice
slice_zeros xs m k h l =
    let split : k ≡ length xs + (k - length xs) = omega arith in
    ap (λ n. take 16 (drop n (xs ++ replicate m 0))) split
    ∙ ap (take 16) (sym (drop-drop (k - length xs) (length xs) (xs ++ replicate m 0)) ∙ ap (drop (k - length xs)) (drop_at xs (replicate m 0) (length xs) refl) ∙ drop-replicate (k - length xs) m 0)
    ∙ take-replicate 16 (m - (k - length xs)) 0 (omega arith)

used_form : (bytes : List ℕ) (n k : ℕ) (form : Form) → ((U : ℕ) → U < n → IsUsed bytes U) → IsForm n k form → NamesUsed bytes k form
used_form bytes n k Form.i64 u h = tt
used_form bytes n k Form.str u h = tt
used_form bytes n k (Form.vec U) u h = u U h
used_form bytes n k (Form.list U) u h = u U h
used_form bytes n k (Form.flat_map U) u h = u U h
used_form bytes n k (Form.map U) u h = u U h
used_form bytes n k (Form.own U) u h = u U h
used_form bytes n k (Form.shared U) u h = u U h
used_form bytes n k (Form.struct Us) u h = h

-- the bytes of the first k entries are the bytes of the table's front
front_bytes : (table : Table) (rest : List ℕ) (k : ℕ) → AllByRecursion IsLong table → k ≤ length table → take (16 * k) (flat_map form_bytes table ++ rest) ≡ flat_map form_bytes (take k table)
front_bytes table rest zero a h = refl
front_bytes [] rest (suc k) a h = absurd (omega arith)
front_bytes (f ∷ fs) rest (suc k) a h =
    let next : 16 * suc k ≡ 16 + 16 * k = omega arith in
    ap (λ n. take n ((form_bytes f ++ flat_map form_bytes fs) ++ rest)) next
    ∙ ap (take (16 + 16 * k)) (append_assoc (form_bytes f) (flat_map form_bytes fs) rest)
    ∙ take-add 16 (16 * k) (form_bytes f ++ (flat_map form_bytes fs ++ rest))
    ∙ ap (λ xs. xs ++ take (16 * k) (drop 16 (form_bytes f ++ (flat_map form_bytes fs ++ rest)))) (take_at (form_bytes f) (flat_map form_bytes fs ++ rest) 16 a.0)
    ∙ ap (λ xs. form_bytes f ++ take (16 * k) xs) (drop_at (form_bytes f) (flat_map form_bytes fs ++ rest) 16 a.0)
    ∙ ap (λ xs. form_bytes f ++ xs) (front_bytes fs rest k a.1 (omega arith))

front_long : (table : Table) (k : ℕ) → AllByRecursion IsLong table → AllByRecursion IsLong (take k table)
front_long table zero a = tt
front_long [] (suc k) a = tt
front_long (f ∷ fs) (suc k) a = (a.0, front_long fs k a.1)

built_append : (before : List ℕ) (old more : Table) → built size_by before (old ++ more) ≡ built size_by (built size_by before old) more
built_append before [] more = refl
built_append before (form ∷ old) more = built_append (before ++ size_by (length before) before form ∷ []) old more

-- a type has the same size in a front of the table
size_front : (table : Table) (k U : ℕ) → U < k → k ≤ length table → size (take k table) U ≡ size table U
unfolding size
size_front table k U l h =
    let long = length-built size_by [] (take k table) in
    let front = length-take-le k table h in
    sym (
    ap (λ (t : Table). get_or (built size_by [] t) U 8) (sym (take-append-drop k table))
    ∙ ap (λ (ns : List ℕ). get_or ns U 8) (built_append [] (take k table) (drop k table))
    ∙ built_kept size_by 8 (built size_by [] (take k table)) (drop k table) U (omega arith)
    )

front_size : (table : Table) (n k : ℕ) (form : Form) → IsForm n k form → k ≤ length table → size_of_form (take k table) form ≡ size_of_form table form
front_size table n k (Form.struct Us) h l = sum_by_agree (size (take k table)) (size table) k (λ U less. size_front table k U less l) Us h.2
front_size table n k _ h l = refl

module _ (version : ℕ) (bytes : List ℕ) (table : Table) (valid : IsTable table) (of_version : AreOfVersion version table) (spells : Spells bytes table) where
  rest : List ℕ
  rest = replicate (length bytes - length (flat_map form_bytes table)) 0

  each : AllByRecursion IsLong table
  each = all_forms IsLong table (λ T f e. length-form_bytes (length table) T f (valid.forms T f e))

  used : (U : ℕ) → U < length table → IsUsed bytes U
  used U h = subst (λ (bs : List ℕ). 1 ≤ get_or bs (16 * U) 0) (sym spells) (kind_at table (replicate (length bytes - length (flat_map form_bytes table)) 0) U each h)

  entry_in : (k : ℕ) (form : Form) → k < length table → form_at table k ≡ Some form → IsTypeEntry version bytes k form
  entry_in k form h e =
      let tail : List ℕ = replicate (length bytes - length (flat_map form_bytes table)) 0 in
      let is_form = valid.forms k form e in
      let front : take (16 * k) bytes ≡ flat_map form_bytes (take k table) = ap (take (16 * k)) spells ∙ front_bytes table tail k each (omega arith) in
      record {
        of_version = of_version.each k form e;
        spelled = ap (λ bs. slice bs (16 * k) 16) spells ∙ slice_entry table tail k form each e;
        after_used = λ j l. used j (omega arith);
        names_used = used_form bytes (length table) k form used is_form;
        small = λ other n same.
            let one : other ≡ take k table = one_table (take k table) other (front_long table k each) (n ∙ sym (length-take-le k table (omega arith))) (sym front ∙ same) in
            let sizes = ap (λ t. size_of_form t form) one ∙ front_size table (length table) k form is_form (omega arith) ∙ sym (size-form table valid k form e) in
            let limit = valid.sizes k in
            omega arith;
      }

  pub valid_right : length bytes % 16 ≡ 0 → length bytes ≤ 512 → (k : ℕ) → IsWrongEntry version bytes k → ⊥
  valid_right whole few k wrong =
      let begun = wrong.0 in
      let long = length-table table each in
      elim (cases_lt k (length table)) [
        | inl below ↦ (let form = form_in table k below in wrong.1 (omega arith, inr (form.0, entry_in k form.0 below form.1)))
        | inr above ↦ wrong.1 (omega arith, inl (ap (λ bs. slice bs (16 * k) 16) spells ∙ slice_zeros (flat_map form_bytes table) (length bytes - length (flat_map form_bytes table)) (16 * k) (omega arith) (omega arith)))
      ]

  -- only one valid table is spelled by the bytes
  pub valid_one : (other : Table) → IsTable other → Spells bytes other → other ≡ table
  valid_one other is_valid spelled =
      spelled_one other table _ _ (all_forms IsLong other (λ T f e. length-form_bytes (length other) T f (is_valid.forms T f e))) each (sym spelled ∙ spells)
