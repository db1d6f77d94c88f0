-- Writing a type table, entry by entry.
use Rattle.std.proofs.Common.{◌≡◌, ℕ, zero, suc, ◌+◌, ◌-◌, ◌*◌, ◌<◌, ◌≤◌, inl, List, [], ◌∷◌, ◌++◌, length, take, drop, replicate, Option, Some, None, refl, sym, ap, ◌∙◌, subst, arith, add-one, take-add}
use Rattle.std.specs.Prelude.{flat_map}
use Rattle.std.specs.List.{AllByRecursion}
use Rattle.std.proofs.lemmas.List.{append_assoc, append-nil, length-append, length-drop, same_lists, places, replicate-append-replicate}
use Rattle.seg_spec.specs.Bytes.{slice, put, ChangesOnly}
use Rattle.seg_spec.specs.Header.{types_start, types_size}
use Rattle.seg_spec.specs.Types.{Form, Table, IsTable, HasTable, form_at, form_bytes, option_bytes, entry_at, padded}
use Rattle.seg_spec.proofs.Values.CellChangeLaws.{ChangesOnly-trans, ChangesOnly-wider, ChangesOnly-none}
use Rattle.seg_spec.proofs.Tables.OneTableLaws.{IsLong, length-form_bytes}
use Rattle.seg_spec.proofs.SliceLaws.{slice-put_same, put-changes}
use Rattle.seg_spec.proofs.Tables.TypeSizeLaws.{all_forms}

slice_split : (bytes : List ℕ) (at n m : ℕ) → slice bytes at (n + m) ≡ slice bytes at n ++ slice bytes (at + n) m
unfolding slice
slice_split bytes at n m = take-add n m (drop at bytes) ∙ ap (λ xs. take n (drop at bytes) ++ take m xs) (drop_twice bytes at n)
  where
    drop_twice : (xs : List ℕ) (a b : ℕ) → drop b (drop a xs) ≡ drop (a + b) xs
    drop_twice xs a b = same_lists _ _ (simp (length-drop) (omega arith)) (λ k d l. grind (arith, places))

-- the bytes of the first k entries, with zeros for those that the table lacks
abbrev pub spell : ℕ → Table → List ℕ
spell zero table = []
spell (suc k) [] = replicate 16 0 ++ spell k []
spell (suc k) (f ∷ fs) = form_bytes f ++ spell k fs

spell_more : (k : ℕ) (table : Table) → spell (suc k) table ≡ spell k table ++ entry_at table k
spell_more zero [] = append-nil (replicate 16 0)
spell_more zero (f ∷ fs) = append-nil (form_bytes f)
spell_more (suc k) [] = ap (λ xs. replicate 16 0 ++ xs) (spell_more k []) ∙ sym (append_assoc (replicate 16 0) (spell k []) (replicate 16 0))
spell_more (suc k) (f ∷ fs) = ap (λ xs. form_bytes f ++ xs) (spell_more k fs) ∙ sym (append_assoc (form_bytes f) (spell k fs) (entry_at fs k))

spell_none : (k : ℕ) → spell k [] ≡ replicate (16 * k) 0
spell_none zero = refl
spell_none (suc k) =
    let more : 16 + 16 * k ≡ 16 * suc k = omega arith in
    ap (λ xs. replicate 16 0 ++ xs) (spell_none k) ∙ replicate-append-replicate 16 (16 * k) 0 ∙ ap (λ n. replicate n 0) more

spell_all : (k : ℕ) (table : Table) → length table ≤ k → AllByRecursion IsLong table → spell k table ≡ padded (16 * k) (flat_map form_bytes table)
spell_all k [] le long = let all : 16 * k - 0 ≡ 16 * k = omega arith in spell_none k ∙ ap (λ n. replicate n 0) (sym all)
spell_all zero (f ∷ fs) le long = absurd (omega arith)
spell_all (suc k) (f ∷ fs) le long =
    let rest = flat_map form_bytes fs in
    let all = length-append (form_bytes f) rest in
    let first = long.0 in
    let same : 16 * k - length rest ≡ 16 * suc k - length (form_bytes f ++ rest) = omega arith in
    ap (λ xs. form_bytes f ++ xs) (spell_all k fs (omega arith) long.1) ∙ sym (append_assoc (form_bytes f) rest (replicate (16 * k - length rest) 0)) ∙ ap (λ n. (form_bytes f ++ rest) ++ replicate n 0) same

-- the first t entries of the table were written
pub record Written (old new : List ℕ) (table : Table) (t : ℕ) : Type 0 where
  pub changes : ChangesOnly old new types_start types_size
  pub spelled : types_start + types_size ≤ length old → slice new types_start (16 * t) ≡ spell t table

none_sliced : (bytes : List ℕ) (at : ℕ) → slice bytes at 0 ≡ []
unfolding slice
none_sliced bytes at = refl

pub none_written : (bytes : List ℕ) (table : Table) → Written bytes bytes table 0
none_written bytes table = record { changes = ChangesOnly-none bytes types_start types_size; spelled = λ long. none_sliced bytes types_start }

pub entry_long : (table : Table) (T : ℕ) → IsTable table → length (entry_at table T) ≡ 16
entry_long table T valid = go (form_at table T) refl
  where
    go : (o : Option Form) → form_at table T ≡ o → length (option_bytes o) ≡ 16
    go None e = refl
    go (Some form) e = length-form_bytes (length table) T form (valid.forms T form e)

pub one_written : (old mid new : List ℕ) (table : Table) (t at : ℕ) → Written old mid table t → t < 32 → at ≡ types_start + 16 * t → length (entry_at table t) ≡ 16 → new ≡ put mid at (entry_at table t) → Written old new table (t + 1)
one_written old mid new table t at w less at_is wide new_is =
    let entry = entry_at table t in
    let put_there : ChangesOnly mid (put mid (types_start + 16 * t) entry) (types_start + 16 * t) 16 =
    subst (ChangesOnly mid (put mid (types_start + 16 * t) entry) (types_start + 16 * t)) wide (put-changes mid (types_start + 16 * t) entry) in
    let changed : ChangesOnly mid new (types_start + 16 * t) 16 = rw (new_is, at_is) put_there in
    let all : ChangesOnly old new types_start types_size = ChangesOnly-trans old mid new types_start types_size w.changes (ChangesOnly-wider mid new (types_start + 16 * t) 16 types_start types_size (omega arith) (omega arith) changed) in
    record {
      changes = all;
      spelled = λ long.
          let fits : types_start + 16 * t + 16 ≤ length mid = omega (arith, w.changes.length_kept) in
          let next : 16 * (t + 1) ≡ 16 * t + 16 = omega arith in
          let first = changed.others types_start (16 * t) (inl (omega arith)) ∙ w.spelled long in
          let second : slice new (types_start + 16 * t) 16 ≡ entry = ap (λ b. slice b (types_start + 16 * t) 16) (rw at_is at new_is) ∙ slice-put_same mid (types_start + 16 * t) entry 16 (sym wide) fits in
          ap (slice new types_start) next ∙ slice_split new types_start (16 * t) 16 ∙ ap (λ xs. xs ++ slice new (types_start + 16 * t) 16) first ∙ ap (λ xs. spell t table ++ xs) second
          ∙ sym (spell_more t table) ∙ ap (λ k. spell k table) (sym (add-one t));
    }

pub all_written : (old new : List ℕ) (table : Table) → IsTable table → Written old new table 32 → types_start + types_size ≤ length old → HasTable new types_start table
all_written old new table valid w long = w.spelled long ∙ spell_all 32 table valid.few (all_forms IsLong table (λ T f e. length-form_bytes (length table) T f (valid.forms T f e)))
