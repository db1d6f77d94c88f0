-- The next entry of a table in bytes.
use Rattle.std.proofs.Common.{◌≡◌, ◌≢◌, ℕ, zero, suc, ◌+◌, ◌-◌, ◌*◌, ◌<◌, ◌≤◌, List, [], ◌∷◌, ◌++◌, length, get_or, take, drop, replicate, refl, sym, ap, ◌∙◌, subst, arith, ◌⊎◌, inl, inr, append_assoc, append-nil, Some, take-add}
use Rattle.std.specs.Prelude.{flat_map}
use Rattle.std.specs.List.{AllByRecursion}
use Rattle.std.proofs.lemmas.List.{length-append, length-take, length-drop, length-replicate, get_or-take, take_all, replicate-append-replicate}
use Rattle.std.proofs.lemmas.Bool.{cases_lt}
use Rattle.seg_spec.specs.Bytes.{slice}
use Rattle.seg_spec.specs.Types.{Form, Table, form_at, form_bytes, padded, size, size_by, size_of_form, built, IsForm, IsTable, IsUsed, NamesUsed, version_of, IsTypeEntry, IsRight, IsWrongEntry}
use Rattle.seg_spec.proofs.Tables.TypeSizeLaws.{size_by_of, all_forms}
use Rattle.seg_spec.proofs.Tables.OneTableLaws.{IsLong}
use Rattle.seg_spec.proofs.Tables.TableEntryLaws.{one_form, form_bytes_large, length-table, one_table, kind_at, no_kind_at, built_push}
use Rattle.seg_layout.specs.Reading.{IsReadTo}

-- ---- forms whose parts are given

long_form : (bytes : List ℕ) (k : ℕ) (form : Form) → NamesUsed bytes k form → length (form_bytes form) ≡ 16
long_form bytes k Form.i64 h = refl
long_form bytes k Form.str h = refl
long_form bytes k (Form.vec U) h = refl
long_form bytes k (Form.list U) h = refl
long_form bytes k (Form.flat_map U) h = refl
long_form bytes k (Form.map U) h = refl
long_form bytes k (Form.own U) h = refl
long_form bytes k (Form.shared U) h = refl
long_form bytes k (Form.struct Us) h = simp (length-append, length-replicate) (let few = h.1 in omega arith)

named_form : (bytes : List ℕ) (n k : ℕ) (form : Form) → ((U : ℕ) → IsUsed bytes U → U < n) → NamesUsed bytes k form → IsForm n k form
named_form bytes n k Form.i64 u h = tt
named_form bytes n k Form.str u h = tt
named_form bytes n k (Form.vec U) u h = u U h
named_form bytes n k (Form.list U) u h = u U h
named_form bytes n k (Form.flat_map U) u h = u U h
named_form bytes n k (Form.map U) u h = u U h
named_form bytes n k (Form.own U) u h = u U h
named_form bytes n k (Form.shared U) u h = u U h
named_form bytes n k (Form.struct Us) u h = h

-- ---- the entry k of some bytes

module _ (version : ℕ) (bytes : List ℕ) (k : ℕ) (begun : 16 * k < length bytes) where
  short : length (slice bytes (16 * k) 16) < 16 → IsWrongEntry version bytes k
  short h = (
    begun,
    λ right. elim right.1 [
      | inl zeros ↦ absurd (let n = ap length zeros in omega arith)
      | inr entry ↦ absurd (let n = ap length (entry.1.spelled) in let large = form_bytes_large entry.0 in omega arith)
    ],
  )

  pub cut : length bytes < 16 * k + 16 → IsWrongEntry version bytes k
  unfolding slice
  cut h = short (omega (arith, length-take 16 (drop (16 * k) bytes), length-drop (16 * k) bytes))

  module _ (used : slice bytes (16 * k) 16 ≢ replicate 16 0) where
    module _ (form : Form) (spelled : slice bytes (16 * k) 16 ≡ form_bytes form) where
      pub too_new : version < version_of form → IsWrongEntry version bytes k
      too_new h = (
        begun,
        λ right. elim right.1 [
          | inl zeros ↦ used zeros
          | inr entry ↦ (
              let same : version_of entry.0 ≡ version_of form = ap version_of (one_form entry.0 form (sym (entry.1.spelled) ∙ spelled)) in
              let allowed = entry.1.of_version in
              absurd (omega arith)
              )
        ],
      )

      pub unnamed : (NamesUsed bytes k form → ⊥) → IsWrongEntry version bytes k
      unnamed h = (
        begun,
        λ right. elim right.1 [
          | inl zeros ↦ used zeros
          | inr entry ↦ h (subst (NamesUsed bytes k) (one_form entry.0 form (sym (entry.1.spelled) ∙ spelled)) entry.1.names_used)
        ],
      )

-- ---- after the entries of a table

module _ (version : ℕ) (bytes : List ℕ) (k : ℕ) (table : Table) (read : IsReadTo version bytes k table) where
  abbrev flat : List ℕ
  flat = flat_map form_bytes table

  each_long : AllByRecursion IsLong table
  each_long = all_forms IsLong table (λ T form e. long_form bytes T form (read.names_used T form e))

  flat_long : length flat ≡ 16 * length table
  flat_long = length-table table each_long

  -- the table's bytes are the bytes before entry k
  byte_at : (i : ℕ) → i < 16 * k → get_or bytes i 0 ≡ get_or (padded (16 * k) flat) i 0
  byte_at i h = sym (get_or-take (16 * k) bytes i 0 h) ∙ ap (λ bs. get_or bs i 0) read.spelled

  unused_after : (T : ℕ) → length table ≤ T → T < k → IsUsed bytes T → ⊥
  unused_after T h l used =
      let there = byte_at (16 * T) (omega arith) in
      let none = no_kind_at table (16 * k) (16 * T) each_long (omega arith) in
      omega arith

  used_in : (T : ℕ) → T < length table → IsUsed bytes T
  used_in T h =
      let few = read.few in
      let there = byte_at (16 * T) (omega arith) in
      let some = kind_at table (replicate (16 * k - length flat) 0) T each_long h in
      omega arith

  module _ (begun : 16 * k < length bytes) where
    pub after_unused : slice bytes (16 * k) 16 ≢ replicate 16 0 → length table < k → IsWrongEntry version bytes k
    after_unused used h = (
      begun,
      λ right. elim right.1 [
        | inl zeros ↦ used zeros
        | inr entry ↦ unused_after (length table) (omega arith) h (entry.1.after_used (length table) h)
      ],
    )

  module _ (full : length table ≡ k) where
    exact : take (16 * k) bytes ≡ flat
    exact =
        let long = flat_long in
        let none : 16 * k - length flat ≡ 0 = omega arith in
        read.spelled ∙ ap (λ n. flat ++ replicate n 0) none ∙ append-nil flat

    pub large : 16 * k < length bytes → slice bytes (16 * k) 16 ≢ replicate 16 0 → (form : Form) → slice bytes (16 * k) 16 ≡ form_bytes form → 4096 < size_of_form table form → IsWrongEntry version bytes k
    large begun used form spelled big = (
      begun,
      λ right. elim right.1 [
        | inl zeros ↦ used zeros
        | inr entry ↦
            let small = entry.1.small table full exact in
            let same : entry.0 ≡ form = one_form entry.0 form (sym (entry.1.spelled) ∙ spelled) in
            let two : size_of_form table entry.0 ≡ size_of_form table form = ap (size_of_form table) same in
            absurd (omega arith)
      ],
    )

    pub is_entry : (form : Form) → version_of form ≤ version → slice bytes (16 * k) 16 ≡ form_bytes form → NamesUsed bytes k form → size_of_form table form ≤ 4096 → IsTypeEntry version bytes k form
    is_entry form of_version spelled named small = record {
      of_version = of_version;
      spelled = spelled;
      after_used = λ j l. used_in j (omega arith);
      names_used = named;
      small = λ other n e.
          let same : other ≡ table = one_table table other each_long (n ∙ sym full) (sym exact ∙ e) in
          let two : size_of_form other form ≡ size_of_form table form = ap (λ t. size_of_form t form) same in
          omega arith;
    }

-- 16 bytes from a position on
pub slice_16 : (bytes : List ℕ) (at : ℕ) → at + 16 ≤ length bytes → (take (at + 16 - at) (drop at bytes) ≡ slice bytes at 16) × (length (take (at + 16 - at) (drop at bytes)) ≡ 16)
unfolding slice
slice_16 bytes at h =
    let n : at + 16 - at ≡ 16 = omega arith in
    rw n (refl, simp (length-take, length-drop) (omega arith))

-- the size of a type, by the sizes of entries
pub size_by_sized : (table : Table) (sizes : List ℕ) (form : Form) → sizes ≡ built size_by [] table → size_by 0 sizes form ≡ size_of_form table form
size_by_sized table sizes form e = ap (λ ns. size_by 0 ns form) e ∙ size_by_of table 0 form

-- ---- the next entry

bytes_on : (bytes : List ℕ) (n : ℕ) → take (n + 16) bytes ≡ take n bytes ++ slice bytes n 16
unfolding slice
bytes_on bytes n = take-add n 16 bytes

slice_fits : (bytes : List ℕ) (n : ℕ) → 16 ≤ length (slice bytes n 16) → n + 16 ≤ length bytes
unfolding slice
slice_fits bytes n h = omega (arith, length-take 16 (drop n bytes), length-drop n bytes)

at_push : (table : Table) (form : Form) (T : ℕ) (found : Form) → form_at (table ++ form ∷ []) T ≡ Some found → (form_at table T ≡ Some found) ⊎ ((T ≡ length table) × (found ≡ form))
at_push [] form zero found e = inr (refl, cc)
at_push [] form (suc T) found e = cc
at_push (f ∷ fs) form zero found e = inl e
at_push (f ∷ fs) form (suc T) found e = elim (at_push fs form T found e) [
  | inl old ↦ inl old
  | inr new ↦ inr (ap suc new.0, new.1)
]

flat_push : (table : Table) (form : Form) → flat_map form_bytes (table ++ form ∷ []) ≡ flat_map form_bytes table ++ form_bytes form
flat_push [] form = append-nil (form_bytes form)
flat_push (f ∷ fs) form = ap (λ xs. form_bytes f ++ xs) (flat_push fs form) ∙ sym (append_assoc (form_bytes f) (flat_map form_bytes fs) (form_bytes form))

small_push : (xs : List ℕ) (y T : ℕ) → ((k : ℕ) → get_or xs k 8 ≤ 4096) → y ≤ 4096 → get_or (xs ++ y ∷ []) T 8 ≤ 4096
small_push [] y zero h l = l
small_push [] y (suc T) h l = h T
small_push (x ∷ xs) y zero h l = h 0
small_push (x ∷ xs) y (suc T) h l = small_push xs y T (λ k. h (suc k)) l

size_push : (table : Table) (form : Form) → size_of_form table form ≤ 4096 → ((T : ℕ) → size table T ≤ 4096) → (T : ℕ) → size (table ++ form ∷ []) T ≤ 4096
unfolding size
size_push table form small rest T =
    let of = size_by_of table (0 + length table) form in
    subst (λ (ns : List ℕ). get_or ns T 8 ≤ 4096) (sym (built_push size_by [] table form)) (small_push (built size_by [] table) (size_by (0 + length table) (built size_by [] table) form) T rest (omega arith))

module _ (version : ℕ) (bytes : List ℕ) (k : ℕ) (table : Table) (read : IsReadTo version bytes k table) (limit : k < 32) where
  right_more : IsRight version bytes k → (j : ℕ) → j < k + 1 → IsWrongEntry version bytes j → ⊥
  right_more now j l wrong = elim (cases_lt j k) [
    | inl below ↦ read.right j below wrong
    | inr above ↦ (let same : j ≡ k = omega arith in subst (λ i. IsWrongEntry version bytes i → ⊥) (sym same) (λ w. w.1 now) wrong)
  ]

  next : 16 * (k + 1) ≡ 16 * k + 16
  next = omega arith

  pub unused_on : slice bytes (16 * k) 16 ≡ replicate 16 0 → IsReadTo version bytes (k + 1) table
  unused_on zeros =
      let fits = slice_fits bytes (16 * k) (let n = ap length zeros in omega arith) in
      let flat = flat_map form_bytes table in
      let long : length flat ≡ 16 * length table = length-table table (all_forms IsLong table (λ T form e. long_form bytes T form (read.names_used T form e))) in
      let few = read.few in
      let more : (16 * k - length flat) + 16 ≡ 16 * (k + 1) - length flat = omega arith in
      record {
        within = omega arith;
        limit = omega arith;
        few = omega arith;
        spelled =
            ap (λ n. take n bytes) next ∙ bytes_on bytes (16 * k) ∙ ap (λ xs. xs ++ slice bytes (16 * k) 16) read.spelled ∙ ap (λ xs. (flat ++ replicate (16 * k - length flat) 0) ++ xs) zeros
            ∙ append_assoc flat (replicate (16 * k - length flat) 0) (replicate 16 0)
            ∙ ap (λ xs. flat ++ xs) (replicate-append-replicate (16 * k - length flat) 16 0 ∙ ap (λ n. replicate n 0) more);
        names_used = read.names_used;
        small = read.small;
        of_version = read.of_version;
        right = right_more (limit, inl zeros);
      }

  pub used_on : length table ≡ k → (form : Form) → IsTypeEntry version bytes k form → size_of_form table form ≤ 4096 → IsReadTo version bytes (k + 1) (table ++ form ∷ [])
  used_on full form entry small =
      let fits = slice_fits bytes (16 * k) (let n = ap length (entry.spelled) in let large = form_bytes_large form in omega arith) in
      let long_table = length-append table (form ∷ []) in
      let longer = flat_push table form in
      let flat = flat_map form_bytes table in
      let long : length flat ≡ 16 * length table = length-table table (all_forms IsLong table (λ T found e. long_form bytes T found (read.names_used T found e))) in
      let mine = long_form bytes k form entry.names_used in
      let both = length-append flat (form_bytes form) in
      let none : 16 * (k + 1) - length (flat ++ form_bytes form) ≡ 0 = omega arith in
      record {
        within = omega arith;
        limit = omega arith;
        few = omega arith;
        spelled =
            ap (λ n. take n bytes) next ∙ bytes_on bytes (16 * k) ∙ ap (λ xs. xs ++ slice bytes (16 * k) 16) (exact version bytes k table read full) ∙ ap (λ xs. flat ++ xs) entry.spelled
            ∙ sym (append-nil (flat ++ form_bytes form)) ∙ ap (λ n. (flat ++ form_bytes form) ++ replicate n 0) (sym none) ∙ ap (padded (16 * (k + 1))) (sym longer);
        names_used = λ T found e. elim (at_push table form T found e) [
          | inl old ↦ read.names_used T found old
          | inr new ↦ (
              let here : T ≡ k = omega (arith, new.0) in
              subst (λ (i : ℕ). NamesUsed bytes i found) (sym here) (subst (NamesUsed bytes k) (sym new.1) entry.names_used)
              )
        ];
        small = size_push table form small read.small;
        of_version = record {
          each = λ T found e. elim (at_push table form T found e) [
            | inl old ↦ read.of_version.each T found old
            | inr new ↦ subst (λ (f : Form). version_of f ≤ version) (sym new.1) entry.of_version
          ];
        };
        right = right_more (limit, inr (form, entry));
      }

-- ---- at the end

pub begin : (version : ℕ) (bytes : List ℕ) → IsReadTo version bytes 0 []
unfolding size
begin version bytes = record {
  within = omega arith;
  limit = omega arith;
  few = omega arith;
  spelled = refl;
  names_used = λ T form e. cc;
  small = λ T. omega arith;
  of_version = record { each = λ T form e. cc };
  right = λ j l. absurd (omega arith);
}

module _ (version : ℕ) (bytes : List ℕ) (k : ℕ) (table : Table) (read : IsReadTo version bytes k table) (ended : length bytes ≤ 16 * k) where
  all_read : take (16 * k) bytes ≡ bytes
  all_read = take_all (16 * k) bytes ended

  named_within : (U : ℕ) → IsUsed bytes U → U < length table
  named_within U used = elim (cases_lt U (length table)) [
    | inl below ↦ below
    | inr above ↦ (
        let none = no_kind_at table (16 * k) (16 * U) (each_long version bytes k table read) (omega arith) in
        let there = ap (λ xs. get_or xs (16 * U) 0) (sym all_read ∙ read.spelled) in
        absurd (omega arith)
        )
  ]

  pub is_table : IsTable table
  is_table = record {
    few = (let few = read.few in let limit = read.limit in omega arith);
    forms = λ T form e. named_form bytes (length table) T form named_within (read.names_used T form e);
    sizes = read.small;
  }

  pub is_spelled : bytes ≡ padded (length bytes) (flat_map form_bytes table)
  is_spelled =
      let within = read.within in
      let whole : 16 * k ≡ length bytes = omega arith in
      sym all_read ∙ read.spelled ∙ ap (λ n. padded n (flat_map form_bytes table)) whole
