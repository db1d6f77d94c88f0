-- The entries of a table in bytes.
use Rattle.std.proofs.Common.{◌≡◌, ℕ, zero, suc, ◌+◌, ◌-◌, ◌*◌, ◌<◌, ◌≤◌, List, [], ◌∷◌, ◌++◌, length, get_or, replicate, refl, sym, ap, ◌∙◌, arith, append_assoc, add-zero}
use Rattle.std.specs.Prelude.{flat_map}
use Rattle.std.specs.List.{AllByRecursion}
use Rattle.std.proofs.lemmas.List.{length-append, length-replicate, get_or-append_right, append-nil}
use Rattle.seg_spec.specs.Types.{Form, Table, built, form_bytes, padded}
use Rattle.seg_spec.proofs.Tables.OneTableLaws.{form_from, form_from-form_bytes, kind_not_zero, IsLong, spelled_one}

-- ---- the bytes of one form

pub one_form : (f g : Form) → form_bytes f ≡ form_bytes g → f ≡ g
one_form f g e = sym (form_from-form_bytes f) ∙ ap form_from e ∙ form_from-form_bytes g

pub form_bytes_large : (f : Form) → 16 ≤ length (form_bytes f)
form_bytes_large Form.i64 = omega arith
form_bytes_large Form.str = omega arith
form_bytes_large (Form.vec U) = omega arith
form_bytes_large (Form.list U) = omega arith
form_bytes_large (Form.flat_map U) = omega arith
form_bytes_large (Form.map U) = omega arith
form_bytes_large (Form.own U) = omega arith
form_bytes_large (Form.shared U) = omega arith
form_bytes_large (Form.struct Us) = simp (length-append, length-replicate) (omega arith)

-- ---- the bytes of a table

pub length-table : (table : Table) → AllByRecursion IsLong table → length (flat_map form_bytes table) ≡ 16 * length table
length-table [] a = refl
length-table (f ∷ fs) a =
    let rest = length-table fs a.1 in
    let first = a.0 in
    length-append (form_bytes f) (flat_map form_bytes fs) ∙ omega arith

table_large : (table : Table) → 16 * length table ≤ length (flat_map form_bytes table)
table_large [] = omega arith
table_large (f ∷ fs) =
    let rest = table_large fs in
    let first = form_bytes_large f in
    let all = length-append (form_bytes f) (flat_map form_bytes fs) in
    omega arith

-- if all entries together have 16 bytes each, each entry has 16 bytes
pub all_long : (table : Table) → length (flat_map form_bytes table) ≡ 16 * length table → AllByRecursion IsLong table
all_long [] e = tt
all_long (f ∷ fs) e =
    let rest = table_large fs in
    let first = form_bytes_large f in
    let all = length-append (form_bytes f) (flat_map form_bytes fs) in
    let mine : length (form_bytes f) ≡ 16 = omega arith in
    (mine, all_long fs (omega arith))

-- tables with the same bytes are equal
pub one_table : (t u : Table) → AllByRecursion IsLong t → length u ≡ length t → flat_map form_bytes t ≡ flat_map form_bytes u → u ≡ t
one_table t u a n e =
    let long = length-table t a in
    let same : length (flat_map form_bytes u) ≡ 16 * length u = sym (ap length e) ∙ long ∙ ap (λ k. 16 * k) (sym n) in
    spelled_one u t 0 0 (all_long u same) a (append-nil (flat_map form_bytes u) ∙ sym e ∙ sym (append-nil (flat_map form_bytes t)))

-- each entry of a table has a kind that isn't 0
pub kind_at : (table : Table) (rest : List ℕ) (j : ℕ) → AllByRecursion IsLong table → j < length table → 1 ≤ get_or (flat_map form_bytes table ++ rest) (16 * j) 0
kind_at [] rest j a l = absurd (omega arith)
kind_at (f ∷ fs) rest zero a l = rw (append_assoc (form_bytes f) (flat_map form_bytes fs) rest) (kind_not_zero f (flat_map form_bytes fs ++ rest))
kind_at (f ∷ fs) rest (suc j) a l =
    let next : get_or (form_bytes f ++ (flat_map form_bytes fs ++ rest)) (16 * suc j) 0 ≡ get_or (flat_map form_bytes fs ++ rest) (16 * suc j - 16) 0 = get_or-append_right (form_bytes f) (flat_map form_bytes fs ++ rest) 16
    (16 * suc j) 0 a.0 (omega arith) in
    let there : 16 * suc j - 16 ≡ 16 * j = omega arith in
    rw (append_assoc (form_bytes f) (flat_map form_bytes fs) rest, next, there) (kind_at fs rest j a.1 (omega arith))

zeros : ℕ → List ℕ
zeros m = replicate m 0

zeros_at : (m i : ℕ) → get_or (zeros m) i 0 ≡ 0
unfolding zeros
zeros_at zero i = refl
zeros_at (suc m) zero = refl
zeros_at (suc m) (suc i) = zeros_at m i

pub no_kind_at : (table : Table) (n k : ℕ) → AllByRecursion IsLong table → 16 * length table ≤ k → get_or (padded n (flat_map form_bytes table)) k 0 ≡ 0
unfolding zeros
no_kind_at table n k a l =
    let long = length-table table a in
    get_or-append_right (flat_map form_bytes table) (replicate (n - length (flat_map form_bytes table)) 0) (16 * length table) k 0 long l
    ∙ zeros_at (n - length (flat_map form_bytes table)) (k - 16 * length table)

-- ---- one entry more

pub built_push : {X : Type 0} (step : ℕ → List X → Form → X) (before : List X) (forms : Table) (form : Form)
    → built step before (forms ++ form ∷ []) ≡ built step before forms ++ step (length before + length forms) (built step before forms) form ∷ []
built_push step before [] form = rw (add-zero (length before)) refl
built_push step before (f ∷ forms) form =
    let longer = length-append before (step (length before) before f ∷ []) in
    let n : length (before ++ step (length before) before f ∷ []) + length forms ≡ length before + suc (length forms) = omega arith in
    rw (← n) (built_push step (before ++ step (length before) before f ∷ []) forms form)

pub length-built : {X : Type 0} (step : ℕ → List X → Form → X) (before : List X) (forms : Table) → length (built step before forms) ≡ length before + length forms
length-built step before [] = omega arith
length-built step before (form ∷ forms) = length-built step (before ++ step (length before) before form ∷ []) forms ∙ (let e = length-append before (step (length before) before form ∷ []) in omega arith)
