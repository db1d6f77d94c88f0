-- The type entries of a client file: all of them are used.
use Rattle.std.proofs.Common.{◌≡◌, ℕ, ◌+◌, ◌-◌, ◌*◌, ◌<◌, ◌≤◌, List, [], ◌++◌, length, get_or, replicate, sym, ap, ◌∙◌, arith, inl, inr, append-nil}
use Rattle.std.specs.Prelude.{flat_map}
use Rattle.std.proofs.lemmas.Bool.{cases_lt}
use Rattle.std.proofs.lemmas.List.{length-append}
use Rattle.seg_spec.specs.Bytes.{slice}
use Rattle.seg_spec.specs.Types.{Table, IsTable, Spells, IsUsed, form_bytes}
use Rattle.seg_spec.proofs.Tables.TableEntryLaws.{length-table, kind_at, no_kind_at}
use Rattle.client_spec.proofs.Spelling.OneClientLaws.{all_long}
use Rattle.client_code.specs.Files.{AreTypes}

fits_in : (xs ys : List ℕ) (n : ℕ) → n ≡ length (xs ++ ys) → length xs ≤ n
fits_in xs ys n e = let l = length-append xs ys in omega arith

-- a table whose entries are all used fills its bytes
pub full : (bytes : List ℕ) (table : Table) (n : ℕ) → IsTable table → Spells bytes table → length bytes ≡ 16 * n → ((k : ℕ) → k < n → IsUsed bytes k) → (length table ≡ n) × (bytes ≡ flat_map form_bytes table)
full bytes table n valid spells size used =
    let all = all_long table valid in
    let flat = flat_map form_bytes table in
    let long : length flat ≡ 16 * length table = length-table table all in
    let fits : length flat ≤ length bytes = fits_in flat (replicate (length bytes - length flat) 0) (length bytes) (ap length spells) in
    let all_of : length table ≡ n = elim (cases_lt (length table) n) [
      | inl less ↦ absurd (
          let here = used (length table) less in
          let none = no_kind_at table (length bytes) (16 * length table) all (omega arith) in
          let there = ap (λ xs. get_or xs (16 * length table) 0) spells in
          omega arith
          )
      | inr enough ↦ omega arith
    ] in
    let rest : length bytes - length flat ≡ 0 = omega arith in
    (all_of, spells ∙ ap (λ k. flat ++ replicate k 0) rest ∙ append-nil flat)

pub are_types : (file bytes : List ℕ) (table : Table) (n : ℕ) → 20 + 16 * n ≤ length file → bytes ≡ slice file 20 (16 * n) → IsTable table → Spells bytes table
    → length bytes ≡ 16 * n → ((k : ℕ) → k < n → IsUsed bytes k) → AreTypes file table
are_types file bytes table n whole same valid spells size used =
    let f = full bytes table n valid spells size used in
    let all = f.0 in
    record {
      valid = valid;
      whole = omega arith;
      spelled = ap (λ k. slice file 20 (16 * k)) f.0 ∙ sym same ∙ f.1;
    }

-- the bytes of a table spell that table
pub spells_flat : (bytes : List ℕ) (table : Table) → bytes ≡ flat_map form_bytes table → Spells bytes table
spells_flat bytes table e =
    let flat = flat_map form_bytes table in
    let n = ap length e in
    let none : length bytes - length flat ≡ 0 = omega arith in
    e ∙ sym (append-nil flat) ∙ ap (λ k. flat ++ replicate k 0) (sym none)

pub all_used : (bytes : List ℕ) (table : Table) → IsTable table → bytes ≡ flat_map form_bytes table → (k : ℕ) → k < length table → IsUsed bytes k
all_used bytes table valid e k h =
    let used = kind_at table [] k (all_long table valid) h in
    let same = ap (λ xs. get_or xs (16 * k) 0) (e ∙ sym (append-nil (flat_map form_bytes table))) in
    omega arith
