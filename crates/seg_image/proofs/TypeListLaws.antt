-- The bytes of a table of types, which are written entry by entry.
use Rattle.std.proofs.Common.{◌≡◌, ℕ, ◌+◌, ◌-◌, ◌*◌, ◌<◌, ◌≤◌, ◌↔◌, List, [], ◌∷◌, ◌++◌, length, get_or, take, drop, map, replicate, Result, Ok, Err, refl, sym, ap, ◌∙◌, subst, append_assoc, add-one, arith}
use Rattle.std.specs.Prelude.{flat_map, IsOk, IfOk}
use Rattle.std.specs.List.{AllByRecursion}
use Rattle.std.proofs.Math.Seq.{take-suc}
use Rattle.std.proofs.lemmas.Grind.{flat_map-append}
use Rattle.std.proofs.lemmas.List.{append-nil, map_push, take_at, drop_at, drop-replicate, length-append, length-map, length-drop, length-take-le, take_all}
use Rattle.seg_raw.specs.declared.fault.Fault.{Fault}
use Rattle.seg_spec.specs.Types.{Form, Table, IsTable, AreOfVersion, version_of, Spells, padded, form_bytes}
use Rattle.seg_spec.proofs.Tables.OneTableLaws.{IsLong, length-form_bytes, spelled_one}
use Rattle.seg_spec.proofs.Tables.TypeSizeLaws.{all_forms}
use Rattle.seg_spec.proofs.Tables.TableEntryLaws.{all_long}
use Rattle.seg_layout.specs.Forms.{form_of}
use Rattle.seg_layout.specs.Reading.{IsReading}
use Rattle.seg_layout.specs.declared.kind.«Type».{«Type»}
use Rattle.seg_image.specs.TypeLists.{entries_of}
use borrow.Rule.Slice.PartMut.{put_mid}

-- the entries of the first k types
abbrev pub entries_to : List «Type» → ℕ → List ℕ
entries_to types k = flat_map form_bytes (map form_of (take k types))

entries_more : (types : List «Type») (k : ℕ) (of : «Type») → k < length types → of ≡ get_or types k of → entries_to types (k + 1) ≡ entries_to types k ++ form_bytes (form_of of)
entries_more types k of there is =
    let more : take (k + 1) types ≡ take k types ++ of ∷ [] = ap (λ n. take n types) (add-one k) ∙ take-suc types k of there ∙ ap (λ x. take k types ++ x ∷ []) (sym is) in
    ap (λ ts. flat_map form_bytes (map form_of ts)) more ∙ ap (flat_map form_bytes) (map_push form_of (take k types) of)
    ∙ flat_map-append form_bytes (map form_of (take k types)) (form_of of ∷ []) ∙ ap (λ bs. entries_to types k ++ bs) (append-nil (form_bytes (form_of of)))

-- an entry has 16 bytes
pub part_long : (k : ℕ) (bytes : List ℕ) → length bytes ≡ 512 → k < 32 → length (take (k * 16 + 16 - k * 16) (drop (k * 16) bytes)) ≡ 16
part_long k bytes size there =
    let sixteen : k * 16 + 16 - k * 16 ≡ 16 = omega arith in
    let left = length-drop (k * 16) bytes in
    ap (λ n. length (take n (drop (k * 16) bytes))) sixteen ∙ length-take-le 16 (drop (k * 16) bytes) (omega (arith, left, size))

-- one more entry is written
pub entry_written : (types : List «Type») (k : ℕ) (of : «Type») (old entry : List ℕ) → k < length types → length types ≤ 32 → of ≡ get_or types k of
    → old ≡ entries_to types k ++ replicate (512 - 16 * k) 0 → length (entries_to types k) ≡ 16 * k → entry ≡ form_bytes (form_of of) → length entry ≡ 16
    → (put_mid (k * 16) (k * 16 + 16 - k * 16) old entry ≡ entries_to types (k + 1) ++ replicate (512 - 16 * (k + 1)) 0) × (length (entries_to types (k + 1)) ≡ 16 * (k + 1))
entry_written types k of old entry there few is e long entry_is sixteen =
    let done = entries_to types k in
    let zeros : List ℕ = replicate (512 - 16 * k) 0 in
    let at : length done ≡ k * 16 = omega (arith, long) in
    let more = entries_more types k of there is in
    let size : k * 16 + 16 - k * 16 ≡ 16 = omega arith in
    let left : 512 - 16 * k - 16 ≡ 512 - 16 * (k + 1) = omega arith in
    let front : take (k * 16) old ≡ done = ap (take (k * 16)) e ∙ take_at done zeros (k * 16) at in
    let rest : drop (k * 16 + 16 - k * 16) (drop (k * 16) old) ≡ replicate (512 - 16 * (k + 1)) 0 =
    ap (λ n. drop n (drop (k * 16) old)) size ∙ ap (drop 16) (ap (drop (k * 16)) e ∙ drop_at done zeros (k * 16) at) ∙ drop-replicate 16 (512 - 16 * k) 0 ∙ ap (λ n. replicate n 0) left in
    let both : entries_to types (k + 1) ≡ done ++ entry = more ∙ ap (λ bs. done ++ bs) (sym entry_is) in (
      ap (λ xs. xs ++ (entry ++ drop (k * 16 + 16 - k * 16) (drop (k * 16) old))) front ∙ ap (λ xs. done ++ (entry ++ xs)) rest
          ∙ sym (append_assoc done entry (replicate (512 - 16 * (k + 1)) 0)) ∙ ap (λ xs. xs ++ replicate (512 - 16 * (k + 1)) 0) (sym both),
      ap length both ∙ length-append done entry ∙ omega (arith, long, sixteen),
    )

-- all entries are written
pub entries_whole : (types : List «Type») (k : ℕ) (bytes : List ℕ) → length types ≤ k → length types ≤ 32 → k ≤ length types → bytes ≡ entries_to types k ++ replicate (512 - 16 * k) 0 → length (entries_to types k) ≡ 16 * k
    → (bytes ≡ entries_of types) × (length (flat_map form_bytes (map form_of types)) ≡ 16 * length types)
entries_whole types k bytes all few within e long =
    let whole : entries_to types k ≡ flat_map form_bytes (map form_of types) = ap (λ ts. flat_map form_bytes (map form_of ts)) (take_all k types all) in
    let size : length (flat_map form_bytes (map form_of types)) ≡ 16 * k = ap length (sym whole) ∙ long in (
      e ∙ ap (λ xs. xs ++ replicate (512 - 16 * k) 0) whole ∙ ap (λ n. flat_map form_bytes (map form_of types) ++ replicate (512 - n) 0) (sym size),
      omega (arith, size, all, within),
    )

of_sharing : (table : Table) → AreOfVersion 2 table
of_sharing table = record { each = λ T form e. at_most form }
  where
    at_most : (form : Form) → version_of form ≤ 2
    at_most Form.i64 = omega arith
    at_most Form.str = omega arith
    at_most (Form.vec U) = omega arith
    at_most (Form.list U) = omega arith
    at_most (Form.flat_map U) = omega arith
    at_most (Form.map U) = omega arith
    at_most (Form.own U) = omega arith
    at_most (Form.struct fields) = omega arith
    at_most (Form.shared U) = omega arith

-- the table is read back from its entries
module _ (types : List «Type») (bytes : List ℕ) (is : bytes ≡ entries_of types) (long : length (flat_map form_bytes (map form_of types)) ≡ 16 * length types) (whole : length bytes ≡ 512) where
  mine : Spells bytes (map form_of types)
  mine = is ∙ ap (λ n. padded n (flat_map form_bytes (map form_of types))) (sym whole)

  every : AllByRecursion IsLong (map form_of types)
  every = all_long (map form_of types) (long ∙ ap (λ n. 16 * n) (sym (length-map types form_of)))

  same_table : (table : Table) → IsTable table → Spells bytes table → table ≡ map form_of types
  same_table table valid spelled =
      spelled_one table (map form_of types) _ _ (all_forms IsLong table (λ T f e. length-form_bytes (length table) T f (valid.forms T f e))) every (sym spelled ∙ mine)

  pub reads_table : (result : Result Table Fault) → IsReading 2 bytes result → IfOk result (λ table. table ≡ map form_of types)
  reads_table (Ok table) h = same_table table h.table.0 h.table.2
  reads_table (Err fault) h = tt

  pub reads_if_valid : (result : Result Table Fault) → IsReading 2 bytes result → IsOk result ↔ IsTable (map form_of types)
  reads_if_valid result h = (by result h, λ valid. subst IsOk (sym (h.given (map form_of types) valid (of_sharing (map form_of types)) mine (omega (arith, whole)) (omega (arith, whole)))) refl)
    where
      by : (result : Result Table Fault) → IsReading 2 bytes result → IsOk result → IsTable (map form_of types)
      by (Ok table) h ok = subst IsTable (same_table table h.table.0 h.table.2) h.table.0
      by (Err fault) h ok = cc
