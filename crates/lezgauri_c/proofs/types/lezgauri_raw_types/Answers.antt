use Rattle.std.proofs.Common.{◌≡◌, ◌*◌, List, ℕ, ◌++◌, length, drop, inl, inr, refl, ap, ◌∙◌, arith}
use Rattle.std.specs.Prelude.{flat_map}
use Rattle.seg_spec.specs.Bytes.{slice}
use Rattle.seg_spec.specs.Types.{Table, form_bytes}
use Rattle.lezgauri.specs.Faults.{IsImageOf}
use Rattle.lezgauri_c.proofs.Tables.{entries_size}
use Rattle.lezgauri_c.proofs.types.lezgauri_raw_types.Goals as goal

used_size : (image : List ℕ) (table : Table) → IsImageOf image table → (used : List ℕ) → used ≡ flat_map form_bytes table → length used ≡ 16 * length table
used_size image table is used from = ap length from ∙ entries_size image table is (slice image 64 512) refl

pub returns-then-put-clause-types : goal.returns-then-put-clause-types
returns-then-put-clause-types c table is done =
    let used = c.in-Ok.ensures.types table is in
    let size = used_size c.args.image.now table is c.in-Ok.used.now used in
    c.put.ensures.put c.if-put.true ∙ ap (λ xs. xs ++ drop (length c.in-Ok.used.now) c.args.entries.now) used
    ∙ ap (λ n. flat_map form_bytes table ++ drop n c.args.entries.now) size

pub returns-then-put-clause-counted : goal.returns-then-put-clause-counted
returns-then-put-clause-counted c table is =
    let size = used_size c.args.image.now table is c.in-Ok.used.now (c.in-Ok.ensures.types table is) in
    (omega (arith, size), inl refl)

pub returns-else-put-clause-counted : goal.returns-else-put-clause-counted
returns-else-put-clause-counted c table is =
    let size = used_size c.args.image.now table is c.in-Ok.used.now (c.in-Ok.ensures.types table is) in
    (omega (arith, size), inr refl)

pub returns-in-Err-clause-counted : goal.returns-in-Err-clause-counted
returns-in-Err-clause-counted c table is = absurd (c.in-Err.ensures.types table is)
