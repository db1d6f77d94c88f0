use Rattle.std.proofs.Common.{refl, ◌≡◌, ℕ, ◌+◌, ◌≤◌, List, length, arith, sym, ap, ◌∙◌}
use Rattle.std.proofs.lemmas.Result.{err_from_is_err_and}
use Rattle.std.specs.Prelude.{flat_map as flat_map_list}
use Rattle.seg_spec.specs.Bytes.{slice}
use Rattle.seg_spec.specs.Types.{Table, HasTable, Spells, padded, form_bytes}
use Rattle.seg_spec.specs.Sound.{HasHeader}
use Rattle.seg_spec.proofs.BytesLaws.{length-slice}
use Rattle.seg_check.proofs.checker.check.Goals as goal

-- the table that was read from the bytes after the header is the image's table
has_table : (bytes read : List ℕ) (table : Table) → HasHeader bytes → read ≡ slice bytes 64 512 → Spells read table → HasTable bytes 64 table
has_table bytes read table header is spells =
    let enough : 64 + 512 ≤ length bytes = let large = header.not_small in omega (arith, large) in
    sym is ∙ spells ∙ ap (λ n. padded n (flat_map_list form_bytes table)) (ap length is ∙ length-slice bytes 64 512 enough)

pub returns-in_err-check_heap-clause-fault : goal.returns-in_err-check_heap-clause-fault
returns-in_err-check_heap-clause-fault g c =
    let header = c.in_ok-check_header.ensures.header in
    let table = (c.in_ok-types.ensures header).table in
    let types = has_table c.args.view.bytes.now _ c.in_ok-types.types header refl table.2 in
    let p = err_from_is_err_and c.from_residual-in_err-check_heap.result c.from_residual-in_err-check_heap.ensures.1 in
    rw (p.1, p.2) (c.in_err-check_heap.ensures.fault (record { header = header; types = types; is_table = table.0; of_version = table.1 }))

pub returns-in_err-check_heap-clause-owner : goal.returns-in_err-check_heap-clause-owner
returns-in_err-check_heap-clause-owner g c =
    let header = c.in_ok-check_header.ensures.header in
    let table = (c.in_ok-types.ensures header).table in
    let types = has_table c.args.view.bytes.now _ c.in_ok-types.types header refl table.2 in
    let p = err_from_is_err_and c.from_residual-in_err-check_heap.result c.from_residual-in_err-check_heap.ensures.1 in
    rw (p.1, p.2) (c.in_err-check_heap.ensures.owner (record { header = header; types = types; is_table = table.0; of_version = table.1 }))

pub returns-in_err-check_heap-clause-position : goal.returns-in_err-check_heap-clause-position
returns-in_err-check_heap-clause-position g c =
    let header = c.in_ok-check_header.ensures.header in
    let table = (c.in_ok-types.ensures header).table in
    let types = has_table c.args.view.bytes.now _ c.in_ok-types.types header refl table.2 in
    let p = err_from_is_err_and c.from_residual-in_err-check_heap.result c.from_residual-in_err-check_heap.ensures.1 in
    rw (p.1, p.2) (c.in_err-check_heap.ensures.position (record { header = header; types = types; is_table = table.0; of_version = table.1 }))

pub returns-in_err-check_heap-clause-memory : goal.returns-in_err-check_heap-clause-memory
returns-in_err-check_heap-clause-memory g c = λ e.
    let header = c.in_ok-check_header.ensures.header in
    let table = (c.in_ok-types.ensures header).table in
    let types = has_table c.args.view.bytes.now _ c.in_ok-types.types header refl table.2 in
    (c.in_ok-types.types, record { header = header; types = types; is_table = table.0; of_version = table.1 })

pub returns-clause-image : goal.returns-clause-image
returns-clause-image g c =
    let header = c.in_ok-check_header.ensures.header in
    let table = (c.in_ok-types.ensures header).table in
    let types = has_table c.args.view.bytes.now _ c.in_ok-types.types header refl table.2 in
    c.in_ok-check_heap.ensures.image (record { header = header; types = types; is_table = table.0; of_version = table.1 })
