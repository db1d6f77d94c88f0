use Rattle.std.proofs.Common.{rules, ◌≡◌, ◌+◌, ◌≤◌, [], length, sym, ap, ◌∙◌, subst, Err, w64}
use Rattle.std.proofs.lemmas.Int.{to_z-of_z}
use Rattle.seg_spec.specs.Bytes.{signed_long, ChangesOnly}
use Rattle.seg_spec.specs.Reads.{Holds}
use Rattle.seg_spec.specs.Types.{Form, Table, form_at, size}
use Rattle.seg_spec.specs.Value.{Int}
use Rattle.seg_spec.proofs.Tables.TypeSizeLaws.{size-form}
use Rattle.seg_cells.specs.Places.{object_at}
use Rattle.seg_spec.proofs.Images.RootWriteLaws.{number_held}
use Rattle.seg_seq.proofs.ItemCalls.{item_written}
use Rattle.seg_seq.proofs.numbers.push_number.Goals as goal

pub returns-in_err-at-clause-vector : goal.returns-in_err-at-clause-vector
returns-in_err-at-clause-vector g c = λ T U vs blocks n h number.
    let result : c.from_residual.result ≡ Err c.in_err-at.field-0.0 = search rules in
    rw result (c.in_err-at.ensures.vector T U vs blocks n h)

pub returns-clause-vector : goal.returns-clause-vector
returns-clause-vector g c = λ T U vs blocks n h number.
    let old = c.args.heap.now in
    let counted = c.count_entry.new.heap in
    let at = c.in_ok-at.at in
    let same_types = c.count_entry.ensures.types in
    let eight : size counted.types U ≡ 8 = rw same_types (size-form old.types h.stands.is_table U Form.i64 number) in
    item_written g.F.Fit.allocator old c.args.cell T U vs blocks h counted c.store.new.self at (c.in_ok-at.ensures.vector T U vs blocks n h) same_types
    (Int c.args.number)
    (λ within. subst (λ k. ChangesOnly counted.window.bytes c.store.new.self.window.bytes at k) (sym eight) c.store.ensures.changes)
    (λ within known.
    let fits : at + 8 ≤ length counted.window.bytes = rw eight at within.fits in
    let there : signed_long c.store.new.self.window.bytes at ≡ c.args.number = c.store.ensures.stored fits ∙ to_z-of_z w64 c.args.number c.ranges.number in
    let form = ap (λ (t : Table). form_at t U) same_types ∙ number in
    subst (λ z. Holds c.store.new.self.window.bytes counted.types (object_at at U) (Int z) []) there (number_held c.store.new.self.window.bytes counted.types (object_at at U) form))
