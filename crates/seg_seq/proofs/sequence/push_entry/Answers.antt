use Rattle.std.proofs.Common.{rules, ◌≡◌, ◌∙◌, [], sym, ap, subst, Err}
use Rattle.seg_spec.specs.Reads.{Holds}
use Rattle.seg_spec.specs.Types.{Table}
use Rattle.seg_spec.specs.Value.{Value, default_of}
use Rattle.seg_cells.specs.declared.entry.Held.TheVariants as held
use Rattle.seg_cells.specs.Places.{object_at}
use Rattle.seg_seq.proofs.ItemCalls.{vector_entry, item_written}
use Rattle.seg_seq.proofs.sequence.push_entry.Goals as goal

pub returns-in_err-at-clause-vector : goal.returns-in_err-at-clause-vector
returns-in_err-at-clause-vector g c = λ T U vs blocks n h.
    let result : c.from_residual.result ≡ Err c.in_err-at.field-0.0 = search rules in
    rw result (c.in_err-at.ensures.vector T U vs blocks n h)

pub returns-in-Value-clause-vector : goal.returns-in-Value-clause-vector
returns-in-Value-clause-vector g c = λ T U vs blocks n h.
    let old = c.args.heap.now in
    let counted = c.count_entry.new.heap in
    let at = c.in_ok-at.at in
    let new = c.init_default.new.self in
    let entry = vector_entry old.types T U c.args.content.now h.form_is n in
    let same_types = c.count_entry.ensures.types in
    let values : held.Value c.in-Value.type_id ≡ held.Value U = sym c.in-Value.is ∙ entry.held_is in
    let same : c.in-Value.type_id ≡ U = cc in
    item_written g.F.Fit.allocator old c.args.cell T U vs blocks h counted new at (c.in_ok-at.ensures.vector T U vs blocks n h) same_types (default_of old.types U)
    (rw same at c.init_default.ensures.changes)
    (λ within known. subst (λ (v : Value). Holds new.window.bytes counted.types (object_at at U) v []) (ap (λ (t : Table). default_of t U) same_types) ((rw same at c.init_default.ensures.default) within known))
