use Rattle.std.proofs.Common.{rules, ◌≡◌, None}
use Rattle.seg_seq.proofs.InPlace.{vector_form}
use Rattle.seg_seq.proofs.pushing.push_any_in_place.Goals as goal

pub returns-in_err-at-clause-vector : goal.returns-in_err-at-clause-vector
returns-in_err-at-clause-vector g c = λ U vs blocks h.
    let result : c.from_residual.result ≡ None = search rules in
    let same = (vector_form c.args.heap.now.types c.args.vector.type_id U c.in-Some-Vec.type_id c.kind.result c.in-Some-Vec.field-0 (rw c.types.ensures at c.kind.ensures) c.in-Some-Vec.is c.in-Some-Vec.field-0-is).1 h.form_is in
    rw result (c.in_err-at.ensures.vector c.args.vector.type_id U vs blocks h same)

pub returns-clause-vector : goal.returns-clause-vector
returns-clause-vector g c = λ U vs blocks h.
    let same = (vector_form c.args.heap.now.types c.args.vector.type_id U c.in-Some-Vec.type_id c.kind.result c.in-Some-Vec.field-0 (rw c.types.ensures at c.kind.ensures) c.in-Some-Vec.is c.in-Some-Vec.field-0-is).1 h.form_is in
    c.in_ok-at.ensures.vector c.args.vector.type_id U vs blocks h same

pub returns-clause-some : goal.returns-clause-some
returns-clause-some g c =
    let V = c.in-Some-Vec.type_id in
    (vector_form c.args.heap.now.types c.args.vector.type_id V V c.kind.result c.in-Some-Vec.field-0 (rw c.types.ensures at c.kind.ensures) c.in-Some-Vec.is c.in-Some-Vec.field-0-is).0
