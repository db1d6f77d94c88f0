use Rattle.std.proofs.Common.{rules, ◌≡◌, pos, None, sym, subst}
use Rattle.seg_spec.specs.Types.{Form}
use Rattle.seg_spec.specs.Value.{Value, Int, default_of}
use Rattle.seg_spec.proofs.Values.DefaultLaws.{default-form}
use Rattle.seg_cells.specs.Places.{place_of}
use Rattle.seg_seq.specs.Sequences.{PushesItem}
use Rattle.seg_seq.proofs.InPlace.{number_items}
use Rattle.seg_seq.proofs.pushing.push_in_place.Goals as goal

pub returns-in_err-at-in-Some-clause-vector : goal.returns-in_err-at-in-Some-clause-vector
returns-in_err-at-in-Some-clause-vector g c = λ U vs blocks h.
    let T = c.args.vector.type_id in
    let result : c.from_residual.result ≡ None = search rules in
    rw result (c.in_err-at-in-Some.ensures.vector T U vs blocks h (number_items c.args.heap.now.types T U c.in-Some.type_id (sym c.in-Some.ensures) h.form_is))

-- the number 0 is the default value
pub returns-in_ok-at-in-Some-clause-vector : goal.returns-in_ok-at-in-Some-clause-vector
returns-in_ok-at-in-Some-clause-vector g c = λ U vs blocks h.
    let old = c.args.heap.now in
    let vector = place_of c.args.vector in
    let number = number_items old.types vector.type U c.in-Some.type_id (sym c.in-Some.ensures) h.form_is in
    let default : default_of old.types U ≡ Int (pos 0) = default-form old.types h.stands.is_table U Form.i64 number in
    subst (λ (v : Value). PushesItem v g.F.Fit.allocator old c.push_number_in_place.new.heap vector U vs blocks c.in_ok-at-in-Some.at)
    (sym default) (c.in_ok-at-in-Some.ensures.vector vector.type U vs blocks h number)
