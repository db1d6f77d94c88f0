use Rattle.std.proofs.Common.{ℤ, subst, inr, w64, MatchResult}
use Rattle.std.proofs.lemmas.Int.{to_z-of_z}
use Rattle.seg_spec.specs.Value.{Int}
use Rattle.seg_cells.specs.Places.{place_of}
use Rattle.seg_seq.specs.Sequences.{PushesItem, LacksRoom, push_asks}
use Rattle.seg_seq.proofs.SequenceKinds.{buffer_vector}
use Rattle.seg_seq.proofs.numbers.Numbers.push_asking.Goals as goal

pub returns-in-Vector-clause-vector : goal.returns-in-Vector-clause-vector
returns-in-Vector-clause-vector g c = λ U vs blocks h number.
    let old = c.args.heap.now in
    let vector = place_of c.args.self.vector in
    let names = buffer_vector old.types vector.type c.in_ok-kind.content c.in_ok-kind.kind (inr c.in-Vector.is) c.in_ok-kind.ensures U h.form_is in
    subst (λ (z : ℤ). MatchResult c.push_number.result (PushesItem (Int z) g.F.Fit.allocator old c.push_number.new.heap vector U vs blocks)
    (LacksRoom g.F.Fit.allocator old c.push_number.new.heap (push_asks old vector U))) (to_z-of_z w64 c.args.number c.ranges.number)
    (c.push_number.ensures.vector vector.type U vs blocks names h number)
