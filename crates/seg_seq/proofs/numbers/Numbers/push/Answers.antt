use Rattle.std.proofs.Common.{ℤ, refl, subst, w64, of_z, to_z, MatchResult}
use Rattle.std.proofs.lemmas.Int.{to_z-of_z}
use Rattle.seg_spec.specs.Value.{Int}
use Rattle.seg_cells.specs.Places.{place_of}
use Rattle.seg_value.specs.Stored.{Stored}
use Rattle.seg_seq.specs.Sequences.{PushesItem, PushesNumber, LacksRoom, push_asks}
use Rattle.seg_value.proofs.Stores.{same_stored}
use Rattle.seg_seq.proofs.numbers.Numbers.push.Goals as goal

pub returns-in-Some-clause-vector : goal.returns-in-Some-clause-vector
returns-in-Some-clause-vector g c = λ U vs blocks h number.
    let vector = place_of c.args.self.vector in
    subst (λ (z : ℤ). PushesItem (Int z) g.F.Fit.allocator c.args.heap.now c.push_number_in_place.new.heap vector U vs blocks c.in-Some.at)
    (to_z-of_z w64 c.args.number c.ranges.number) (c.in-Some.ensures.vector vector.type U vs blocks h number)

pub returns-in-None-clause-vector : goal.returns-in-None-clause-vector
returns-in-None-clause-vector g c = λ U vs blocks h number.
    let vector = place_of c.args.self.vector in
    let stays = same_stored c.push_number_in_place.new.heap c.args.heap.now (c.in-None.ensures.none refl) c.in-None.ensures.types in
    let after = c.push_asking.new.heap in
    subst (λ (z : ℤ). MatchResult c.push_asking.result (PushesItem (Int z) g.F.Fit.allocator c.args.heap.now after vector U vs blocks)
    (LacksRoom g.F.Fit.allocator c.args.heap.now after (push_asks c.args.heap.now vector U))) (to_z-of_z w64 c.args.number c.ranges.number)
    (subst (λ (s : Stored). PushesNumber g.F.Fit.allocator s after vector (to_z w64 (of_z w64 c.args.number)) c.push_asking.result) stays c.push_asking.ensures.vector U vs blocks h number)
