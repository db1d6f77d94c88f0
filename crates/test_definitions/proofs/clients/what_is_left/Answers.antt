use Rattle.std.proofs.Common.{[], lit<, lit≤, refl, arith}
use Rattle.std.specs.Prelude.{codes}
use Rattle.seg_spec.specs.Bytes.{slice}
use Rattle.client_spec.specs.Run.{finished}
use Rattle.client_spec.specs.Safe.{IsFront}
use Rattle.client_spec.specs.Clients.{IsLeftInPlace}
use Rattle.client_spec.specs.Fixtures.{increment, counted, left_with, given_at_0}
use Rattle.client_spec.proofs.Runs.TotalRunLaws.{increment_runs}
use Rattle.test_definitions.proofs.clients.what_is_left.Goals as goal

placed : IsLeftInPlace (given_at_0 (codes "ab")) (left_with 1 finished [] (codes "cd"))
unfolding slice
placed = record { placed = refl; same_size = refl; same_room = refl; place = (refl, lit≤ tt, lit≤ tt) }

front : IsFront increment counted (record counted { output = codes "4" })
front =
    let r = increment_runs in
    record { last = r.0; steps = 6; runs = r.1; rest = codes "2\n"; output = r.2; some = lit< tt }

pub returns : goal.returns
returns c = record {
  placed = placed;
  larger = λ h. absurd (omega (arith, h.same_size));
  front = front;
  more = record { types = refl; more = codes "2"; output = refl };
  less = λ h. let e = h.output in cc;
  other_types = λ h. let e = h.types in cc;
}
