use Rattle.std.proofs.Common.{lit≤, lit<, refl, arith}
use Rattle.test_definitions.proofs.clients.bad_moves.Goals as goal

pub returns : goal.returns
returns c = record {
  all_fit = (lit< tt, (refl, lit≤ tt, lit≤ tt), (lit< tt, (refl, lit≤ tt, lit≤ tt), tt));
  odd_base = record { there = lit< tt; fit = (lit< tt, (refl, lit≤ tt, lit≤ tt), tt); bad = λ h. absurd (omega (arith, h.2.1.0)) };
  too_far = record { there = lit< tt; fit = tt; bad = λ h. absurd (omega (arith, h.1.1)) };
  not_ascending = record { there = lit< tt; fit = (lit< tt, (refl, lit≤ tt, lit≤ tt), tt); bad = λ h. absurd (omega (arith, h.2.0)) };
  step_zero = record { there = lit< tt; fit = tt; bad = λ h. absurd (omega (arith, h.0)) };
  not_first = λ h. absurd (omega (arith, h.fit.1.0));
  none = λ k h. absurd (omega (arith, h.there));
}
