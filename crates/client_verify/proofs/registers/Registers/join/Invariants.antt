use Rattle.std.proofs.Common.{◌≡◌, length, map, true, false, Err}
use Rattle.client_spec.specs.Typed.{Reason, joined}
use Rattle.client_verify.specs.Views.{register_type_of}
use Rattle.client_verify.proofs.Places.{JoinedTo}
use Rattle.client_verify.proofs.registers.Registers.join.Given as goal

abbrev pub invariant-loop-i : goal.invariant-loop-i
invariant-loop-i l = record {
  long : length l.self.types ≡ 16;
  kept : l.lost ≡ false → JoinedTo register_type_of l.first l.second l.self.types l.i;
  lost : l.lost ≡ true → joined (map register_type_of l.first) (map register_type_of l.second) ≡ Err Reason.OwnerLost;
}
