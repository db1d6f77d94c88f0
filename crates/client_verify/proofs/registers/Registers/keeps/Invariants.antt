use Rattle.client_verify.specs.Views.{register_type_of}
use Rattle.client_verify.proofs.Places.{KeptTo}
use Rattle.client_verify.proofs.registers.Registers.keeps.Given as goal

abbrev pub invariant-loop-i : goal.invariant-loop-i
invariant-loop-i l = KeptTo register_type_of l.self.types l.after.types l.i
