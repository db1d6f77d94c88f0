use Rattle.std.proofs.Common.{◌≡◌, ◌++◌, map, take, drop}
use Rattle.client_spec.specs.Typed.{without_class}
use Rattle.client_verify.specs.Views.{class_of, registers_of}
use Rattle.client_verify.proofs.registers.Registers.end.Given as goal

-- the references of the class have ended in the registers so far
abbrev pub invariant-loop-i : goal.invariant-loop-i
invariant-loop-i l = registers_of l.self ≡ map (without_class (class_of l.class)) (take l.i (registers_of l.fn.self)) ++ drop l.i (registers_of l.fn.self)
