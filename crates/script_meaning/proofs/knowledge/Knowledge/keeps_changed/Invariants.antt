use Rattle.std.proofs.Common.{◌≡◌, ℕ, ℤ, ◌<◌, Some, slice_get}
use Rattle.client_spec.specs.Machine.{State, Register, register}
use Rattle.script_meaning.specs.Meaning.{Moment, Setting, with_variable}
use Rattle.script_meaning.specs.Following.{HasValue, Knows}
use Rattle.script_meaning.proofs.knowledge.Knowledge.keeps_changed.Given as goal

abbrev pub invariant-loop-register : goal.invariant-loop-register
invariant-loop-register l = (r : ℕ) → r < l.register → (v : ℕ) → slice_get l.held.variables r ≡ Some (Some v)
    → (setting : Setting) (m : Moment) (s : State) (k : ℤ) → Knows setting l.self.terms.list.items l.self.registers m s → HasValue setting m l.self.terms.list.items l.new k
    → register s r ≡ Register.Int ((with_variable m l.changed k).variables v)
