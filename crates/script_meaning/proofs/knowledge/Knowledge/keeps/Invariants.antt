use Rattle.std.proofs.Common.{◌≡◌, ℕ, ◌<◌, Some, slice_get}
use Rattle.client_spec.specs.Machine.{State, Register, register}
use Rattle.script_meaning.specs.Meaning.{Moment, Setting}
use Rattle.script_meaning.specs.Following.{Knows}
use Rattle.script_meaning.proofs.knowledge.Knowledge.keeps.Given as goal

abbrev pub invariant-loop-register : goal.invariant-loop-register
invariant-loop-register l = (r : ℕ) → r < l.register → (v : ℕ) → slice_get l.held.variables r ≡ Some (Some v)
    → (setting : Setting) (m : Moment) (s : State) → Knows setting l.self.terms.list.items l.self.registers m s → register s r ≡ Register.Int (m.variables v)
