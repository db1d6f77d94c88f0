use Rattle.client_spec.specs.Machine.{State}
use Rattle.script_meaning.specs.Meaning.{Moment, Setting}
use Rattle.script_meaning.specs.Following.{Knows, Holds}
use Rattle.script_meaning.proofs.knowledge.Knowledge.begin.Given as goal

abbrev pub invariant-loop-register : goal.invariant-loop-register
invariant-loop-register l = (setting : Setting) (m : Moment) (s : State) → Holds l.held.variables m s → Knows setting l.self.terms.list.items l.self.registers m s
