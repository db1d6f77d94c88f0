-- The instructions up to the present position are hidden code, from the first knowledge to the present one.
use Rattle.script_meaning.specs.Meaning.{Stays}
use Rattle.script_meaning.specs.Comparing.{knowing, Follows}
use Rattle.script_meaning.proofs.comparison.Comparison.hidden.Given as goal

abbrev pub invariant-loop : goal.invariant-loop
invariant-loop l = Follows l.self l.fn.at l.now (knowing l.self l.fn.knowledge) Stays (knowing l.self l.knowledge)
