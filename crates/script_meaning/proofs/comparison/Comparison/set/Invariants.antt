-- The code so far is hidden, and a term has the variable's new number.
use Rattle.script_meaning.specs.Meaning.{Moment, value, Stays}
use Rattle.script_meaning.specs.Following.{HasValue}
use Rattle.script_meaning.specs.Comparing.{setting_of, holding, knowing, Follows}
use Rattle.script_meaning.proofs.comparison.Comparison.set.Given as goal

abbrev pub invariant-loop : goal.invariant-loop
invariant-loop l = record {
  follows : Follows l.self l.at l.now (holding l.held.variables) Stays (knowing l.self l.knowledge);
  is : (m : Moment) → HasValue (setting_of l.self) m l.knowledge.terms.list.items l.wanted (value (setting_of l.self) m l.number);
}
