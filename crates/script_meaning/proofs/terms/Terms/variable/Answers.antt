use Rattle.std.proofs.Common.{rules}
use Rattle.script_meaning.proofs.TermLaws.{variable_value}
use Rattle.script_meaning.proofs.terms.Terms.variable.Goals as goal

pub returns-clause-value : goal.returns-clause-value
returns-clause-value c = search (rules, variable_value)
