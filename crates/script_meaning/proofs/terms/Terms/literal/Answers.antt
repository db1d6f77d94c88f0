use Rattle.std.proofs.Common.{rules}
use Rattle.script_meaning.proofs.TermLaws.{literal_value}
use Rattle.script_meaning.proofs.terms.Terms.literal.Goals as goal

pub returns-clause-value : goal.returns-clause-value
returns-clause-value c = search (rules, literal_value)
