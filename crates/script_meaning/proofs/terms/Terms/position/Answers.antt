use Rattle.std.proofs.Common.{rules}
use Rattle.script_meaning.proofs.TermLaws.{pushed}
use Rattle.script_meaning.proofs.terms.Terms.position.Goals as goal

pub returns-clause-there : goal.returns-clause-there
returns-clause-there c = search (rules, pushed)
