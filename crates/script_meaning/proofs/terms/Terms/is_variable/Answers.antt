use Rattle.std.proofs.Common.{Some, ap, ◌∙◌}
use Rattle.std.proofs.lemmas.Bool.{eqb-true}
use Rattle.script_meaning.specs.declared.terms.Term.TheVariants as term
use Rattle.script_meaning.proofs.TermLaws.{variable_value}
use Rattle.script_meaning.proofs.terms.Terms.is_variable.Goals as goal

pub returns-in-Some : goal.returns-in-Some
returns-in-Some c = λ same setting m.
    variable_value setting m c.args.self.now.list.items c.args.at c.args.variable
    (c.in-Some.ensures ∙ ap (λ v. Some (term.Variable v)) (eqb-true c.in-Some.found c.args.variable same))
