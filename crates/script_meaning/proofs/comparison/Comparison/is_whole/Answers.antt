use Rattle.std.proofs.Common.{length}
use Rattle.std.proofs.lemmas.Bool.{eqb-true}
use Rattle.script_meaning.proofs.WholeLaws.{whole_law}
use Rattle.script_meaning.proofs.comparison.Comparison.is_whole.Goals as goal

pub returns-in-Some-settled : goal.returns-in-Some-settled
returns-in-Some-settled c = λ same.
    whole_law c.args.self.now c.args.program.now.code c.nothing-held.result.variables c.in-Some.end c.in-Some-settled.after c.nothing-held.ensures c.in-Some.ensures c.in-Some-settled.ensures
    (eqb-true c.in-Some-settled.after (length c.args.self.now.instructions.now) same)
