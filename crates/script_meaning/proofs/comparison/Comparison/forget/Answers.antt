use Rattle.client_code.specs.Views.{instruction_of}
use Rattle.script_meaning.proofs.HiddenLaws.{forget_code}
use Rattle.script_meaning.proofs.comparison.Comparison.forget.Goals as goal

pub returns-clause-some : goal.returns-clause-some
returns-clause-some c there forgets =
    forget_code c.args.self.now c.args.knowledge.now c.set.new.self (instruction_of c.args.forget) c.args.at c.in_ok-after.after there forgets
    c.set.ensures.registers c.set.ensures.terms c.in_ok-after.ensures.1
