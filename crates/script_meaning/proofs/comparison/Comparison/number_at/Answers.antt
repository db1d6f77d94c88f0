use Rattle.std.proofs.Common.{refl}
use Rattle.script_meaning.specs.Meaning.{value}
use Rattle.script_meaning.specs.Comparing.{setting_of}
use Rattle.script_meaning.proofs.KnowingLaws.{number_law}
use Rattle.script_meaning.proofs.comparison.Comparison.number_at.Goals as goal

pub returns-then-keeps : goal.returns-then-keeps
returns-then-keeps c =
    number_law c.args.self.now c.args.at c.hidden-after.result c.args.held.now.variables
    c.begin.new.self c.hidden-after.new.knowledge (record { terms = c.number.new.self; registers = c.hidden-after.new.knowledge.registers })
    c.in_ok-term.term (λ m. value (setting_of c.args.self.now) m c.args.number.now)
    c.begin.ensures c.hidden-after.ensures c.in_ok-term.ensures.extends refl (c.if-keeps.ensures refl) (c.in_ok-term.ensures.value (setting_of c.args.self.now))
