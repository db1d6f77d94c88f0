-- Code that no one sees, from the registers' variables to the registers' variables.
use Rattle.script_meaning.specs.declared.comparison.Comparison.{Comparison}
use Rattle.script_meaning.specs.Meaning.{Stays}
use Rattle.script_meaning.specs.Following.{Held}
use Rattle.script_meaning.specs.Comparing.{setting_of, code_of, texts_of, knowing, holding}
use Rattle.script_meaning.proofs.SequenceLaws.{weaker}
use Rattle.script_meaning.proofs.comparison.Comparison.settled.Goals as goal

pub returns-then-keeps : goal.returns-then-keeps
returns-then-keeps c =
    let self : Comparison = c.args.self.now in
    let held : Held = c.args.held.now.variables in
    weaker (texts_of self) (code_of self) c.args.at c.hidden-after.result (knowing self c.begin.new.self) (holding held) (knowing self c.hidden-after.new.knowledge) (holding held) Stays
    (λ m s p. c.begin.ensures (setting_of self) m s p) (λ m s p. c.keeps.ensures c.if-keeps.true (setting_of self) m s p) c.hidden-after.ensures
