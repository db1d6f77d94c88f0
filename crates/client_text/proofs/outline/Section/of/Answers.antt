use Rattle.std.proofs.Common.{sym, ap, ◌∙◌}
use Rattle.client_spec.specs.Text.{words_of}
use Rattle.client_text.proofs.outline.Section.of.Goals as goal

pub returns-in-Some : goal.returns-in-Some
returns-in-Some c item spells = c.by.ensures c.args.line.now _ item (ap words_of (sym c.new.ensures) ∙ c.in-Some.ensures.found) spells
