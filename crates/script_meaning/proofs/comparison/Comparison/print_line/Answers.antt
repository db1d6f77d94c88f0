use Rattle.client_code.specs.Views.{instruction_of}
use Rattle.script_meaning.specs.Meaning.{value}
use Rattle.script_meaning.specs.Comparing.{setting_of}
use Rattle.script_meaning.proofs.PrintLaws.{line_law}
use Rattle.script_meaning.proofs.comparison.Comparison.print_line.Goals as goal

pub returns : goal.returns
returns c =
    line_law c.args.self.now c.args.at c.in_ok-after.after c.args.held.now.variables (instruction_of c.in_ok-after.field-0-1)
    (λ m. value (setting_of c.args.self.now) m c.args.number.now) c.in_ok-after.ensures
