use Rattle.std.proofs.lemmas.Option.{IfSome_then}
use Rattle.script_meaning.specs.Meaning.{Writes}
use Rattle.script_meaning.specs.Comparing.{texts_of, code_of, holding}
use Rattle.script_meaning.proofs.SequenceLaws.{hidden_then}
use Rattle.script_meaning.proofs.comparison.Comparison.print.Goals as goal

pub returns : goal.returns
returns c =
    let ties = holding c.args.held.now.variables in
    IfSome_then c.texts.result c.texts.ensures
    (λ after writes. hidden_then (texts_of c.args.self.now) (code_of c.args.self.now) c.args.at c.in_ok-start.start after ties ties ties (Writes (λ m. c.args.bytes.now))
    c.in_ok-start.ensures (writes c.args.held.now.variables))
