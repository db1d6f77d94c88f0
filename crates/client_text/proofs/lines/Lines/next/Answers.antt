use Rattle.std.proofs.Common.{refl, sym, ◌∙◌, arith}
use Rattle.std.proofs.lemmas.Bool.{eqb-false}
use Rattle.client_text.proofs.TextLines.{one_line}
use Rattle.client_text.proofs.lines.Lines.next.Goals as goal

pub returns-clause-found : goal.returns-clause-found
returns-clause-found c =
    one_line c.args.self.now.text.now _ _ _ c.line_len.result _ (let some = eqb-false _ 0 (sym c.is_empty.ensures ∙ c.if-is_empty.false) in
    omega arith) c.line_len.ensures.count c.split_at.ensures.front c.split_at.ensures.back c.min.ensures refl
