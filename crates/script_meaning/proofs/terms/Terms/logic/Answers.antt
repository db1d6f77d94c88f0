use Rattle.std.proofs.Common.{pos}
use Rattle.script_meaning.specs.Meaning.{combined}
use Rattle.script_meaning.specs.Following.{operator_of}
use Rattle.client_spec.specs.Effect.{truth}
use Rattle.client_spec.specs.Value.{same_int}
use Rattle.script_meaning.proofs.TermLaws.{extends_keeps, if_some}
use Rattle.script_meaning.proofs.terms.Terms.logic.Goals as goal

pub returns-clause-value : goal.returns-clause-value
returns-clause-value c = if_some _ _ c.is_zero-3.result (λ at gives setting m x y left right.
    let here = extends_keeps setting m c.args.self.now.list.items c.is_zero.new.self.list.items c.args.right y c.is_zero.ensures.extends right in
    let first = extends_keeps setting m c.is_zero.new.self.list.items c.is_zero-2.new.self.list.items c.in_ok-left.left (truth (same_int x (pos 0)))
    c.is_zero-2.ensures.extends (c.in_ok-left.ensures.value setting m x left) in
    gives setting m (combined (operator_of c.args.computation) (truth (same_int x (pos 0))) (truth (same_int y (pos 0))))
    (c.in_ok-both.ensures.value setting m (truth (same_int x (pos 0))) (truth (same_int y (pos 0))) first
    (c.in_ok-right.ensures.value setting m y here))) c.is_zero-3.ensures.value
