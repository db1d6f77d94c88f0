use Rattle.std.proofs.Common.{◌≡◌, ◌+◌, ℕ, suc, Some, arith, ap, ◌∙◌}
use Rattle.client_spec.specs.declared.table.Operation.TheVariants as operation
use Rattle.client_spec.specs.Grammar.{mark}
use Rattle.script_meaning.specs.Meaning.{value}
use Rattle.script_meaning.specs.Comparing.{setting_of, IsAt, holding, HoldsNumber, Marks}
use Rattle.script_meaning.proofs.KnowingLaws.{both_then, number_held}
use Rattle.script_meaning.proofs.comparison.Comparison.end_loop.Goals as goal

next : (a b : ℕ) → a ≡ b + 1 → a ≡ suc b
next a b e = omega arith

pub returns : goal.returns
returns c =
    let start = c.in_ok-after.field-0.after in
    let term : Some (Some c.in_ok-term.field-0) ≡ Some (Some c.in_ok-after.field-0.term) = ap (λ (t : ℕ). Some (Some t)) c.if-branch-term.false in
    both_then c.mark.result (λ after. IsAt c.args.self.now start (mark operation.End)) (λ after. after ≡ start + 1)
    (λ after. Marks c.args.self.now c.args.at after operation.End (holding c.args.held.now.variables)
    (HoldsNumber c.args.held.now.variables c.args.register (λ m. value (setting_of c.args.self.now) m c.args.number.now)))
    c.mark.ensures.there c.mark.ensures.after
    (λ after there follows. record {
      start = start;
      before = number_held c.args.self.now c.args.at start c.args.held.now.variables c.number_at.new.knowledge c.in_ok-after.field-0.term c.args.register
          (λ m. value (setting_of c.args.self.now) m c.args.number.now) c.in_ok-after.ensures (c.in_ok-term.ensures ∙ term);
      there = there;
      follows = next after start follows;
    })
