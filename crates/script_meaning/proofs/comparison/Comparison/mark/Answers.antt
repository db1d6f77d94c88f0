use Rattle.std.proofs.Common.{◌≡◌, pos, Some, None, IfSome, w32, FitsSigned, arith, rules, sym, subst}
use Rattle.std.proofs.lemmas.Int.{ints}
use denote.Enum.Bare.{same_true}
use Rattle.client_spec.specs.contracts.table.Operation.{the_type}
use Rattle.client_spec.specs.Syntax as syntax
use Rattle.client_spec.specs.Grammar as grammar
use Rattle.client_code.specs.Views.{instruction_of}
use Rattle.script_meaning.specs.Comparing.{IsAt}
use Rattle.script_meaning.proofs.InstructionLaws.{is_mark}
use Rattle.script_meaning.proofs.comparison.Comparison.mark.Goals as goal

pub returns-then-found-eq0-4-clause-there : goal.returns-then-found-eq0-4-clause-there
returns-then-found-eq0-4-clause-there c =
    let fits : FitsSigned w32 c.in_ok-found.found.number = search rules in
    let number : c.in_ok-found.found.number ≡ pos 0 = omega (arith, ints) in
    let same : c.in_ok-found.found.operation ≡ c.args.operation = same_true the_type (search rules) _ _ (sym c.if-eq.ensures) in
    let marks : instruction_of c.in_ok-found.found ≡ grammar.mark c.args.operation = is_mark c.in_ok-found.found c.args.operation same c.if-found-eq0.true c.if-found-eq0-2.true c.if-found-eq0-3.true number in
    let there : IsAt c.args.self.now c.args.at (grammar.mark c.args.operation) = let P : syntax.Instruction → Type 0 = λ i. IsAt c.args.self.now c.args.at i in subst P marks c.in_ok-found.ensures in
    elim c.checked_add.result as (λ o. IfSome o (λ after. IsAt c.args.self.now c.args.at (grammar.mark c.args.operation))) [ Some x ↦ there | None ↦ tt ]
