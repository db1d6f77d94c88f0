use Rattle.std.proofs.Common.{◌≡◌, ◌++◌, Some, rules, ap, ◌∙◌, arith}
use Rattle.std.specs.Option.{option_to_list}
use Rattle.client_code.specs.declared.nesting.Part.TheVariants as part
use Rattle.client_code.proofs.OpenParts.{else_passed_at}
use Rattle.client_code.proofs.nesting.Nesting.pass.Goals as goal

pub returns-then-eq : goal.returns-then-eq
returns-then-eq c =
    let some : c.pop.result ≡ Some part.Success = search rules in
    else_passed_at c.args.self.now.parts.items c.pop.new.self.items c.open-then-eq.new.self.parts.items c.open-then-eq.result _ c.in-Else.is
    (c.pop.ensures.items ∙ ap (λ o. c.pop.new.self.items ++ option_to_list o) some) (let t = c.args.self.now.few in omega arith) c.open-then-eq.ensures
