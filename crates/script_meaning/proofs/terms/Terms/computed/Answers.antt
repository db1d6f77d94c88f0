use Rattle.std.proofs.Common.{◌≡◌, subst, ◌∙◌, arith, FitsSigned, w64}
use Rattle.std.specs.Int.{cast_signed, cast_unsigned}
use Rattle.std.proofs.lemmas.Int.{to_z-of_z}
use Rattle.script_meaning.specs.Meaning.{combined}
use Rattle.script_meaning.specs.Following.{HasValue, operator_of}
use Rattle.script_meaning.proofs.TermLaws.{if_some, literal_is}
use Rattle.script_meaning.proofs.terms.Terms.computed.Goals as goal

pub returns-in-Some-Some-clause-value : goal.returns-in-Some-Some-clause-value
returns-in-Some-Some-clause-value c = if_some _ _ c.literal.result (λ at gives setting m x y left right.
    let result_fits : FitsSigned w64 c.compute.result = record { sfits = c.compute.type_inv } in
    let left_fits : FitsSigned w64 c.in-Some-Some.x = record { sfits = let inside = rw c.in-Some-Some.is-0 at c.literal_at.type_inv in omega arith } in
    let right_fits : FitsSigned w64 c.in-Some-Some.y = record { sfits = let inside = rw c.in-Some-Some.is-1 at c.literal_at-2.type_inv in omega arith } in
    let first : c.in-Some-Some.x ≡ x = literal_is setting m c.args.self.now.list.items c.args.left c.in-Some-Some.x x c.in-Some-Some.ensures left in
    let second : c.in-Some-Some.y ≡ y = literal_is setting m c.args.self.now.list.items c.args.right c.in-Some-Some.y y c.in-Some-Some.ensures' right in
    subst (λ k. HasValue setting m c.literal.new.self.list.items at (combined (operator_of c.args.computation) x k)) (to_z-of_z w64 c.in-Some-Some.y right_fits ∙ second)
    (subst (λ k. HasValue setting m c.literal.new.self.list.items at (combined (operator_of c.args.computation) k (cast_signed w64 (cast_unsigned w64 c.in-Some-Some.y))))
    (to_z-of_z w64 c.in-Some-Some.x left_fits ∙ first)
    (subst (λ k. HasValue setting m c.literal.new.self.list.items at k) (to_z-of_z w64 c.compute.result result_fits ∙ c.compute.ensures) (gives setting m)))) c.literal.ensures.value
