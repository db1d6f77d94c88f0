use Rattle.std.proofs.Common.{◌≡◌, ℕ, ℤ, pos, negsuc, nat_abs, nat_eq, Bool, true, false, w32, FitsSigned, rules, refl, sym, ap, ◌∙◌}
use Rattle.std.specs.Prelude.{Result, Ok, Err, not}
use Rattle.std.specs.Result.{OkIff, result_eq}
use Rattle.std.specs.Int.{FitsUnsignedBits}
use Rattle.std.proofs.lemmas.Int.{to_z-of_z}
use Rattle.std.proofs.lemmas.Bool.Decides.{Decides-eqb}
use Rattle.client_code.specs.Views.{instruction_of}
use Rattle.script_meaning.proofs.KnowingLaws.{not_false}
use Rattle.script_meaning.proofs.comparison.Comparison.open_loop.Goals as goal

-- a number that converts to this one is this one
converted : {E : Type 0} (F : E → E → Bool) (k : ℤ) (turns : ℕ) (r : Result ℕ E) → OkIff r (FitsUnsignedBits 32 k) (nat_abs k)
    → false ≡ not (result_eq nat_eq F r (Ok turns)) → k ≡ pos turns
converted F (pos n) turns (Ok x) (fits, same) e = ap pos (sym same ∙ (Decides-eqb x turns).0 (not_false (nat_eq x turns) e))
converted F (pos n) turns (Err d) fails e = absurd (let f : false ≡ true = e in cc)
converted F (negsuc n) turns (Ok x) (fits, same) e = absurd fits
converted F (negsuc n) turns (Err d) fails e = absurd (let f : false ≡ true = e in cc)

pub returns : goal.returns
returns c =
    let fits : FitsSigned w32 c.in_ok-body.instruction.number = search rules in (
      instruction_of c.in_ok-body.instruction,
      c.in_ok-body.ensures,
      refl,
      sym (to_z-of_z w32 c.in_ok-body.instruction.number fits) ∙ converted _ _ c.args.turns c.try_from.result c.try_from.ensures c.if-ne.ensures,
    )
