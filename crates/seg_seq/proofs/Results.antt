-- The results of calls, as the callers need them.
use Rattle.std.proofs.Common.{ℕ}
use Rattle.std.proofs.lemmas.Bool.{false≢true}
use Rattle.std.specs.Result.{IsErr, MatchResult}
use Rattle.std.specs.declared.result.Result.{Result}
use Rattle.std.specs.declared.result.Result.TheVariants.{Ok, Err}
use Rattle.seg_raw.specs.declared.code.Code.{Code}

pub refused_so : (P : ℕ → Type 0) {Q : Type 0} (r : Result ℕ Code) → IsErr r → Q → MatchResult r P (λ code. Q)
refused_so P (Ok x) e q = absurd (false≢true e)
refused_so P (Err code) e q = q
