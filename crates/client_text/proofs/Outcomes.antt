-- Consequences of a call's result.
use Rattle.std.proofs.Common.{◌≡◌, ℕ, sym, refl, subst, Bool, true, false, Option, Some, None, Result, Ok, Err, IfNone}
use Rattle.std.specs.Prelude.{MatchOption, IfSome, OnOk, OnErr}
use Rattle.std.specs.Bool.{then_some}
use Rattle.std.specs.Result.{result_ok, OkIff}

pub on_none : {T : Type 0} (r : Option T) (Q : Type 0) → Q → IfNone r Q
on_none (Some x) Q q = tt
on_none None Q q = q

pub some_given : {T : Type 0} (X : Type 0) (P Q : T → Type 0) (r : Option T) → MatchOption r X P → ((x : T) → P x → Q x) → IfSome r Q
some_given X P Q None given f = tt
some_given X P Q (Some x) given f = f x given

pub was_ok : {T E : Type 0} (r : Result T E) (x : T) (P : Type 0) → OnOk r P → result_ok r ≡ Some x → P
was_ok (Ok y) x P p same = p
was_ok (Err e) x P p same = cc

pub was_err : {T E : Type 0} (r : Result T E) (P : Type 0) → OnErr r P → result_ok r ≡ None → P
was_err (Ok y) P p same = cc
was_err (Err e) P p same = p

pub not_parsed : {N E : Type 0} (r : Result N E) (n : N) → result_ok r ≡ None → r ≡ Ok n → ⊥
not_parsed (Ok x) n none same = cc
not_parsed (Err e) n none same = cc

pub parsed_one : {N E : Type 0} (r : Result N E) (m n : N) → result_ok r ≡ Some m → r ≡ Ok n → m ≡ n
parsed_one (Ok x) m n given same = cc
parsed_one (Err e) m n given same = cc

-- if `then_some` returns None, its test failed
pub failed_test : {N : Type 0} (test : Bool) (n : N) (r : Option N) (Q : Type 0) → r ≡ then_some test n → (test ≡ false → Q) → IfNone r Q
failed_test true n r Q same q = subst (λ r. IfNone r Q) (sym same) tt
failed_test false n r Q same q = subst (λ r. IfNone r Q) (sym same) (q refl)

-- if a call for a number fails, the number is too large
pub fails_large : {E : Type 0} (P Q : Type 0) (m : ℕ) (o : Option ℕ) (r : Result ℕ E) → OkIff r P m → o ≡ result_ok r → ((P → ⊥) → Q) → IfNone o Q
fails_large P Q m o (Ok x) given same q = subst (λ o. IfNone o Q) (sym same) tt
fails_large P Q m o (Err e) given same q = subst (λ o. IfNone o Q) (sym same) (q given)
