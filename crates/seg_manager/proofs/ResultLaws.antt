-- Options and results, by the tests in a call.
use Rattle.std.proofs.Common.{◌≡◌, ℕ, true, false, Option, Some, None, Result, Ok, Err, MatchResult, List, ap, refl, sym, subst, ◌∙◌}
use Rattle.std.specs.Option.{is_some, IsSome}
use Rattle.seg_spec.specs.Window.{Placement, with_bytes}
use Rattle.std.specs.Result.{IsErr, IsErrAnd}
use Rattle.std.proofs.lemmas.Bool.{false≢true, true≢false}

pub some_is : (o : Option ℕ) → is_some o ≡ true → IsSome o
some_is None e = absurd (false≢true e)
some_is (Some x) e = refl

pub none_is : (o : Option ℕ) → is_some o ≡ false → o ≡ None
none_is None e = refl
none_is (Some x) e = absurd (true≢false e)

-- the result has the error that the inner call returned
pub handed_on : {X E : Type 0} (r : Result X E) (d e : E) (P : X → Type 0) (Q : E → Type 0) → IsErr r → IsErrAnd r (λ f. f ≡ d) → d ≡ e → Q e → MatchResult r P Q
handed_on (Ok x) d e P Q i a is q = absurd (false≢true i)
handed_on (Err f) d e P Q i a is q = subst Q (sym (a ∙ is)) q

pub by_result : {X E : Type 0} (P Q : X → Type 0) (R S : E → Type 0) (r : Result X E) → ((x : X) → P x → Q x) → ((e : E) → R e → S e) → MatchResult r P R → MatchResult r Q S
by_result P Q R S (Ok x) f k m = f x m
by_result P Q R S (Err e) f k m = k e m

-- the host's bytes are kept by two writes, one after the other
pub host_twice : (a b c : Placement) (x : List ℕ) → b ≡ with_bytes a b.bytes → c ≡ with_bytes b x → c ≡ with_bytes a c.bytes
host_twice a b c x e f =
    let bytes_are : c.bytes ≡ x = ap (λ (p : Placement). p.bytes) f in
    f ∙ ap (λ p. with_bytes p x) e ∙ ap (with_bytes a) (sym bytes_are)
