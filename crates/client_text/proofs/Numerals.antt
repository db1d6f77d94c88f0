-- Numbers in a text, in the form in which they are printed.
use Rattle.std.proofs.Common.{◌≡◌, ℕ, ℤ, pos, negsuc, ◌<◌, ◌^◌, FitsSigned, arith, sym, ◌∷◌, ◌-◌, length, take, drop, subst, List, Some, None, Result, Ok, Err, MatchResult, Bor}
use Rattle.std.specs.Int.{w32}
use Rattle.std.specs.Int.Signed.{mag}
use Rattle.std.specs.Result.{result_ok}
use Rattle.std.proofs.lemmas.List.{take_all}
use Rattle.std.specs.Str.{IsUtf8}

-- bytes that convert to a text are that text
pub is_text : {E : Type 0} (W : E → Type 0) (r : Result (Bor (List ℕ)) E) (x : Bor (List ℕ)) (bytes : List ℕ) → MatchResult r (λ s. (s.now ≡ bytes) × IsUtf8 bytes) W → result_ok r ≡ Some x → x.now ≡ bytes
is_text W (Ok y) x bytes m some = let a = m.0 in cc
is_text W (Err e) x bytes m some = cc

pub not_text : {E : Type 0} (P : Bor (List ℕ) → Type 0) (W : E → Type 0) (r : Result (Bor (List ℕ)) E) (bytes : List ℕ) → MatchResult r P (λ e. (IsUtf8 bytes → ⊥) × W e) → result_ok r ≡ None → IsUtf8 bytes → ⊥
not_text P W (Ok x) bytes m none utf8 = cc
not_text P W (Err e) bytes m none utf8 = m.0 utf8

-- the magnitude of a 32-bit number is below 2 ^ 63
pub within : (z : ℤ) → FitsSigned w32 z → mag z < 2 ^ 63
within (pos n) fits = omega arith
within (negsuc n) fits = omega arith

-- the rest of a word after its letter is the digits
pub after_letter : (letter : ℕ) (word digits : List ℕ) → word ≡ letter ∷ digits → take (length word - 1) (drop 1 word) ≡ digits
after_letter letter word digits same = subst (λ w. take (length w - 1) (drop 1 w) ≡ digits) (sym same) (take_all (length (letter ∷ digits) - 1) digits (omega arith))
