-- Instructions that work out a number from two registers.
use Rattle.std.proofs.Common.{◌≡◌, ℕ, ℤ, ◌∙◌, ap}
use Rattle.client_spec.specs.declared.table.Operation.TheVariants as operation
use Rattle.client_spec.specs.Machine.{◌>>=◌, State, Register, register}
use Rattle.client_spec.specs.Answer.{integer_in, give}
use Rattle.client_spec.specs.Effect.{effect, combine}
use Rattle.script_meaning.specs.declared.program.Operator.TheVariants as operator
use Rattle.script_meaning.specs.Comparing.{Computes}

pub combine_row : (f : ℤ → ℤ → ℤ) (a b c : ℕ) (s : State) (x y : ℤ) → register s b ≡ Register.Int x → register s c ≡ Register.Int y → combine f a b c s ≡ give a (Register.Int (f x y)) s
combine_row f a b c s x y left right = ap (λ r. integer_in r >>= λ p. integer_in (register s c) >>= λ q. give a (Register.Int (f p q)) s) left ∙ ap (λ r. integer_in r >>= λ q. give a (Register.Int (f x q)) s) right

pub adds : Computes operator.Add operation.Add
unfolding effect
adds constants a b c number room s x y left right = combine_row _ a b c s x y left right

pub subtracts : Computes operator.Subtract operation.Sub
unfolding effect
subtracts constants a b c number room s x y left right = combine_row _ a b c s x y left right

pub multiplies : Computes operator.Multiply operation.Mul
unfolding effect
multiplies constants a b c number room s x y left right = combine_row _ a b c s x y left right

pub is_less : Computes operator.Less operation.Less
unfolding effect
is_less constants a b c number room s x y left right = combine_row _ a b c s x y left right

pub is_equal : Computes operator.Equal operation.Equal
unfolding effect
is_equal constants a b c number room s x y left right = combine_row _ a b c s x y left right
