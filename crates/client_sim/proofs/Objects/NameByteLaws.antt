-- The names for valid constants are printable, and short enough.
use Rattle.std.proofs.Common.{◌≡◌, ℕ, zero, suc, ◌^◌, ◌<◌, ◌≤◌, ℤ, pos, negsuc, List, [], ◌∷◌, length-append, Some, subst, arith}
use Rattle.std.specs.Prelude.{All}
use Rattle.std.specs.Fmt.{decimal, signed_decimal}
use Rattle.std.specs.Int.Signed.{mag}
use Rattle.std.specs.Str.Parse.{AllDigits}
use Rattle.std.proofs.lemmas.Fmt.{decimal_is_IsNumeral, length_signed_le}
use Rattle.std.proofs.lemmas.Str.Parse.{digit_from_value}
use Rattle.std.proofs.lemmas.List.Elements.{All-append}
use Rattle.seg_spec.specs.Index.{IsName}
use Rattle.client_spec.specs.Syntax.{Constant}
use Rattle.client_spec.specs.Machine.{Register}
use Rattle.client_spec.specs.Answer.{constant_name}
use Rattle.client_spec.specs.Grammar.{IsConstant, IsNameByte}
use Rattle.client_spec.proofs.TypedStates.ValueLaws.{Some_inj}

abbrev IsPrintable : ℕ → Type 0
IsPrintable b = (33 ≤ b) × (b ≤ 126)

all_more : (x : ℕ) (xs : List ℕ) → IsPrintable x → All IsPrintable xs → All IsPrintable (x ∷ xs)
all_more x xs first rest zero d lt = first
all_more x xs first rest (suc k) d lt = rest k d (omega (arith, lt))

digits_printed : (ds : List ℕ) → AllDigits 10 ds → All IsPrintable ds
digits_printed [] h k d lt = absurd (omega (arith, lt))
digits_printed (c ∷ cs) h zero d lt = let e = digit_from_value c h.0 in (omega (arith, e), omega (arith, e))
digits_printed (c ∷ cs) h (suc k) d lt = digits_printed cs h.1 k d (omega (arith, lt))

decimal_printed : (n : ℕ) → n < 2 ^ 64 → All IsPrintable (decimal n)
decimal_printed n small = digits_printed (decimal n) (decimal_is_IsNumeral n small).0.1

number_printed : (z : ℤ) → mag z < 2 ^ 63 → All IsPrintable (signed_decimal z)
number_printed (pos n) small = decimal_printed n (omega (arith, small))
number_printed (negsuc n) small = all_more 45 (decimal (suc n)) (omega arith, omega arith) (decimal_printed (suc n) (omega (arith, small)))

bytes_printed : (xs : List ℕ) → All IsNameByte xs → All IsPrintable xs
bytes_printed xs h k d lt = let x = h k d lt in (x.0, x.1)

pub name_right : (constant : Constant) (z : ℤ) (name : List ℕ) → IsConstant constant → mag z < 2 ^ 63 → constant_name constant (Register.Int z) ≡ Some name → IsName name
name_right (Constant.Text bytes) z name h small e = cc
name_right (Constant.Name bytes) z name h small e = subst IsName (Some_inj e) (record { not_empty = h.0; short = h.1; printable = bytes_printed bytes h.2 })
name_right (Constant.Family prefix) z name h small e =
    let long = length-append prefix (35 ∷ signed_decimal z) in
    let some = h.0 in
    let few = h.1 in
    let digits = length_signed_le 19 z (omega (arith, small)) small in
    subst IsName (Some_inj e) (record {
      not_empty = omega (arith, long, some);
      short = omega (arith, long, few, digits);
      printable = All-append IsPrintable prefix (35 ∷ signed_decimal z) (bytes_printed prefix h.2) (all_more 35 (signed_decimal z) (omega arith, omega arith) (number_printed z small));
    })
