use Rattle.std.proofs.Common.{◌≡◌, ◌-◌, ◌*◌, ◌%◌, ◌^◌, bit_and, ap, ◌∙◌, arith, w64}
use Rattle.std.proofs.lemmas.Nat.Bits.{bit_at_clear_same, bit_at_clear_other}
use Rattle.std.specs.Int.{bit_at}
use Rattle.seg_check.proofs.bits.without_bit.Goals as goal

pub returns-clause-own : goal.returns-clause-own
returns-clause-own c = λ low.
    let n = c.args.word in
    let k = c.args.place in
    let e : k % 64 ≡ k = omega (arith, low) in
    ap (λ x. bit_at (bit_and n (18446744073709551615 - 1 * 2 ^ x % 18446744073709551616)) k) e ∙ bit_at_clear_same w64 n k low

pub returns-clause-others : goal.returns-clause-others
returns-clause-others c = λ low i inside apart.
    let n = c.args.word in
    let k = c.args.place in
    let e : k % 64 ≡ k = omega (arith, low) in
    ap (λ x. bit_at (bit_and n (18446744073709551615 - 1 * 2 ^ x % 18446744073709551616)) i) e ∙ bit_at_clear_other w64 n k low i inside apart
