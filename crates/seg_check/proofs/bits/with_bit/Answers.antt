use Rattle.std.proofs.Common.{◌≡◌, ◌*◌, ◌%◌, ◌^◌, bit_or, ap, ◌∙◌, arith, w64}
use Rattle.std.proofs.lemmas.Nat.Bits.{bit_at_set_same, bit_at_set_other}
use Rattle.std.specs.Int.{bit_at}
use Rattle.seg_check.proofs.bits.with_bit.Goals as goal

pub returns-clause-own : goal.returns-clause-own
returns-clause-own c = λ low.
    let n = c.args.word in
    let k = c.args.place in
    let e : k % 64 ≡ k = omega (arith, low) in
    ap (λ x. bit_at (bit_or n (1 * 2 ^ x % 18446744073709551616)) k) e ∙ bit_at_set_same w64 n k low

pub returns-clause-others : goal.returns-clause-others
returns-clause-others c = λ low i apart.
    let n = c.args.word in
    let k = c.args.place in
    let e : k % 64 ≡ k = omega (arith, low) in
    ap (λ x. bit_at (bit_or n (1 * 2 ^ x % 18446744073709551616)) i) e ∙ bit_at_set_other w64 n k low i apart
