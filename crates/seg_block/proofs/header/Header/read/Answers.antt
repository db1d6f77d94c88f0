use Rattle.std.proofs.Common.{◌≡◌, ℕ, ◌+◌, ◌%◌, ◌^◌, ◌≤◌, false, List, [], length, nat_le, ap, ◌∙◌, arith}
use Rattle.seg_spec.specs.Bytes.{slice, word}
use Rattle.seg_spec.proofs.BytesLaws.{number-slice, number_past}
use Rattle.seg_spec.proofs.SliceLaws.{slice-slice}
use Rattle.seg_block.proofs.header.Header.read.Goals as goal

-- a word of a slice is a word of the bytes
word_in : (bytes part : List ℕ) (at k : ℕ) → part ≡ slice bytes at 16 → k + 4 ≤ 16 → word part k ≡ word bytes (at + k)
word_in bytes part at k is inside = ap (λ xs. word xs k) is ∙ number-slice 4 bytes (slice bytes at 16) k (at + k) (slice-slice bytes at 16 k 4 inside)

-- a word of no bytes is 0
word_none : (part : List ℕ) (k : ℕ) → part ≡ [] → word part k ≡ 0
word_none part k is = number_past 4 part k (let e = ap length is in omega arith)

pub returns-clause-inside : goal.returns-clause-inside
returns-clause-inside c = λ fits.
    let bytes = c.args.view.bytes.now in
    let at = c.args.block in
    let part = c.part-header.ensures.inside fits in
    let first : word c.part-header.result.bytes.now 0 ≡ word bytes at = word_in bytes _ at 0 part (omega arith) ∙ ap (word bytes) (omega arith) in
    let size = c.get32-size.ensures ∙ first in
    let before = c.get32.ensures ∙ word_in bytes _ at 4 part (omega arith) in
    let tag = c.get32-2.ensures ∙ word_in bytes _ at 8 part (omega arith) in
    let units = c.units_of.ensures ∙ ap (λ n. n % 2 ^ 31) size in
    let live = c.is_live_of.ensures ∙ ap (λ n. nat_le (2 ^ 31) n) size in
    let link = c.target.ensures in
    λ i. record { units = units i; is_live = live i; units_before = before i; tag = tag i; link = link i }

pub returns-clause-past : goal.returns-clause-past
returns-clause-past c = λ past.
    let part = c.part-header.ensures.past past in
    let size : c.get32-size.result ≡ 0 = c.get32-size.ensures ∙ word_none _ 0 part in
    let before = c.get32.ensures ∙ word_none _ 4 part in
    let tag = c.get32-2.ensures ∙ word_none _ 8 part in
    let units : c.units_of.result ≡ 0 = omega (arith, c.units_of.ensures, size) in
    let live : c.is_live_of.result ≡ false = c.is_live_of.ensures ∙ ap (λ n. nat_le (2 ^ 31) n) size in
    let link = c.target.ensures in
    λ i. record { units = units i; is_live = live i; units_before = before i; tag = tag i; link = link i }
