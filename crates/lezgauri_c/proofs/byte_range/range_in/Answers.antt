use Rattle.std.proofs.Common.{◌≡◌, ◌-◌, min, length, refl, ap, ◌∙◌}
use Rattle.seg_spec.specs.Bytes.{slice}
use Rattle.seg_spec.proofs.BytesLaws.{slice-clamped}
use Rattle.lezgauri_c.proofs.byte_range.range_in.Goals as goal

pub returns-clause-bytes : goal.returns-clause-bytes
returns-clause-bytes c =
    let bytes = c.args.view.bytes.now in
    let from = min c.args.from (length bytes) in
    let at_is : c.min-at.result ≡ from = c.min-at.ensures ∙ ap (min c.args.from) c.len.ensures in
    let rest_is : c.len-2.result - c.min-at.result ≡ length bytes - from = ap (λ n. n - c.min-at.result) c.len-2.ensures ∙ ap (λ n. length bytes - n) at_is in
    let len_is : c.min-len.result ≡ min c.args.n (length bytes - from) = c.min-len.ensures ∙ ap (min c.args.n) rest_is in
    ap (λ n. slice bytes n c.min-len.result) at_is ∙ ap (slice bytes from) len_is ∙ slice-clamped bytes c.args.from c.args.n (length bytes) refl
