use Rattle.std.proofs.Common.{◌≡◌, ◌+◌, ◌-◌, min, length, take, drop, refl, arith, ◌∙◌}
use Rattle.seg_spec.specs.Bytes.{slice}
use Rattle.seg_spec.proofs.BytesLaws.{slice-clamped}
use Rattle.seg_ptr.proofs.view.View.slice.Goals as goal

pub returns : goal.returns
unfolding slice
returns c =
    let bytes = c.args.self.bytes.now in
    let from : c.min-from.result ≡ min c.args.at (length bytes) = omega arith in
    let size : c.min-from.result + c.min-len.result - c.min-from.result ≡ min c.args.n (length bytes - min c.args.at (length bytes)) = omega arith in
    (λ i. take (size i) (drop (from i) bytes)) ∙ slice-clamped bytes c.args.at c.args.n (length bytes) refl
