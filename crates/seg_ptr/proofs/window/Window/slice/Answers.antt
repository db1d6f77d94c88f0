use Rattle.std.proofs.Common.{◌≡◌, ◌+◌, ◌-◌, min, arith, ◌∙◌, rules}
use Rattle.seg_spec.specs.Bytes.{slice}
use Rattle.seg_ptr.proofs.Places.{read_clamped}
use Rattle.seg_ptr.proofs.window.Window.slice.Goals as goal

pub returns : goal.returns
returns g c =
    let s = c.self.inside in
    let from : c.min-from.result ≡ min c.args.at s.len = search rules in
    let size : c.min.result ≡ min c.args.n (s.len - min c.args.at s.len) = omega arith in
    c.slice.ensures ∙ (λ i. slice s.region.bytes (s.base + from i) (size i)) ∙ read_clamped s.region s.base s.len c.args.at c.args.n c.args.self.now c.self.view_is (omega arith)
