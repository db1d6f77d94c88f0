use Rattle.std.proofs.Common.{ap, ◌∙◌}
use Rattle.seg_spec.specs.Bytes.{set_word}
use Rattle.seg_spec.specs.Window.{with_bytes}
use Rattle.seg_ptr.proofs.window.Window.point.Goals as goal

pub returns : goal.returns
returns g c = c.put32.ensures ∙ ap (λ d. with_bytes c.args.self.now (set_word c.args.self.now.bytes c.args.at d)) c.distance.ensures
