use Rattle.std.proofs.Common.{◌≤◌, length, ◌∙◌, ap, arith}
use Rattle.std.proofs.lemmas.List.{take_all, length-take}
use Rattle.seg_spec.specs.Bytes.{slice}
use Rattle.seg_ptr.proofs.Places.{length_bytes}
use Rattle.seg_ptr.proofs.window.Window.view.Goals as goal

pub new-requires : goal.new-requires
unfolding slice
new-requires g c =
    omega (arith, ap length c.slice.ensures, length-take c.self.inside.len c.args.self.now.bytes)

pub returns : goal.returns
unfolding slice
returns g c =
    let s = c.self.inside in
    let bytes = c.args.self.now.bytes in
    let long : length bytes ≤ s.len = omega (arith, length_bytes s.region s.base s.len c.args.self.now c.self.view_is (omega arith)) in
    c.new.ensures ∙ c.slice.ensures ∙ take_all s.len bytes long
